-- Paths of modules: names parted by dots, none of which has a dot.
use Rattle.std.specs.Prelude.{ℕ, ◌==◌, Bool, List, [], ◌∷◌, ◌++◌, if◌then◌else◌}
use Rattle.std.specs.List.{list_any}

abbrev pub has_dot : List ℕ → Bool
has_dot bytes = list_any (λ c. c == 46) bytes

-- what stands before the last dot; nothing where there is no dot
abbrev pub parent_path : List ℕ → List ℕ
parent_path [] = []
parent_path (c ∷ cs) = if has_dot cs then c ∷ parent_path cs else []

-- the path of what has that name in the module of that path
abbrev pub path_in : List ℕ → List ℕ → List ℕ
path_in path name = path ++ 46 ∷ name
