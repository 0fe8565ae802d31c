-- Names by their places.
use Rattle.std.specs.Prelude.{ℕ, Bool, List, [], ◌∷◌, ◌++◌, Option, if◌then◌else◌}
use Rattle.std.specs.List.{list_any, position}
use Rattle.std.specs.Str.{bytes_eq}

-- where a name stands in a list of names
abbrev pub position_of : List ℕ → List (List ℕ) → Option ℕ
position_of name names = position (bytes_eq name) names

-- whether a name is one of these
abbrev pub is_one : List ℕ → List (List ℕ) → Bool
is_one name names = list_any (bytes_eq name) names

-- with a name after the others, unless it is one of them
abbrev pub with_name : List ℕ → List (List ℕ) → List (List ℕ)
with_name name names = if is_one name names then names else names ++ name ∷ []
