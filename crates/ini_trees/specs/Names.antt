-- Names that references in a set lead to.
use Rattle.std.specs.Prelude.{List, [], ◌∷◌, ◌++◌, map, if◌then◌else◌}
use Rattle.std.specs.Borrow.{Bor}
use Rattle.ini_trees.specs.Words.{Bytes}
use Rattle.ini_trees.specs.Numbers.{holds}

abbrev pub names_in : List (Bor Bytes) → List Bytes
names_in keys = map (λ (k : Bor Bytes). k.now) keys

-- the names, and this one after them, unless it is one of them
abbrev pub with_name : List Bytes → Bytes → List Bytes
with_name names name = if holds names name then names else names ++ name ∷ []
