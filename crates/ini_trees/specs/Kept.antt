-- What a line keeps of those that it is merged of.
use Rattle.std.specs.Prelude.{◌≡◌, ◌⊎◌, List, [], ◌∷◌}
use Rattle.std.specs.List.{Contains}
use Rattle.ini_trees.specs.declared.lines.IniLine.{IniLine}
use Rattle.ini_trees.specs.Sections.{bases_named, IsLine}
use Rattle.ini_trees.specs.Words.{Bytes}

-- all of the first list stands in the second, in its order
abbrev pub IsKept : {X : Type 0} → List X → List X → Type 0
IsKept [] ys = Unit {0}
IsKept (x ∷ xs) [] = ⊥
IsKept (x ∷ xs) (y ∷ ys) = ((x ≡ y) × IsKept xs ys) ⊎ IsKept (x ∷ xs) ys

-- in the line of a configuration those that it extends stand as it names them, and the line of each
-- of them stands in its order
abbrev pub KeepsOrder : List IniLine → Bytes → Type 0
KeepsOrder lines name =
    (line : List Bytes)
    → IsLine lines name line
    → IsKept (bases_named name lines) line
    × ((base : Bytes) (other : List Bytes) → Contains (bases_named name lines) base
    → IsLine lines base other → IsKept other line)
