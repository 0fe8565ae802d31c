-- Which last name a pattern's paths have.
use Rattle.std.specs.Prelude.{◌≡◌, ◌≢◌, ℕ, true, List, [], ◌∷◌, ◌++◌, map}
use Rattle.std.specs.Str.{chars, IsAscii}
use Rattle.ini_pattern.specs.Matched.{is_matched}
use Rattle.ini_pattern.specs.declared.piece.Piece.{Piece}
use Rattle.ini_pattern.specs.declared.piece.Piece.TheVariants.{Char}
use Rattle.ini_trees.specs.Entries.{last_name}

-- a name has no dot
abbrev pub HasNoDot : List ℕ → Type 0
HasNoDot [] = Unit {0}
HasNoDot (c ∷ cs) = (c ≢ 46) × HasNoDot cs

-- the pieces of a dot and a name
abbrev pub literal_end : List ℕ → List Piece
literal_end name = map Char (46 ∷ name)

-- A PATTERN THAT ENDS IN A DOT AND A NAME matches only paths whose last name is that, of the paths
-- that have ASCII characters alone
abbrev pub LastNameIsLiteral : Type 0
LastNameIsLiteral = (front : List Piece) (name path : List ℕ) → IsAscii path → HasNoDot name
    → is_matched (front ++ literal_end name) (chars path) ≡ true → last_name path ≡ name
