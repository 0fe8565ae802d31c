-- Which names a pattern matches. A name is the list of its characters: the code points that its
-- UTF-8 bytes encode. OMNeT++ Simulation Manual, "Using Wildcard Patterns".
use Rattle.std.specs.Prelude.{◌≡◌, ◌≢◌, ℕ, ◌<◌, ◌≤◌, ◌==◌, nat_le, Bool, true, false, not, ◌&&◌}
use Rattle.std.specs.Prelude.{IsTrue, List, [], ◌∷◌, ◌++◌, length, Option, IfSome}
use Rattle.std.specs.Char.{is_ascii_digit}
use Rattle.std.specs.List.{list_all, list_any}
use Rattle.std.specs.Str.Parse.{digits_value}
use Rattle.ini_pattern.specs.declared.piece.CharRange.{CharRange}
use Rattle.ini_pattern.specs.declared.piece.Piece.{Piece}
use Rattle.ini_pattern.specs.declared.piece.Piece.TheVariants.{AnyPath, AnyName, AnyChar, Char, Set}
use Rattle.ini_pattern.specs.declared.piece.Piece.TheVariants.{Number}

-- no character is a dot
abbrev pub has_no_dot : List ℕ → Bool
has_no_dot text = list_all (λ c. not (c == 46)) text

-- a character is in one of the ranges, whose ends count
abbrev pub in_ranges : List CharRange → ℕ → Bool
in_ranges ranges c = list_any (λ range. nat_le range.first c && nat_le c range.last) ranges

-- a text begins with a digit
abbrev pub begins_with_digit : List ℕ → Bool
begins_with_digit [] = false
begins_with_digit (c ∷ cs) = is_ascii_digit c

-- a run of at most 18 digits that no digit follows, and its value is in the range, whose ends count
pub record IsNumberIn (low : ℕ) (high : Option ℕ) (run rest : List ℕ) : Type 0 where
  pub digits : list_all is_ascii_digit run ≡ true
  pub some : 0 < length run
  pub short : length run ≤ 18
  pub whole : begins_with_digit rest ≡ false
  pub above : low ≤ digits_value 10 run
  pub below : IfSome high (λ most. digits_value 10 run ≤ most)

-- A piece takes these characters, where the rest of the name follows them.
abbrev pub Takes : Piece → List ℕ → List ℕ → Type 0
Takes AnyPath taken rest = Unit {0}
Takes AnyName taken rest = IsTrue (has_no_dot taken)
Takes AnyChar taken rest = (c : ℕ) × (taken ≡ c ∷ []) × (c ≢ 46)
Takes (Char c) taken rest = taken ≡ c ∷ []
Takes (Set negated ranges) taken rest =
    (c : ℕ) × (taken ≡ c ∷ []) × (in_ranges ranges c ≡ not negated)
Takes (Number low high) taken rest = IsNumberIn low high taken rest

-- The pieces take, one after another, what stands before the rest of a name.
abbrev pub Covers : List Piece → List ℕ → List ℕ → Type 0
Covers [] name rest = name ≡ rest
Covers (piece ∷ pieces) name rest =
    (taken left : List ℕ) × (name ≡ taken ++ left) × Takes piece taken left
    × Covers pieces left rest

-- A pattern matches a name: its pieces take all of it.
abbrev pub Matches : List Piece → List ℕ → Type 0
Matches pieces name = Covers pieces name []
