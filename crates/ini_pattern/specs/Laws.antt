-- Laws of matching.
use Rattle.std.specs.Prelude.{◌≡◌, ◌↔◌, ℕ, ◌==◌, Bool, not, ◌||◌, IsTrue, List, [], ◌∷◌, ◌++◌, map}
use Rattle.std.specs.Prelude.{codes, Some}
use Rattle.std.specs.List.{list_all}
use Rattle.ini_pattern.specs.declared.piece.Piece.{Piece}
use Rattle.ini_pattern.specs.declared.piece.Piece.TheVariants.{AnyPath, AnyName, Char}
use Rattle.ini_pattern.specs.Matches.{has_no_dot, Matches}
use Rattle.ini_pattern.specs.PatternOf.{pattern_of}

-- a character with a meaning of its own in a pattern: `*`, `?`, `{`, `[` or a backslash
abbrev pub is_wildcard : ℕ → Bool
is_wildcard c = c == 42 || (c == 63 || (c == 123 || (c == 91 || c == 92)))

-- no character has such a meaning
abbrev pub is_plain : List ℕ → Bool
is_plain text = list_all (λ c. not (is_wildcard c)) text

-- a text without such characters is a pattern that matches this text alone
abbrev pub PlainMatchesItself : Type 0
PlainMatchesItself =
    (text : List ℕ) → IsTrue (is_plain text) → (pattern_of text ≡ Some (map Char text))
    × ((name : List ℕ) → Matches (map Char text) name ↔ (name ≡ text))

-- `**` is a pattern that matches every name
abbrev pub TwoStarsMatchAll : Type 0
TwoStarsMatchAll =
    (pattern_of (codes "**") ≡ Some (AnyPath ∷ []))
    × ((name : List ℕ) → Matches (AnyPath ∷ []) name)

-- `*` is a pattern that matches the names without a dot
abbrev pub StarStopsAtDot : Type 0
StarStopsAtDot =
    (pattern_of (codes "*") ≡ Some (AnyName ∷ []))
    × ((name : List ℕ) → Matches (AnyName ∷ []) name ↔ IsTrue (has_no_dot name))

-- a name that pieces, a dot and `**` match has a dot, and before it what the pieces match
abbrev pub MatchesBeforeDot : Type 0
MatchesBeforeDot =
    (pieces : List Piece) (name : List ℕ) → Matches (pieces ++ (Char 46 ∷ AnyPath ∷ [])) name
    → (front rest : List ℕ) × (name ≡ front ++ (46 ∷ rest)) × Matches pieces front
