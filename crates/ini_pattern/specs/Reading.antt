-- What the steps of reading and matching give.
use Rattle.std.specs.Prelude.{◌≡◌, ◌≢◌, ℕ, ◌≤◌, ◌==◌, nat_le, nat_lt, min, Bool, true, false, not, ◌&&◌}
use Rattle.std.specs.Prelude.{List, [], ◌∷◌, ◌++◌, length, Option, Some, None, option_and_then}
use Rattle.std.specs.Prelude.{if◌then◌else◌}
use Rattle.std.specs.Str.Parse.{digits_value}
use Rattle.ini_pattern.specs.declared.reading.Digits.{Digits}
use Rattle.ini_pattern.specs.declared.piece.Piece.{Piece}
use Rattle.ini_pattern.specs.declared.piece.Piece.TheVariants.{AnyPath, AnyName, AnyChar, Char, Set}
use Rattle.ini_pattern.specs.declared.piece.Piece.TheVariants.{Number}
use Rattle.ini_pattern.specs.Matches.{has_no_dot, in_ranges, Covers, Matches}
use Rattle.ini_pattern.specs.PatternOf.{digits_front, after_digits}

-- the count of digits, up to 19, and their value where they are no more than 18
pub record IsReadingOf (digits : List ℕ) (read : Digits) : Type 0 where
  pub count : read.count ≡ min 19 (length digits)
  pub value : length digits ≤ 18 → read.value ≡ digits_value 10 digits

-- a piece is `**`
abbrev pub is_any_path : Piece → Bool
is_any_path AnyPath = true
is_any_path piece = false

-- a piece is `*`
abbrev pub is_any_name : Piece → Bool
is_any_name AnyName = true
is_any_name piece = false

-- a piece is no star
abbrev pub is_fixed : Piece → Bool
is_fixed piece = not (is_any_path piece) && not (is_any_name piece)

-- a piece is not `*`
abbrev pub is_no_name : Piece → Bool
is_no_name piece = not (is_any_name piece)

-- a piece that is no `**`, and takes as many dots of any name: a set takes no dot
abbrev pub is_steady : Piece → Bool
is_steady AnyPath = false
is_steady (Set negated ranges) =
    if negated then in_ranges ranges 46 else not (in_ranges ranges 46)
is_steady piece = true

-- what a piece that takes one character leaves of a name
abbrev pub left_by_char : (ℕ → Bool) → List ℕ → Option (List ℕ)
left_by_char takes [] = None
left_by_char takes (c ∷ cs) = if takes c then Some cs else None

-- whether a number is at most the upper bound, if there is one
abbrev pub is_up_to : ℕ → Option ℕ → Bool
is_up_to n None = true
is_up_to n (Some high) = nat_le n high

-- whether digits are a number between bounds
abbrev pub is_number_in : ℕ → Option ℕ → List ℕ → Bool
is_number_in low high digits =
    (nat_lt 0 (length digits) && nat_le (length digits) 18)
    && (nat_le low (digits_value 10 digits) && is_up_to (digits_value 10 digits) high)

-- what a piece that is no star leaves of a name
abbrev pub left_by : Piece → List ℕ → Option (List ℕ)
left_by AnyPath name = None
left_by AnyName name = None
left_by AnyChar name = left_by_char (λ c. not (c == 46)) name
left_by (Char wanted) name = left_by_char (λ c. c == wanted) name
left_by (Set negated ranges) name =
    left_by_char (λ c. if negated then not (in_ranges ranges c) else in_ranges ranges c) name
left_by (Number low high) name =
    if is_number_in low high (digits_front name) then Some (after_digits name) else None

-- what pieces that are no stars leave of a name
abbrev pub left_by_all : List Piece → List ℕ → Option (List ℕ)
left_by_all [] name = Some name
left_by_all (piece ∷ pieces) name = option_and_then (left_by_all pieces) (left_by piece name)

-- a text stands at the end of another
abbrev pub EndsWith : List ℕ → List ℕ → Type 0
EndsWith text end = (front : List ℕ) × (text ≡ front ++ end)

-- a text does not end with this character
abbrev pub EndsNotWith : ℕ → List ℕ → Type 0
EndsNotWith c text = (front : List ℕ) → text ≢ front ++ (c ∷ [])

-- what is left is to be nothing
abbrev pub IsEnd : Bool → List ℕ → Type 0
IsEnd true rest = rest ≡ []
IsEnd false rest = Unit {0}

-- the longest rest that pieces can leave of a name
pub record IsLongestRest (pieces : List Piece) (to_end : Bool) (name rest : List ℕ) : Type 0 where
  pub covers : Covers pieces name rest
  pub ends : IsEnd to_end rest
  pub longest : (other : List ℕ) → Covers pieces name other → IsEnd to_end other
      → EndsWith rest other

-- the pieces leave no rest of a name
abbrev pub HasNoRest : List Piece → Bool → List ℕ → Type 0
HasNoRest pieces to_end name = (rest : List ℕ) → Covers pieces name rest → IsEnd to_end rest → ⊥

-- the longest rest that pieces can leave of an end of a name
pub record IsLongestAnywhere (pieces : List Piece) (to_end : Bool)
    (name rest : List ℕ) : Type 0 where
  pub start : List ℕ
  pub within : EndsWith name start
  pub covers : Covers pieces start rest
  pub ends : IsEnd to_end rest
  pub longest : (from other : List ℕ) → EndsWith name from → Covers pieces from other
      → IsEnd to_end other → EndsWith rest other

-- the pieces leave no rest of any end of a name
abbrev pub HasNoRestAnywhere : List Piece → Bool → List ℕ → Type 0
HasNoRestAnywhere pieces to_end name =
    (from rest : List ℕ) → EndsWith name from → Covers pieces from rest → IsEnd to_end rest → ⊥

-- the pieces match an end of a name
abbrev pub MatchesEnd : List Piece → List ℕ → Type 0
MatchesEnd pieces name = (from : List ℕ) × EndsWith name from × Matches pieces from

-- the rest that pieces leave after a star, at the first place where they can leave one
pub record Slides (pieces : List Piece) (to_end : Bool) (name rest : List ℕ) : Type 0 where
  pub taken : List ℕ
  pub start : List ℕ
  pub within : name ≡ taken ++ start
  pub no_dot : has_no_dot taken ≡ true
  pub covers : Covers pieces start rest
  pub ends : IsEnd to_end rest
  pub first : (before from other : List ℕ) → name ≡ before ++ from → has_no_dot before ≡ true
      → Covers pieces from other → IsEnd to_end other → EndsWith start from

-- the pieces leave no rest after a star
abbrev pub CannotSlide : List Piece → Bool → List ℕ → Type 0
CannotSlide pieces to_end name =
    (before from other : List ℕ) → name ≡ before ++ from → has_no_dot before ≡ true
    → Covers pieces from other → IsEnd to_end other → ⊥

-- what follows the first dot of a name
abbrev pub IsPastDot : List ℕ → List ℕ → Type 0
IsPastDot name rest = (front : List ℕ) × (name ≡ front ++ (46 ∷ rest)) × (has_no_dot front ≡ true)
