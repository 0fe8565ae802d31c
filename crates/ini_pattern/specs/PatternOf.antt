-- Which pattern a text is, if any. A text is the list of its characters.
-- OMNeT++ Simulation Manual, "Using Wildcard Patterns".
use Rattle.std.specs.Prelude.{ℕ, zero, suc, ◌==◌, nat_le, Bool, true, false, not, ◌&&◌, List, []}
use Rattle.std.specs.Prelude.{◌∷◌, ◌++◌, length, drop, Option, Some, None, option_and_then}
use Rattle.std.specs.Prelude.{if◌then◌else◌}
use Rattle.std.specs.Char.{is_ascii_digit}
use Rattle.std.specs.Option.{option_map}
use Rattle.std.specs.Str.Parse.{digits_value}
use Rattle.ini_pattern.specs.declared.piece.CharRange.{CharRange}
use Rattle.ini_pattern.specs.declared.piece.Piece.{Piece}
use Rattle.ini_pattern.specs.declared.piece.Piece.TheVariants.{AnyPath, AnyName, AnyChar, Char, Set}
use Rattle.ini_pattern.specs.declared.piece.Piece.TheVariants.{Number}

-- whether a text begins with this character
abbrev pub begins_with : ℕ → List ℕ → Bool
begins_with c [] = false
begins_with c (d ∷ ds) = d == c

-- the character after a backslash, and the rest
abbrev pub after_backslash : List ℕ → Option (ℕ × List ℕ)
after_backslash [] = None
after_backslash (c ∷ cs) = Some (c, cs)

-- one character of a set, and the rest: a backslash stands for the character after it
abbrev pub set_char : List ℕ → Option (ℕ × List ℕ)
set_char [] = None
set_char (c ∷ cs) = if c == 92 then after_backslash cs else Some (c, cs)

-- a range from a first to a last character, which is not below it, and the rest
abbrev pub range_to : ℕ → ℕ × List ℕ → Option (CharRange × List ℕ)
range_to first last =
    if nat_le first last.0 then Some (record { first = first; last = last.0 }, last.1) else None

-- a range of a set that begins with this character: one that goes on with `-` and a character other
-- than `}` has that character as its last, and any other has the one character
abbrev pub range_from : ℕ × List ℕ → Option (CharRange × List ℕ)
range_from first =
    if begins_with 45 first.1 && not (begins_with 125 (drop 1 first.1))
    then option_and_then (range_to first.0) (set_char (drop 1 first.1))
    else Some (record { first = first.0; last = first.0 }, first.1)

-- the ranges of a set up to its closing brace, and the rest; a text of n characters has no more
-- than n ranges
abbrev pub ranges_in : ℕ → List ℕ → Option (List CharRange × List ℕ)
ranges_in zero text = None
ranges_in (suc n) text =
    if begins_with 125 text then Some ([], drop 1 text)
    else option_and_then
    (λ first. option_map (λ more. (first.0 ∷ more.0, more.1)) (ranges_in n first.1))
    (option_and_then range_from (set_char text))

-- the ranges of a set up to its closing brace, and the rest
abbrev pub ranges_of : List ℕ → Option (List CharRange × List ℕ)
ranges_of text = ranges_in (length text) text

-- a set of ranges: one at least
abbrev pub set_of : Bool → List CharRange → Option Piece
set_of negated [] = None
set_of negated (range ∷ ranges) = Some (Set negated (range ∷ ranges))

-- a set of ranges, and the rest after its closing brace
abbrev pub set_and_rest : Bool → List CharRange × List ℕ → Option (Piece × List ℕ)
set_and_rest negated found = option_map (λ piece. (piece, found.1)) (set_of negated found.0)

-- a set and the rest, where the text goes on after its opening brace: `^` negates it
abbrev pub set_in : List ℕ → Option (Piece × List ℕ)
set_in text =
    if begins_with 94 text
    then option_and_then (set_and_rest true) (ranges_of (drop 1 text))
    else option_and_then (set_and_rest false) (ranges_of text)

-- the digits that a text begins with
abbrev pub digits_front : List ℕ → List ℕ
digits_front [] = []
digits_front (c ∷ cs) = if is_ascii_digit c then c ∷ digits_front cs else []

-- what follows the digits that a text begins with
abbrev pub after_digits : List ℕ → List ℕ
after_digits [] = []
after_digits (c ∷ cs) = if is_ascii_digit c then after_digits cs else c ∷ cs

-- the digits of two bounds of a number, and the rest after them
pub record Bounds : Type 0 where
  pub low : List ℕ
  pub high : List ℕ
  pub rest : List ℕ

-- the bounds of which these digits are the lower one, where digits or nothing and this closing
-- character follow
abbrev pub bounds_from : ℕ → List ℕ → List ℕ → Option Bounds
bounds_from close low text =
    if begins_with close (after_digits text)
    then Some (record { low = low; high = digits_front text; rest = drop 1 (after_digits text) })
    else None

-- the bounds that a text begins with: digits or nothing, two dots, digits or nothing, and this
-- closing character
abbrev pub bounds_in : ℕ → List ℕ → Option Bounds
bounds_in close text =
    if begins_with 46 (after_digits text) && begins_with 46 (drop 1 (after_digits text))
    then bounds_from close (digits_front text) (drop 2 (after_digits text))
    else None

-- a number from a lower bound to the upper one that these digits write, which is not below it; no
-- digits are no upper bound
abbrev pub number_up_to : ℕ → List ℕ → Option Piece
number_up_to low [] = Some (Number low None)
number_up_to low (c ∷ cs) =
    if nat_le low (digits_value 10 (c ∷ cs))
    then Some (Number low (Some (digits_value 10 (c ∷ cs)))) else None

-- a number between bounds of up to 18 digits; no digits as the lower bound are 0
abbrev pub number_between : List ℕ → List ℕ → Option Piece
number_between low high =
    if nat_le (length low) 18 && nat_le (length high) 18
    then number_up_to (digits_value 10 low) high
    else None

-- such a number, and the rest after its bounds
abbrev pub number_and_rest : Bounds → Option Piece × List ℕ
number_and_rest bounds = (number_between bounds.low bounds.high, bounds.rest)

-- what stands after an opening brace: bounds of a number, or else a set
abbrev pub braced : List ℕ → Option Bounds → Option (List Piece × List ℕ)
braced text None = option_map (λ found. (found.0 ∷ [], found.1)) (set_in text)
braced text (Some bounds) =
    option_map (λ piece. (piece ∷ [], bounds.rest)) (number_between bounds.low bounds.high)

-- what stands after an opening bracket: bounds of a number and a bracket, or else anything
abbrev pub bracketed : List ℕ → Option Bounds → Option (List Piece × List ℕ)
bracketed text None = Some (Char 91 ∷ [], text)
bracketed text (Some bounds) =
    option_map (λ piece. (Char 91 ∷ piece ∷ Char 93 ∷ [], bounds.rest))
    (number_between bounds.low bounds.high)

-- what a text with this first character begins with, and the rest: a star or two, `?`, a brace, a
-- bracket, a backslash before a character that stands for itself, or a character that does so
-- anyway
abbrev pub piece_in : ℕ → List ℕ → Option (List Piece × List ℕ)
piece_in c cs =
    if c == 42 then Some (if begins_with 42 cs then (AnyPath ∷ [], drop 1 cs)
    else (AnyName ∷ [], cs))
    else (if c == 63 then Some (AnyChar ∷ [], cs)
    else (if c == 123 then braced cs (bounds_in 125 cs)
    else (if c == 91 then bracketed cs (bounds_in 93 cs)
    else (if c == 92 then option_map (λ found. (Char found.0 ∷ [], found.1)) (after_backslash cs)
    else Some (Char c ∷ [], cs)))))

-- the pieces of a text of at most so many characters
abbrev pub pieces_in : ℕ → List ℕ → Option (List Piece)
pieces_in zero text = Some []
pieces_in (suc n) [] = Some []
pieces_in (suc n) (c ∷ cs) =
    option_and_then (λ found. option_map (λ more. found.0 ++ more) (pieces_in n found.1))
    (piece_in c cs)

-- the pattern that a text is
unfoldable pub pattern_of : List ℕ → Option (List Piece)
pattern_of text = pieces_in (length text) text
