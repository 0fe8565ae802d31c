-- The parts of an ini text: its lines, and what stands before a comment.
use Rattle.std.specs.Prelude.{ℕ, zero, suc, Bool, false, ◌||◌, ◌&&◌, not, List, [], ◌∷◌, Option}
use Rattle.std.specs.Prelude.{Some, None, ◌==◌, if◌then◌else◌, option_map, unwrap_or}
use Rattle.ini_entries.specs.Texts.{Bytes, after_blanks, before_blanks}

-- ---- lines

abbrev pub add_front : ℕ → List Bytes → List Bytes
add_front b [] = (b ∷ []) ∷ []
add_front b (line ∷ lines) = (b ∷ line) ∷ lines

abbrev pub begins_with : ℕ → Bytes → Bool
begins_with c [] = false
begins_with c (b ∷ bs) = b == c

-- The lines of a text: each ends with LF, and a CR directly before an LF is dropped. A last line
-- without LF counts.
unfoldable pub lines_of_ini : Bytes → List Bytes
lines_of_ini [] = []
lines_of_ini (b ∷ bs) = if b == 10 then [] ∷ lines_of_ini bs
    else (if b == 13 && begins_with 10 bs then lines_of_ini bs else add_front b (lines_of_ini bs))

abbrev pub after_feed : Bytes → Option Bytes
after_feed [] = None
after_feed (b ∷ bs) = if b == 10 then Some bs else None

-- what is after the end of a line, where the text begins with one
abbrev pub after_line_end : Bytes → Option Bytes
after_line_end [] = None
after_line_end (b ∷ bs) = if b == 10 then Some bs else (if b == 13 then after_feed bs else None)

-- ---- comments

-- In a text literal, as NED writes it, a `\` takes the byte after it along. So of `\\` the second
-- is taken, and a `"` after the two ends the literal. (OMNeT++ Simulation Manual, "NED Language
-- Grammar", the token of a text.) whether this byte takes the next one along, where it is itself
-- taken or not
abbrev pub takes_next : Bool → ℕ → Bool
takes_next taken b = not taken && b == 92

-- whether this byte ends the literal
abbrev pub ends_literal : Bool → ℕ → Bool
ends_literal taken b = not taken && b == 34

-- How many bytes a text literal still has, after its first `"` or any byte of it:
-- up to the first `"` that no `\` takes along. None where there is no such.
unfoldable pub literal_rest : Bool → Bytes → Option ℕ
literal_rest taken [] = None
literal_rest taken (b ∷ bs) = if ends_literal taken b then Some 1
    else option_map (λ n. suc n) (literal_rest (takes_next taken b) bs)

-- how many bytes of a text literal follow this byte: none but after a `"` that is closed
abbrev pub literal_behind : ℕ → Bytes → ℕ
literal_behind b bs = if b == 34 then unwrap_or (literal_rest false bs) 0 else 0

-- what stands before the first `#` outside a text literal, where the first n bytes are in one
unfoldable pub uncommented : ℕ → Bytes → Bytes
uncommented n [] = []
uncommented (suc n) (b ∷ bs) = b ∷ uncommented n bs
uncommented zero (b ∷ bs) = if b == 35 then [] else b ∷ uncommented (literal_behind b bs) bs

-- what stands before the first `#`
unfoldable pub before_hash : Bytes → Bytes
before_hash [] = []
before_hash (b ∷ bs) = if b == 35 then [] else b ∷ before_hash bs

-- the value, of what is after the `=`
abbrev pub value_text : Bytes → Bytes
value_text bytes = before_blanks (after_blanks (uncommented 0 bytes))

-- ---- variables

-- whether `${` is in the text, after this byte
unfoldable pub holds_variable : ℕ → Bytes → Bool
holds_variable before [] = false
holds_variable before (b ∷ bs) = (before == 36 && b == 123) || holds_variable b bs
