-- The lines of a text, its tokens, and the line that it is refused at.
use Rattle.std.specs.Prelude.{ℕ, zero, suc, ◌+◌, ◌-◌, Bool, false, List, [], ◌∷◌, ◌++◌, length}
use Rattle.std.specs.Prelude.{◌==◌, if◌then◌else◌, slice_index}
use Rattle.ned_tokens.specs.declared.token.Token.{Token}
use Rattle.ned_tokens.specs.Runs.{Bytes}
use Rattle.ned_tokens.specs.Lexing.{line_tokens, ends_open, numbered_by}

abbrev pub add_front : ℕ → List Bytes → List Bytes
add_front b [] = (b ∷ []) ∷ []
add_front b (line ∷ lines) = (b ∷ line) ∷ lines

-- the lines, without the ends; after the last end there is one more only if it has a byte
unfoldable pub lines_of : Bytes → List Bytes
lines_of [] = []
lines_of (b ∷ bs) = if b == 10 then [] ∷ lines_of bs else add_front b (lines_of bs)

-- the tokens of lines, of which the first begins inside a text in quotes, or outside one
unfoldable pub tokens_of_lines : Bool → List Bytes → List Token
tokens_of_lines inside [] = []
tokens_of_lines inside (line ∷ lines) =
    line_tokens inside line ++ tokens_of_lines (ends_open false (line_tokens inside line)) lines

-- whether the line after these begins inside a text in quotes
abbrev pub inside_behind : Bool → List Bytes → Bool
inside_behind inside [] = inside
inside_behind inside (line ∷ lines) =
    inside_behind (ends_open false (line_tokens inside line)) lines

-- the number of each token's line, from this number on
unfoldable pub numbers_of_lines : ℕ → Bool → List Bytes → List ℕ
numbers_of_lines n inside [] = []
numbers_of_lines n inside (line ∷ lines) = numbered_by n (line_tokens inside line)
    ++ numbers_of_lines (n + 1) (ends_open false (line_tokens inside line)) lines

-- the tokens of a text are those of its lines, one line after the other
abbrev pub tokens_of : Bytes → List Token
tokens_of bytes = tokens_of_lines false (lines_of bytes)

-- the number of each token's line, where the first line has number 1
abbrev pub line_numbers : Bytes → List ℕ
line_numbers bytes = numbers_of_lines 1 false (lines_of bytes)

-- the line of the last byte, 1 in an empty text
unfoldable pub last_line : Bytes → ℕ
last_line [] = 1
last_line (b ∷ []) = 1
last_line (b ∷ c ∷ bs) = if b == 10 then suc (last_line (c ∷ bs)) else last_line (c ∷ bs)

-- the line of the token at which this many are left; with none left that of the last byte
unfoldable pub blamed_line : Bytes → ℕ → ℕ
blamed_line bytes left = if left == 0 then last_line bytes
    else slice_index (line_numbers bytes) (length (line_numbers bytes) - left)

-- the bytes up to the end of this line, the end included
unfoldable pub through_line : ℕ → Bytes → Bytes
through_line zero bytes = []
through_line (suc line) [] = []
through_line (suc line) (b ∷ bs) =
    if b == 10 then b ∷ through_line line bs else b ∷ through_line (suc line) bs
