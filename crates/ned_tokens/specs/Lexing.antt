-- The tokens of a line, from left to right, each as long as it can be.
use Rattle.std.specs.Prelude.{ℕ, zero, suc, Bool, true, false, ◌&&◌, ◌||◌, List, [], ◌∷◌, length}
use Rattle.std.specs.Prelude.{◌==◌, if◌then◌else◌, Option, Some, None}
use Rattle.std.specs.Str.{is_utf8}
use Rattle.ned_tokens.specs.declared.runs.Class.TheVariants as class
use Rattle.ned_tokens.specs.declared.token.Keyword.{Keyword}
use Rattle.ned_tokens.specs.declared.token.Token.{Token}
use Rattle.ned_tokens.specs.declared.token.Token.TheVariants as token
use Rattle.ned_tokens.specs.Runs.{Bytes, is_letter, is_digit, run, behind}
use Rattle.ned_tokens.specs.Words.{keyword_of}
use Rattle.ned_tokens.specs.Marks.{mark_at}
use Rattle.ned_tokens.specs.Numbers.{number_at}
use Rattle.ned_tokens.specs.Literals.{literal_from}

abbrev pub named : Option Keyword → Bytes → Token
named (Some keyword) word = token.Word keyword
named None word = token.Name word

-- a word or a name, and what is after it
unfoldable pub word_at : Bytes → Token × Bytes
word_at bs = (named (keyword_of (run class.Name bs)) (run class.Name bs), behind class.Name bs)

-- the token that begins with b, and what is after it
unfoldable pub token_at : ℕ → Bytes → Token × Bytes
token_at b bs =
    if is_letter b || b == 95 then word_at (b ∷ bs)
    else (if is_digit b then number_at (b ∷ bs)
    else (if b == 34 then literal_from false (Some []) bs
    else mark_at b bs))

abbrev pub is_slash_next : Bytes → Bool
is_slash_next [] = false
is_slash_next (b ∷ bs) = b == 47

-- the token with which the bytes begin, and what is after it; none at the end or a comment, which
-- goes up to the end
unfoldable pub token_of : Bytes → Option (Token × Bytes)
token_of [] = None
token_of (b ∷ bs) = if b == 47 && is_slash_next bs then None else Some (token_at b bs)

-- the first token after blanks
abbrev pub next : Bytes → Option (Token × Bytes)
next bs = token_of (behind class.Blank bs)

abbrev pub one_more : Option (Token × Bytes) → (Bytes → List Token) → List Token
one_more None others = []
one_more (Some t) others = t.0 ∷ others t.1

-- the tokens of what is left of a line; the number counts down, and the length is enough
unfoldable pub scan : ℕ → Bytes → List Token
scan zero bs = []
scan (suc n) bs = one_more (next bs) (scan n)

unfoldable pub scanned : Bytes → List Token
scanned bs = scan (length bs) bs

abbrev pub behind_literal : Token × Bytes → List Token
behind_literal t = t.0 ∷ scanned t.1

-- The tokens of a line that begins inside a text in quotes, or outside one. A line that isn't UTF-8
-- is broken.
unfoldable pub line_tokens : Bool → Bytes → List Token
line_tokens inside line = if is_utf8 line
    then (if inside then behind_literal (literal_from false (Some []) line) else scanned line)
    else token.Broken ∷ []

abbrev pub is_open : Token → Bool
is_open token.OpenLiteral = true
is_open _ = false

-- the last token goes on after the line; where there is none, what was so before
abbrev pub ends_open : Bool → List Token → Bool
ends_open was [] = was
ends_open was (t ∷ ts) = ends_open (is_open t) ts

-- this line's number for each
abbrev pub numbered_by : ℕ → List Token → List ℕ
numbered_by number [] = []
numbered_by number (t ∷ ts) = number ∷ numbered_by number ts
