-- Texts in quotes, within a line.
use Rattle.std.specs.Prelude.{ℕ, Bool, true, false, [], ◌∷◌, ◌++◌, Option, Some, None, ◌==◌}
use Rattle.std.specs.Prelude.{if◌then◌else◌}
use Rattle.ned_tokens.specs.declared.token.Token.{Token}
use Rattle.ned_tokens.specs.declared.token.Token.TheVariants as token
use Rattle.ned_tokens.specs.Runs.{Bytes}

-- `\"`, `\\`, `\n` and `\t` stand for a quote, a backslash, LF and a tab
abbrev pub escaped : ℕ → Option ℕ
escaped b = if b == 34 then Some 34 else (if b == 92 then Some 92
    else (if b == 110 then Some 10 else (if b == 116 then Some 9 else None)))

-- a text, and one with an escape that means nothing
abbrev pub literal_token : Option Bytes → Token
literal_token (Some text) = token.Literal text
literal_token None = token.OddLiteral

-- a text and one byte more, if both are there
abbrev pub with_byte : Option Bytes → Option ℕ → Option Bytes
with_byte None b = None
with_byte (Some text) None = None
with_byte (Some text) (Some b) = Some (text ++ b ∷ [])

-- The rest of a text in quotes after its bytes so far. At the line's end a backslash takes the end
-- in; else the text has no end.
abbrev pub literal_from : Bool → Option Bytes → Bytes → Token × Bytes
literal_from true text [] = (token.OpenLiteral, [])
literal_from false text [] = (token.Broken, [])
literal_from true text (b ∷ bs) = literal_from false (with_byte text (escaped b)) bs
literal_from false text (b ∷ bs) = if b == 34 then (literal_token text, bs) else (if b == 92
    then literal_from true text bs else literal_from false (with_byte text (Some b)) bs)

-- the bytes of a text with no odd escape
abbrev pub held : Bool → Bytes → Option Bytes
held true text = Some text
held false text = None
