-- Marks: the longest that the bytes begin with.
use Rattle.std.specs.Prelude.{ℕ, ◌&&◌, Option, Some, None, if◌then◌else◌, ◌==◌, drop, slice_index}
use Rattle.std.specs.Prelude.{option_map}
use Rattle.ned_tokens.specs.declared.token.Mark.{Mark}
use Rattle.ned_tokens.specs.declared.token.Mark.TheVariants as m
use Rattle.ned_tokens.specs.declared.token.Token.{Token}
use Rattle.ned_tokens.specs.declared.token.Token.TheVariants as token
use Rattle.ned_tokens.specs.Runs.{Bytes}
use Rattle.ned_tokens.specs.Words.{or_else}

-- the arrows `<-->`, `<--` and `-->`, with the number of bytes after the first
unfoldable pub arrow_of : ℕ → ℕ → ℕ → ℕ → Option (Mark × ℕ)
arrow_of a b c d =
    if a == 60 && b == 45 && c == 45
    then (if d == 62 then Some (m.ArrowBoth, 3) else Some (m.ArrowLeft, 2))
    else (if a == 45 && b == 45 && c == 62 then Some (m.ArrowRight, 2) else None)

-- a mark of two bytes
unfoldable pub pair_of : ℕ → ℕ → Option Mark
pair_of a b =
    if a == 46 && b == 46 then Some m.DotDot
    else (if a == 61 && b == 61 then Some m.Equal
    else (if a == 33 && b == 61 then Some m.NotEqual
    else (if a == 60 && b == 61 then Some m.AtMost
    else (if a == 62 && b == 61 then Some m.AtLeast
    else (if a == 60 && b == 60 then Some m.ShiftLeft
    else (if a == 62 && b == 62 then Some m.ShiftRight
    else (if a == 38 && b == 38 then Some m.And
    else (if a == 124 && b == 124 then Some m.Or
    else (if a == 35 && b == 35 then Some m.Xor
    else (if a == 43 && b == 43 then Some m.PlusPlus
    else (if a == 36 && b == 105 then Some m.InHalf
    else (if a == 36 && b == 111 then Some m.OutHalf
    else None))))))))))))

-- a bracket, or a mark between parts
unfoldable pub bracket_of : ℕ → Option Mark
bracket_of a =
    if a == 123 then Some m.Open
    else (if a == 125 then Some m.Close
    else (if a == 40 then Some m.LeftParen
    else (if a == 41 then Some m.RightParen
    else (if a == 91 then Some m.LeftBracket
    else (if a == 93 then Some m.RightBracket
    else (if a == 44 then Some m.Comma
    else (if a == 59 then Some m.Semi
    else (if a == 58 then Some m.Colon
    else (if a == 46 then Some m.Dot
    else (if a == 61 then Some m.Equals
    else (if a == 64 then Some m.At
    else None)))))))))))

-- an operator of one byte
unfoldable pub operator_of : ℕ → Option Mark
operator_of a =
    if a == 60 then Some m.Less
    else (if a == 62 then Some m.Greater
    else (if a == 43 then Some m.Plus
    else (if a == 45 then Some m.Minus
    else (if a == 42 then Some m.Star
    else (if a == 47 then Some m.Slash
    else (if a == 37 then Some m.Percent
    else (if a == 94 then Some m.Caret
    else (if a == 33 then Some m.Bang
    else (if a == 126 then Some m.Tilde
    else (if a == 63 then Some m.Question
    else (if a == 124 then Some m.Bar
    else (if a == 38 then Some m.Ampersand
    else (if a == 35 then Some m.Hash
    else None)))))))))))))

-- the longest mark that begins with a byte, and how many of its bytes are after that
unfoldable pub mark_of : ℕ → Bytes → Option (Mark × ℕ)
mark_of a bs =
    or_else (arrow_of a (slice_index bs 0) (slice_index bs 1) (slice_index bs 2))
    (or_else (option_map (λ k. (k, 1)) (pair_of a (slice_index bs 0)))
    (or_else (option_map (λ k. (k, 0)) (bracket_of a)) (option_map (λ k. (k, 0)) (operator_of a))))

abbrev pub marked : Option (Mark × ℕ) → ℕ → Bytes → Token × Bytes
marked None a bs = (token.Stray a, bs)
marked (Some k) a bs = (token.Mark k.0, drop k.1 bs)

-- the longest mark that begins with a byte, or else a stray byte, and what is after it
unfoldable pub mark_at : ℕ → Bytes → Token × Bytes
mark_at a bs = marked (mark_of a bs) a bs
