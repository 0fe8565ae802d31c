-- Numbers: decimal digits, or `0x` and hexadecimal digits, from 0 to 2^63 - 1.
use Rattle.std.specs.Prelude.{ℕ, ◌&&◌, [], ◌∷◌, Option, Some, None, ◌==◌, if◌then◌else◌}
use Rattle.ned_tokens.specs.declared.runs.Class.{Class}
use Rattle.ned_tokens.specs.declared.runs.Class.TheVariants as class
use Rattle.ned_tokens.specs.declared.token.Token.{Token}
use Rattle.ned_tokens.specs.declared.token.Token.TheVariants as token
use Rattle.ned_tokens.specs.Runs.{Bytes, run, behind}
use Rattle.ned_tokens.specs.Digits.{value_of, below_limit}
use Rattle.ned_tokens.specs.Quantities.{begins_quantity, quantity_at}

abbrev pub numbered : Option ℕ → Token
numbered None = token.Stray 48
numbered (Some n) = token.Number n

-- the number with these digits; none where there are no digits
unfoldable pub number_of : Class → Bytes → Token
number_of c [] = token.Stray 48
number_of c (d ∷ ds) = numbered (below_limit (value_of c (d ∷ ds)))

-- after `0x`
abbrev pub behind_prefix : Bytes → Option Bytes
behind_prefix [] = None
behind_prefix (a ∷ []) = None
behind_prefix (a ∷ b ∷ bs) = if a == 48 && b == 120 then Some bs else None

abbrev pub number_from : Option Bytes → Bytes → Token × Bytes
number_from (Some hex) bs = (number_of class.Hex (run class.Hex hex), behind class.Hex hex)
number_from None bs = if begins_quantity (behind class.Digit bs) then quantity_at bs
    else (number_of class.Digit (run class.Digit bs), behind class.Digit bs)

-- the number or the quantities with which the bytes begin, and what is after them
unfoldable pub number_at : Bytes → Token × Bytes
number_at bs = number_from (behind_prefix bs) bs
