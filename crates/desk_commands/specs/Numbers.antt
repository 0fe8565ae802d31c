-- Numbers in command lines.
use Rattle.std.specs.Prelude.{ℕ, ◌+◌, ◌-◌, ◌*◌, ◌^◌, ◌==◌, ℤ, pos, neg_ℤ, Bool, ◌||◌, List, [], ◌∷◌}
use Rattle.std.specs.Prelude.{Option, Some, None, nat_lt, if◌then◌else◌}
use Rattle.std.specs.Option.{option_and_then}

-- the byte is no decimal digit
abbrev pub is_no_digit : ℕ → Bool
is_no_digit d = nat_lt d 48 || nat_lt 57 d

-- The number that further digits make, where the digits so far made this one: none where a byte is
-- no digit, or where it has more than 64 bits.
abbrev pub number_after : ℕ → List ℕ → Option ℕ
number_after n [] = Some n
number_after n (d ∷ ds) =
    if is_no_digit d then None
    else (if nat_lt (2 ^ 64 - 1) (n * 10 + (d - 48)) then None
    else number_after (n * 10 + (d - 48)) ds)

-- the number that a word of decimal digits writes
abbrev pub number_of : List ℕ → Option ℕ
number_of [] = None
number_of (d ∷ ds) = number_after 0 (d ∷ ds)

-- this number, where 32 bits hold it
abbrev pub short : ℕ → Option ℕ
short n = if nat_lt (2 ^ 32 - 1) n then None else Some n

-- the number that a word of decimal digits writes: none where 32 bits do not hold it
abbrev pub short_of : List ℕ → Option ℕ
short_of word = option_and_then short (number_of word)

-- ---- numbers with a sign

-- this number, where 16 bits hold it
abbrev pub from_zero : ℕ → Option ℤ
from_zero n = if nat_lt (2 ^ 15 - 1) n then None else Some (pos n)

-- the number so far below zero, where 16 bits hold it
abbrev pub below_zero : ℕ → Option ℤ
below_zero n = if nat_lt (2 ^ 15) n then None else Some (neg_ℤ (pos n))

-- the number that a word of decimal digits writes, with a `-` before them where it is below zero:
-- none where 16 bits do not hold it
unfoldable pub signed_of : List ℕ → Option ℤ
signed_of [] = None
signed_of (b ∷ bs) =
    if b == 45 then option_and_then below_zero (number_of bs)
    else option_and_then from_zero (number_of (b ∷ bs))
