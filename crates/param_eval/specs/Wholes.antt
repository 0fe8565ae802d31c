-- Whole numbers. Each rule is one of whole numbers without bounds; what it gives is Overflow where
-- it is outside -2^63 to 2^63 - 1.
use Rattle.std.specs.Prelude.{ℕ, zero, suc, ◌^◌, nat_lt, ℤ, pos, negsuc, ◌+ℤ◌, ◌-ℤ◌, ◌*ℤ◌, neg_ℤ}
use Rattle.std.specs.Prelude.{int_div, int_rem, Bool, true, false, ◌||◌, not, Result, Ok, Err}
use Rattle.std.specs.Prelude.{if◌then◌else◌}
use Rattle.std.specs.Int.{int_pow}
use Rattle.std.specs.Int.Signed.{shr_z}
use Rattle.sim_values.specs.declared.value_fault.ValueFault.{ValueFault}
use Rattle.sim_values.specs.declared.value_fault.ValueFault.TheVariants.{Overflow, Inexact}

-- whether a number is one of 64 bits with a sign
abbrev pub fits : ℤ → Bool
fits (pos n) = nat_lt n (2 ^ 63)
fits (negsuc n) = nat_lt n (2 ^ 63)

abbrev pub bounded : ℤ → Result ℤ ValueFault
bounded z = if fits z then Ok z else Err Overflow

abbrev pub is_zero : ℤ → Bool
is_zero (pos zero) = true
is_zero (pos (suc n)) = false
is_zero (negsuc n) = false

abbrev pub sum : ℤ → ℤ → Result ℤ ValueFault
sum a b = bounded (a +ℤ b)

abbrev pub difference : ℤ → ℤ → Result ℤ ValueFault
difference a b = bounded (a -ℤ b)

abbrev pub product : ℤ → ℤ → Result ℤ ValueFault
product a b = bounded (a *ℤ b)

-- the quotient, where the one number is that many times the other
abbrev pub quotient : ℤ → ℤ → Result ℤ ValueFault
quotient a b = if is_zero b || not (is_zero (int_rem a b)) then Err Inexact
    else bounded (int_div a b)

-- what is left of the one number, with its sign, when the other is taken from it as often as it
-- goes
abbrev pub remainder : ℤ → ℤ → Result ℤ ValueFault
remainder a b = if is_zero b then Err Inexact else Ok (int_rem a b)

abbrev pub power : ℤ → ℤ → Result ℤ ValueFault
power a (pos e) = bounded (int_pow a e)
power a (negsuc e) = Err Inexact

-- how far to shift, where that is 0 to 63
abbrev pub shifted : ℤ → (ℕ → Result ℤ ValueFault) → Result ℤ ValueFault
shifted (pos k) by = if nat_lt k 64 then by k else Err Overflow
shifted (negsuc k) by = Err Overflow

abbrev pub shift_left : ℤ → ℤ → Result ℤ ValueFault
shift_left a b = shifted b (λ k. bounded (a *ℤ pos (2 ^ k)))

-- rounded down
abbrev pub shift_right : ℤ → ℤ → Result ℤ ValueFault
shift_right a b = shifted b (λ k. Ok (shr_z a (2 ^ k)))

abbrev pub negation : ℤ → Result ℤ ValueFault
negation a = bounded (neg_ℤ a)

-- each bit is the other one: -a - 1
abbrev pub complement : ℤ → ℤ
complement (pos n) = negsuc n
complement (negsuc n) = pos n
