-- The values of digits.
use Rattle.std.specs.Prelude.{ℕ, ◌+◌, ◌-◌, ◌*◌, ◌^◌, [], ◌∷◌, Option, Some, None, nat_lt, nat_le}
use Rattle.std.specs.Prelude.{if◌then◌else◌}
use Rattle.ned_tokens.specs.declared.runs.Class.{Class}
use Rattle.ned_tokens.specs.declared.runs.Class.TheVariants as class
use Rattle.ned_tokens.specs.Runs.{Bytes}

-- hexadecimal digits count in sixteens, all others in tens
abbrev pub base_of : Class → ℕ
base_of class.Hex = 16
base_of _ = 10

-- what a digit stands for
abbrev pub digit_of : ℕ → ℕ
digit_of b = if nat_le b 57 then b - 48 else (if nat_le b 70 then b - 55 else b - 87)

-- the value of digits after a number
abbrev pub value_from : ℕ → ℕ → Bytes → ℕ
value_from base n [] = n
value_from base n (d ∷ ds) = value_from base (n * base + digit_of d) ds

-- the value of digits of this class
abbrev pub value_of : Class → Bytes → ℕ
value_of c ds = value_from (base_of c) 0 ds

-- numbers and amounts are below this
abbrev pub limit : ℕ
limit = 2 ^ 63

-- the number, if it is below the limit
abbrev pub below_limit : ℕ → Option ℕ
below_limit n = if nat_lt n limit then Some n else None
