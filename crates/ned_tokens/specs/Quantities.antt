-- Quantities: digits, perhaps a point and digits, and right after them a unit. Several in a row,
-- separated by nothing or by spaces and tabs, are summed (OMNeT++ Simulation Manual, "Quantities
-- with Units").
use Rattle.std.specs.Prelude.{◌≡◌, ◌↔◌, ℕ, zero, suc, ◌+◌, ◌*◌, ◌/◌, ◌%◌, ◌^◌, Bool, false, ◌&&◌}
use Rattle.std.specs.Prelude.{◌||◌, [], ◌∷◌, length, Option, Some, None, ◌==◌, if◌then◌else◌}
use Rattle.std.specs.Prelude.{option_map}
use Rattle.sim_values.specs.declared.value.Dimension.{Dimension}
pub use Rattle.sim_values.specs.Dimensions.{same_dimension}
use Rattle.ned_tokens.specs.declared.runs.Class.TheVariants as class
use Rattle.ned_tokens.specs.declared.token.Token.{Token}
use Rattle.ned_tokens.specs.declared.token.Token.TheVariants as token
use Rattle.ned_tokens.specs.Runs.{Bytes, run, behind, begins}
use Rattle.ned_tokens.specs.Digits.{digit_of, value_of, below_limit}
use Rattle.ned_tokens.specs.Units.{unit_of}

abbrev pub and_then : {X Y : Type 0} → Option X → (X → Option Y) → Option Y
and_then None f = None
and_then (Some x) f = f x

-- a point and a digit come next
abbrev pub begins_fraction : Bytes → Bool
begins_fraction [] = false
begins_fraction (b ∷ bs) = b == 46 && begins class.Digit bs

-- what is after the first digits makes a quantity of them: a letter, or a point and a digit
abbrev pub begins_quantity : Bytes → Bool
begins_quantity bs = begins class.Letter bs || begins_fraction bs

-- without the first byte
abbrev pub rest_of : Bytes → Bytes
rest_of [] = []
rest_of (b ∷ bs) = bs

-- the digits after a point, and what is after them
abbrev pub fraction_at : Bytes → Bytes × Bytes
fraction_at bs = if begins_fraction bs
    then (run class.Digit (rest_of bs), behind class.Digit (rest_of bs)) else ([], bs)

-- a tenth of a number that tens make up
abbrev pub tenth : ℕ → Option ℕ
tenth n = if n % 10 == 0 then Some (n / 10) else None

-- Of a unit of so many ps, bps or b, the digits after the point say a tenth of what the first digit
-- and the digits after it, put after the point, say; it has to be a whole number.
abbrev pub part_of : ℕ → Bytes → Option ℕ
part_of factor [] = Some 0
part_of factor (d ∷ ds) = and_then (part_of factor ds) (λ part. tenth (part + digit_of d * factor))

-- The digits before the point count whole units. The amount is below 2^63.
abbrev pub amount_of : ℕ → Bytes → Bytes → Option ℕ
amount_of factor whole fraction = and_then (part_of factor fraction)
    (λ part. below_limit (value_of class.Digit whole * factor + part))

-- the dimension and the amount of a number of units
abbrev pub measured : Bytes → Bytes → Bytes → Option (Dimension × ℕ)
measured unit whole fraction =
    and_then (unit_of unit) (λ u. option_map (λ n. (u.0, n)) (amount_of u.1 whole fraction))

-- one quantity: its dimension and amount, if it has them, and what is after it
abbrev pub piece_from : Bytes → Bytes × Bytes → Option (Dimension × ℕ) × Bytes
piece_from whole f = (measured (run class.Letter f.1) whole f.0, behind class.Letter f.1)

abbrev pub piece_at : Bytes → Option (Dimension × ℕ) × Bytes
piece_at bs = piece_from (run class.Digit bs) (fraction_at (behind class.Digit bs))

-- the sum of two amounts of one dimension, below 2^63
abbrev pub added : Option (Dimension × ℕ) → Option (Dimension × ℕ) → Option (Dimension × ℕ)
added a b = and_then a (λ x. and_then b (λ y. if same_dimension x.0 y.0
    then option_map (λ n. (x.0, n)) (below_limit (x.1 + y.1)) else None))

-- the amount so far, and what is after it; the number counts down, and the length is enough
unfoldable pub pieces_from : ℕ → Option (Dimension × ℕ) → Bytes → Option (Dimension × ℕ) × Bytes
pieces_from zero sum bs = (sum, bs)
pieces_from (suc n) sum bs =
    if begins class.Digit (behind class.Space bs)
    then pieces_from n (added sum (piece_at (behind class.Space bs)).0)
    (piece_at (behind class.Space bs)).1
    else (sum, bs)

-- all quantities in a row after a first one, summed
unfoldable pub row_from : Option (Dimension × ℕ) → Bytes → Option (Dimension × ℕ) × Bytes
row_from sum bs = pieces_from (length bs) sum bs

abbrev pub quantity_token : Option (Dimension × ℕ) → Token
quantity_token None = token.Stray 48
quantity_token (Some q) = token.Quantity q.0 q.1

abbrev pub row_token : Option (Dimension × ℕ) × Bytes → Token × Bytes
row_token r = (quantity_token r.0, r.1)

-- the quantities in a row with which the bytes begin, as one token, and what is after them
unfoldable pub quantity_at : Bytes → Token × Bytes
quantity_at bs = row_token (row_from (piece_at bs).0 (piece_at bs).1)

-- The digits after the point, of a unit of so many, say the whole number p exactly where p, ten
-- times as much for each digit, is the number that the digits spell times the unit.
abbrev pub PartIsExact : ℕ → Bytes → Type 0
PartIsExact factor ds = (p : ℕ)
    → (part_of factor ds ≡ Some p) ↔ (p * 10 ^ length ds ≡ value_of class.Digit ds * factor)
