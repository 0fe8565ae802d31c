-- Words of the laws.
use Rattle.std.specs.Prelude.{◌≡◌, ◌≢◌, ◌<◌, ℤ, pos, ◌+ℤ◌, ◌*ℤ◌, ◌≤ℤ◌, ◌<ℤ◌, ◌^◌, unsigned_abs}
use Rattle.std.specs.Prelude.{Some, Ok}
use Rattle.param_following.specs.Asking.{outcome}
use Rattle.ned_trees.specs.declared.expressions.Expression.{Expression}
use Rattle.param_eval.specs.Operators.{Evaluated}
use Rattle.param_eval.specs.References.{Reference}
use Rattle.param_eval.specs.Values.{valued, value_in}
use Rattle.param_eval.specs.Wholes.{bounded, quotient, remainder, shift_right}

-- a quotient, times what was divided by, is what was divided
abbrev pub IsExact : Type 0
IsExact = (a b q : ℤ) → quotient a b ≡ Ok q → q *ℤ b ≡ a

-- what is some number, times what is divided by, has that number as quotient, where that fits
abbrev pub IsFound : Type 0
IsFound = (a b q : ℤ) → b ≢ pos 0 → q *ℤ b ≡ a → quotient a b ≡ bounded q

-- What is left, added to a multiple of what was divided by, is what was divided. It is nearer to
-- zero than what was divided by, and on the side of zero where what was divided is.
abbrev pub IsLeft : Type 0
IsLeft = (a b r : ℤ) → remainder a b ≡ Ok r →
    ((q : ℤ) × (q *ℤ b +ℤ r ≡ a)) × (unsigned_abs r < unsigned_abs b) × (pos 0 ≤ℤ a → pos 0 ≤ℤ r)
    × (a ≤ℤ pos 0 → r ≤ℤ pos 0)

-- what is shifted to the right lies between the answer, times the power of two, and one such power
-- more
abbrev pub IsRoundedDown : Type 0
IsRoundedDown = (a b q : ℤ) → shift_right a b ≡ Ok q →
    let power = pos (2 ^ unsigned_abs b) in ((q *ℤ power) ≤ℤ a) × (a <ℤ (q *ℤ power +ℤ power))

-- what an expression's asking comes to where each reference has an answer is always there: its
-- value or its fault
abbrev pub IsOutcome : Type 0
IsOutcome = (meaning : Reference → Evaluated) (e : Expression)
    → outcome (λ r. Some (meaning r)) (valued e) ≡ Some (value_in meaning e)
