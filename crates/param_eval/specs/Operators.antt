-- What operators make of values (the kinds of values that each takes are a rule of this project's
-- own; what is no such kind is Mismatch).
use Rattle.std.specs.Prelude.{ℕ, Bool, true, false, not, ◌&&◌, ◌||◌, ℤ, List, ◌++◌, Option, Some}
use Rattle.std.specs.Prelude.{None, Result, Ok, Err, if◌then◌else◌}
use Rattle.std.specs.Cmp.Lexicographic.{slice_cmp}
use Rattle.std.specs.Int.{w64, int_min, int_max, int_bit_and, int_bit_or, int_bit_xor}
use Rattle.std.specs.declared.cmp.Ordering.{Ordering}
use Rattle.std.specs.Ordering.{nat_cmp, int_cmp, is_eq, is_ne, is_lt, is_le, is_gt, is_ge}
use Rattle.sim_values.specs.declared.value.Dimension.{Dimension}
use Rattle.sim_values.specs.declared.value.Value.{Value}
use Rattle.sim_values.specs.declared.value.Value.TheVariants as value
use Rattle.sim_values.specs.Dimensions.{same_dimension}
use Rattle.ned_trees.specs.declared.expressions.Choice.{Choice}
use Rattle.ned_trees.specs.declared.expressions.Choice.TheVariants as choice
use Rattle.ned_trees.specs.declared.expressions.Operator.{Operator}
use Rattle.ned_trees.specs.declared.expressions.Operator.TheVariants as op
use Rattle.ned_trees.specs.declared.expressions.Sign.{Sign}
use Rattle.ned_trees.specs.declared.expressions.Sign.TheVariants as sign
use Rattle.sim_values.specs.declared.value_fault.ValueFault.{ValueFault}
use Rattle.sim_values.specs.declared.value_fault.ValueFault.TheVariants.{Mismatch}
use Rattle.param_eval.specs.Wholes.{sum, difference, product, quotient, remainder, power}
use Rattle.param_eval.specs.Wholes.{shift_left, shift_right, negation, complement}

-- a value, or why there is none
abbrev pub Evaluated : Type 0
Evaluated = Result Value ValueFault

-- a whole number or a quantity of this number, where there is one
abbrev pub made : (ℤ → Value) → Result ℤ ValueFault → Evaluated
made kind (Ok n) = Ok (kind n)
made kind (Err fault) = Err fault

abbrev pub truth : Bool → Evaluated
truth b = Ok (value.Truth b)

-- what an operator that compares says of what stands in this order
abbrev pub compared : Operator → Ordering → Evaluated
compared op.Equal order = truth (is_eq order)
compared op.NotEqual order = truth (is_ne order)
compared op.Less order = truth (is_lt order)
compared op.AtMost order = truth (is_le order)
compared op.Greater order = truth (is_gt order)
compared op.AtLeast order = truth (is_ge order)
compared _ order = Err Mismatch

-- two whole numbers; `|`, `#` and `&` are of the bits of their two's complement
abbrev pub of_wholes : Operator → ℤ → ℤ → Evaluated
of_wholes op.BitOr a b = Ok (value.Whole (int_bit_or w64 a b))
of_wholes op.BitXor a b = Ok (value.Whole (int_bit_xor w64 a b))
of_wholes op.BitAnd a b = Ok (value.Whole (int_bit_and w64 a b))
of_wholes op.ShiftLeft a b = made value.Whole (shift_left a b)
of_wholes op.ShiftRight a b = made value.Whole (shift_right a b)
of_wholes op.Add a b = made value.Whole (sum a b)
of_wholes op.Subtract a b = made value.Whole (difference a b)
of_wholes op.Multiply a b = made value.Whole (product a b)
of_wholes op.Divide a b = made value.Whole (quotient a b)
of_wholes op.Remainder a b = made value.Whole (remainder a b)
of_wholes op.Power a b = made value.Whole (power a b)
of_wholes o a b = compared o (int_cmp a b)

-- two amounts of one dimension; how many times the one is the other is a whole number
abbrev pub of_amounts : Dimension → Operator → ℤ → ℤ → Evaluated
of_amounts d op.Add a b = made (value.Quantity d) (sum a b)
of_amounts d op.Subtract a b = made (value.Quantity d) (difference a b)
of_amounts d op.Remainder a b = made (value.Quantity d) (remainder a b)
of_amounts d op.Divide a b = made value.Whole (quotient a b)
of_amounts d o a b = compared o (int_cmp a b)

abbrev pub of_quantities : Operator → Dimension → ℤ → Dimension → ℤ → Evaluated
of_quantities o d a e b = if same_dimension d e then of_amounts d o a b else Err Mismatch

-- a quantity and a whole number
abbrev pub of_amount : Dimension → Operator → ℤ → ℤ → Evaluated
of_amount d op.Multiply a n = made (value.Quantity d) (product a n)
of_amount d op.Divide a n = made (value.Quantity d) (quotient a n)
of_amount d _ a n = Err Mismatch

-- a whole number and a quantity
abbrev pub of_number : Dimension → Operator → ℤ → ℤ → Evaluated
of_number d op.Multiply n a = made (value.Quantity d) (product n a)
of_number d _ n a = Err Mismatch

-- two texts; they are compared byte by byte
abbrev pub of_texts : Operator → List ℕ → List ℕ → Evaluated
of_texts op.Add a b = Ok (value.Text (a ++ b))
of_texts o a b = compared o (slice_cmp nat_cmp a b)

abbrev pub differs : Bool → Bool → Bool
differs true b = not b
differs false b = b

-- two truth values
abbrev pub of_truths : Operator → Bool → Bool → Evaluated
of_truths op.Or a b = truth (a || b)
of_truths op.Xor a b = truth (differs a b)
of_truths op.And a b = truth (a && b)
of_truths op.Equal a b = truth (not (differs a b))
of_truths op.NotEqual a b = truth (differs a b)
of_truths _ a b = Err Mismatch

-- WHAT AN OPERATOR MAKES OF TWO VALUES
abbrev pub applied : Operator → Value → Value → Evaluated
applied o (value.Whole a) (value.Whole b) = of_wholes o a b
applied o (value.Quantity d a) (value.Quantity e b) = of_quantities o d a e b
applied o (value.Quantity d a) (value.Whole n) = of_amount d o a n
applied o (value.Whole n) (value.Quantity d a) = of_number d o n a
applied o (value.Text a) (value.Text b) = of_texts o a b
applied o (value.Truth a) (value.Truth b) = of_truths o a b
applied _ _ _ = Err Mismatch

-- what the left side alone decides: of `&&` and `||` what is no truth value, and the one that the
-- other side can't change
abbrev pub decided : Operator → Value → Option Evaluated
decided op.And (value.Truth true) = None
decided op.And (value.Truth false) = Some (truth false)
decided op.And _ = Some (Err Mismatch)
decided op.Or (value.Truth true) = Some (truth true)
decided op.Or (value.Truth false) = None
decided op.Or _ = Some (Err Mismatch)
decided _ _ = None

-- what a sign before a value makes of it
abbrev pub signed : Sign → Value → Evaluated
signed sign.Minus (value.Whole a) = made value.Whole (negation a)
signed sign.Minus (value.Quantity d a) = made (value.Quantity d) (negation a)
signed sign.Not (value.Truth b) = truth (not b)
signed sign.Complement (value.Whole a) = Ok (value.Whole (complement a))
signed _ _ = Err Mismatch

abbrev pub chosen_number : Choice → ℤ → ℤ → ℤ
chosen_number choice.Min a b = int_min a b
chosen_number choice.Max a b = int_max a b

-- `min` and `max`
abbrev pub chosen : Choice → Value → Value → Evaluated
chosen c (value.Whole a) (value.Whole b) = Ok (value.Whole (chosen_number c a b))
chosen c (value.Quantity d a) (value.Quantity e b) =
    if same_dimension d e then Ok (value.Quantity d (chosen_number c a b)) else Err Mismatch
chosen _ _ _ = Err Mismatch
