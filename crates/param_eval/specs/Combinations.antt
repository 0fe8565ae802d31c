-- What makes a value of two: an operator between them, or `min` and `max`.
use Rattle.std.specs.Prelude.{Option, None}
use Rattle.sim_values.specs.declared.value.Value.{Value}
use Rattle.param_eval.specs.declared.operators.Combination.{Combination}
use Rattle.param_eval.specs.declared.operators.Combination.TheVariants as combination
use Rattle.param_eval.specs.Operators.{Evaluated, applied, decided, chosen}

abbrev pub combined : Combination → Value → Value → Evaluated
combined (combination.Operator o) x y = applied o x y
combined (combination.Choice c) x y = chosen c x y

-- what the left side alone decides
abbrev pub settled : Combination → Value → Option Evaluated
settled (combination.Operator o) x = decided o x
settled (combination.Choice c) x = None
