-- Which values a parameter may have (OMNeT++ Simulation Manual, "Parameters"). The one numbers are
-- whole; those with a unit are quantities.
use Rattle.std.specs.Prelude.{Bool, true, false, Some, None, Ok, Err, if◌then◌else◌}
use Rattle.sim_values.specs.Dimensions.{same_dimension}
use Rattle.sim_values.specs.declared.value.Dimension.{Dimension}
use Rattle.sim_values.specs.declared.value.Value.{Value}
use Rattle.sim_values.specs.declared.value.Value.TheVariants as value
use Rattle.sim_values.specs.declared.value_fault.ValueFault.TheVariants.{Mismatch}
use Rattle.param_eval.specs.Operators.{Evaluated}
use Rattle.param_values.specs.declared.kind.Kind.{Kind}
use Rattle.param_values.specs.declared.kind.Kind.TheVariants as kind

-- a quantity of that dimension
abbrev pub is_quantity : Dimension → Value → Bool
is_quantity d (value.Quantity e amount) = same_dimension d e
is_quantity d _ = false

abbrev pub is_whole : Value → Bool
is_whole (value.Whole n) = true
is_whole _ = false

abbrev pub is_truth : Value → Bool
is_truth (value.Truth b) = true
is_truth _ = false

abbrev pub is_text : Value → Bool
is_text (value.Text t) = true
is_text _ = false

-- WHICH VALUES a parameter of a kind may have: a whole number, or with a unit a quantity of its
-- dimension; `double` always has a unit
abbrev pub is_of_kind : Kind → Value → Bool
is_of_kind kind.Truth v = is_truth v
is_of_kind kind.Text v = is_text v
is_of_kind (kind.Int None) v = is_whole v
is_of_kind (kind.Int (Some d)) v = is_quantity d v
is_of_kind (kind.Double None) v = false
is_of_kind (kind.Double (Some d)) v = is_quantity d v

-- the value, where it is of that kind
abbrev pub of_kind : Kind → Value → Evaluated
of_kind k v = if is_of_kind k v then Ok v else Err Mismatch
