-- What values have to be.
use Rattle.std.specs.Prelude.{zero, nat_lt, ℤ, pos, negsuc, Result, Ok, Err, if◌then◌else◌}
use Rattle.sim_values.specs.declared.value.Value.{Value}
use Rattle.sim_values.specs.declared.value.Value.TheVariants as value
use Rattle.sim_values.specs.declared.model_fault.ModelFault.{ModelFault}
use Rattle.sim_values.specs.declared.model_fault.ModelFault.TheVariants as fault
use Rattle.sim_values.specs.declared.model_fault.ModelFault.TheVariants.{TooManyModules, GateSize}
use Rattle.sim_values.specs.declared.value_fault.ValueFault.TheVariants.{Mismatch}
use Rattle.param_eval.specs.Operators.{Evaluated}
use Rattle.param_values.specs.declared.kind.Kind.{Kind}
use Rattle.param_values.specs.Kinds.{of_kind}
use Rattle.inside_keys.specs.declared.check.Check.{Check}
use Rattle.inside_keys.specs.declared.check.Check.TheVariants as check

abbrev pub told : Evaluated → Result Value ModelFault
told (Ok v) = Ok v
told (Err f) = Err (fault.Value f)

-- 0 to 65,536
abbrev pub sized : ModelFault → ModelFault → ℤ → Result Value ModelFault
sized below above (pos n) = if nat_lt 65536 n then Err above else Ok (value.Whole (pos n))
sized below above (negsuc n) = Err below

abbrev pub not_negative : Value → Result Value ModelFault
not_negative (value.Quantity d (pos n)) = Ok (value.Quantity d (pos n))
not_negative _ = Err (fault.Value Mismatch)

abbrev pub amount_by : Result Value ModelFault → Result Value ModelFault
amount_by (Ok v) = not_negative v
amount_by (Err f) = Err f

-- of that kind, and not negative
abbrev pub amount : Kind → Value → Result Value ModelFault
amount k v = amount_by (told (of_kind k v))

-- the value, where it is what it has to be
abbrev pub checked : Check → Value → Result Value ModelFault
checked (check.Parameter k) v = told (of_kind k v)
checked (check.Amount k) v = amount k v
checked check.Zero (value.Whole (pos zero)) = Ok (value.Whole (pos zero))
checked check.Condition (value.Truth b) = Ok (value.Truth b)
checked check.VectorSize (value.Whole z) = sized (fault.Value Mismatch) TooManyModules z
checked check.GateSize (value.Whole z) = sized GateSize GateSize z
checked _ v = Err (fault.Value Mismatch)
