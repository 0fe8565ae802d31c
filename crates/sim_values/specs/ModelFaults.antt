-- The names of faults, of values and of models.
use Rattle.std.specs.Prelude.{ℕ, List, codes}
use Rattle.sim_values.specs.declared.model_fault.ModelFault.{ModelFault}
use Rattle.sim_values.specs.declared.model_fault.ModelFault.TheVariants as fault
use Rattle.sim_values.specs.declared.value_fault.ValueFault.{ValueFault}
use Rattle.sim_values.specs.declared.value_fault.ValueFault.TheVariants as value

-- the name of a fault of a value
abbrev pub value_fault_name : ValueFault → List ℕ
value_fault_name value.Overflow = codes "Overflow"
value_fault_name value.Inexact = codes "Inexact"
value_fault_name value.Mismatch = codes "Mismatch"
value_fault_name value.Unassigned = codes "Unassigned"
value_fault_name value.Circle = codes "Circle"
value_fault_name value.TooDeep = codes "TooDeep"

-- the name of a fault of a model
abbrev pub model_fault_name : ModelFault → List ℕ
model_fault_name (fault.Value f) = value_fault_name f
model_fault_name fault.UnknownType = codes "UnknownType"
model_fault_name fault.Interface = codes "Interface"
model_fault_name fault.GateSize = codes "GateSize"
model_fault_name fault.NoGate = codes "NoGate"
model_fault_name fault.AlreadyConnected = codes "AlreadyConnected"
model_fault_name fault.Unconnected = codes "Unconnected"
model_fault_name fault.TooManyTurns = codes "TooManyTurns"
model_fault_name fault.TooManyModules = codes "TooManyModules"
