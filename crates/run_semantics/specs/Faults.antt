-- The names of a run's faults.
use Rattle.std.specs.Prelude.{ℕ, List, codes}
use Rattle.sim_values.specs.ModelFaults.{model_fault_name}
use Rattle.run_semantics.specs.declared.outcome.RunFault.{RunFault}
use Rattle.run_semantics.specs.declared.outcome.RunFault.TheVariants as fault

-- the name of a fault
abbrev pub fault_name : RunFault → List ℕ
fault_name (fault.Model f) = model_fault_name f
fault_name fault.UnknownClass = codes "UnknownClass"
fault_name fault.NoParameter = codes "NoParameter"
fault_name fault.NoGate = codes "NoGate"
fault_name fault.AlreadyConnected = codes "AlreadyConnected"
fault_name fault.TooManyActions = codes "TooManyActions"
fault_name fault.NotInFinish = codes "NotInFinish"
fault_name fault.BadName = codes "BadName"
fault_name fault.TimeOverflow = codes "TimeOverflow"
fault_name fault.NotConnected = codes "NotConnected"
fault_name fault.TooManyHops = codes "TooManyHops"
fault_name fault.TwoTransmissionChannels = codes "TwoTransmissionChannels"
fault_name fault.Busy = codes "Busy"
fault_name fault.DuplicateName = codes "DuplicateName"
fault_name fault.NoModule = codes "NoModule"
fault_name fault.PayloadTooLarge = codes "PayloadTooLarge"
fault_name fault.Past = codes "Past"
fault_name fault.AlreadyScheduled = codes "AlreadyScheduled"
fault_name (fault.ModuleFailed text) = codes "ModuleFailed"
