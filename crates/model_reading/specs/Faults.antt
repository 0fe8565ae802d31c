-- The names of why texts make no model.
use Rattle.std.specs.Prelude.{ℕ, List, codes}
use Rattle.ned_inheritance.specs.Faults.{type_fault_name}
use Rattle.model_data.specs.Faults.{config_fault_name}
use Rattle.model_reading.specs.declared.begin.BeginFault.{BeginFault}
use Rattle.model_reading.specs.declared.begin.BeginFault.TheVariants as fault

-- the name of a refusal
abbrev pub begin_fault_name : BeginFault → List ℕ
begin_fault_name fault.TooLarge = codes "TooLarge"
begin_fault_name (fault.NedSyntax file line) = codes "NedSyntax"
begin_fault_name (fault.IniSyntax line reason) = codes "IniSyntax"
begin_fault_name (fault.Types f) = type_fault_name f
begin_fault_name (fault.Config f) = config_fault_name f
begin_fault_name (fault.NoMemory _) = codes "NoMemory"
