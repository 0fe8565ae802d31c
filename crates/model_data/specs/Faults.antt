-- Why a configuration can't be run.
use Rattle.std.specs.Prelude.{ℕ, List, codes}
use Rattle.model_data.specs.declared.faults.ConfigFault.{ConfigFault}
use Rattle.model_data.specs.declared.faults.ConfigFault.TheVariants as configs

-- the name of a fault
abbrev pub config_fault_name : ConfigFault → List ℕ
config_fault_name configs.NoSuchConfig = codes "NoSuchConfig"
config_fault_name configs.ChainFault = codes "ChainFault"
config_fault_name configs.NoSuchNetwork = codes "NoSuchNetwork"
