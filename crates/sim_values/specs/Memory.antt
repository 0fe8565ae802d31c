-- Lack of memory.
use Rattle.sim_values.specs.declared.NoMemory.{NoMemory}

-- the one value of `NoMemory`
abbrev pub no_memory : NoMemory
no_memory = record { seal = tt }
