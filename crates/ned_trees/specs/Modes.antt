-- Names of recording modes (OMNeT++ Simulation Manual, "Result Recording Modes").
use Rattle.std.specs.Prelude.{ℕ, List, codes}
use Rattle.ned_trees.specs.declared.modes.Mode.{Mode}
use Rattle.ned_trees.specs.declared.modes.Mode.TheVariants as modes_are

-- the name of a mode
abbrev pub mode_name : Mode → List ℕ
mode_name modes_are.Count = codes "count"
mode_name modes_are.Sum = codes "sum"
mode_name modes_are.Min = codes "min"
mode_name modes_are.Max = codes "max"
mode_name modes_are.Last = codes "last"
mode_name modes_are.Vector = codes "vector"
