use Rattle.std.proofs.Common.{◌≡◌, ◌++◌, drop}
use Rattle.model_settings.specs.Standings.{submodules_of_types}
use Rattle.model_settings.proofs.tables.submodules_of_types.Given as goal

abbrev pub invariant-loop-declared : goal.invariant-loop-declared
invariant-loop-declared l = l.names ++ submodules_of_types (drop l.declared-index l.types) ≡ submodules_of_types l.types
