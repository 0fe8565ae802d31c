use Rattle.std.proofs.Common.{◌≡◌, drop}
use Rattle.model_settings.specs.Standings.{names_behind, names_of_types}
use Rattle.model_settings.proofs.tables.add_types.Given as goal

abbrev pub invariant-loop-declared : goal.invariant-loop-declared
invariant-loop-declared l = names_behind l.names (names_of_types (drop l.declared-index l.types)) ≡ names_behind l.fn.names (names_of_types l.types)
