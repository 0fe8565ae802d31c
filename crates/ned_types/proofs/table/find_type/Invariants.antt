use Rattle.std.proofs.Common.{◌≡◌, drop}
use Rattle.ned_types.specs.Types.{type_named}
use Rattle.ned_types.proofs.table.find_type.Given as goal

abbrev pub invariant-loop-declared : goal.invariant-loop-declared
invariant-loop-declared l = type_named l.name (drop l.declared-index l.types) ≡ type_named l.name l.types
