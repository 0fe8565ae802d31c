use Rattle.std.proofs.Common.{◌≡◌, drop}
use Rattle.ned_scopes.specs.Known.{all_behind}
use Rattle.ned_scopes.specs.Scopes.{all_types}
use Rattle.ned_scopes.proofs.scopes.add_types.Given as goal

abbrev pub invariant-loop-nested : goal.invariant-loop-nested
invariant-loop-nested l = all_behind l.known (all_types (drop l.nested-index l.types)) ≡ all_behind l.fn.known (all_types l.types)
