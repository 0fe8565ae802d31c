use Rattle.std.proofs.Common.{◌≡◌, drop}
use Rattle.ned_scopes.specs.Known.{all_behind}
use Rattle.ned_scopes.specs.Scopes.{inner_types}
use Rattle.ned_scopes.proofs.scopes.add_inner.Given as goal

abbrev pub invariant-loop-nested : goal.invariant-loop-nested
invariant-loop-nested l = all_behind l.known (inner_types (drop l.nested-index l.types)) ≡ all_behind l.fn.known (inner_types l.types)
