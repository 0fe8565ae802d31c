use Rattle.std.proofs.Common.{◌≡◌, ◌++◌, drop}
use Rattle.ned_scopes.specs.Scopes.{resolved_within}
use Rattle.ned_scopes.proofs.scopes.+resolving.Given as goal

abbrev pub invariant-add_all_resolved-loop-one : goal.invariant-add_all_resolved-loop-one
invariant-add_all_resolved-loop-one l = l.list ++ resolved_within l.types l.scopes (drop l.one-index l.nested) ≡ l.fn.list ++ resolved_within l.types l.scopes l.nested
