use Rattle.std.proofs.Common.{◌≡◌, ◌++◌}
use Rattle.std.specs.Option.{option_copied}
use Rattle.ned_scopes.specs.Scopes.{bases_within, scopes_of}
use Rattle.ned_scopes.proofs.names.scopes_of.Given as goal

abbrev pub invariant-loop-next : goal.invariant-loop-next
invariant-loop-next l = l.own.items ++ bases_within l.left l.types l.rest (option_copied l.next) ≡ scopes_of l.types l.scopes l.declared

abbrev pub decreases-loop-next : goal.decreases-loop-next
decreases-loop-next l = l.left
