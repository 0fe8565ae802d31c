use Rattle.std.proofs.Common.{◌≡◌, length}
use Rattle.ned_scopes.specs.Scopes.{declaring}
use Rattle.ned_scopes.proofs.names.declaring.Given as goal

abbrev pub invariant-loop-rest : goal.invariant-loop-rest
invariant-loop-rest l = declaring l.types l.rest l.name ≡ declaring l.types l.scopes l.name

abbrev pub decreases-loop-rest : goal.decreases-loop-rest
decreases-loop-rest l = length l.rest
