use Rattle.std.proofs.Common.{◌≡◌, ◌++◌, drop}
use Rattle.ned_scopes.proofs.connections.copy_clauses.Given as goal

abbrev pub invariant-loop-clause : goal.invariant-loop-clause
invariant-loop-clause l = l.copy ++ drop l.clause-index l.clauses ≡ l.clauses
