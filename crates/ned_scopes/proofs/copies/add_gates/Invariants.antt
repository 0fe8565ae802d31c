use Rattle.std.proofs.Common.{◌≡◌, ◌++◌, drop}
use Rattle.ned_scopes.proofs.copies.add_gates.Given as goal

abbrev pub invariant-loop-line : goal.invariant-loop-line
invariant-loop-line l = l.gates ++ drop l.line-index l.more ≡ l.fn.gates ++ l.more
