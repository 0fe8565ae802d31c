use Rattle.std.proofs.Common.{◌≡◌, ◌++◌, drop}
use Rattle.ned_scopes.proofs.connections.copy_connection_lines.Given as goal

abbrev pub invariant-loop-line : goal.invariant-loop-line
invariant-loop-line l = l.copy ++ drop l.line-index l.lines ≡ l.lines
