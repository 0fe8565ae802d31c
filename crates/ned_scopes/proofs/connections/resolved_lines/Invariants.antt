use Rattle.std.proofs.Common.{◌≡◌, ◌++◌, drop, map}
use Rattle.ned_scopes.specs.Scopes.{resolved_line}
use Rattle.ned_scopes.proofs.connections.resolved_lines.Given as goal

abbrev pub invariant-loop-line : goal.invariant-loop-line
invariant-loop-line l = l.all ++ map (resolved_line l.types l.scopes) (drop l.line-index l.lines) ≡ map (resolved_line l.types l.scopes) l.lines
