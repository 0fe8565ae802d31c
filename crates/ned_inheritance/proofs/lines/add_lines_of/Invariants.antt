use Rattle.std.proofs.Common.{◌≡◌, length, map}
use Rattle.ned_inheritance.specs.Inheritance.{joined_behind}
use Rattle.ned_inheritance.specs.Named.{line_at}
use Rattle.ned_inheritance.proofs.lines.add_lines_of.Given as goal

abbrev pub invariant-names : goal.invariant-names
invariant-names l = joined_behind l.line (map (line_at l.lines.entries) l.rest) ≡ joined_behind l.fn.line (map (line_at l.lines.entries) l.names)

abbrev pub decreases-names : goal.decreases-names
decreases-names l = length l.rest
