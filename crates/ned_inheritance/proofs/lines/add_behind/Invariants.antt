use Rattle.std.proofs.Common.{◌≡◌, length}
use Rattle.ned_inheritance.specs.Inheritance.{all_behind, types_in}
use Rattle.ned_inheritance.proofs.lines.add_behind.Given as goal

abbrev pub invariant-loop-rest : goal.invariant-loop-rest
invariant-loop-rest l = all_behind l.line (types_in l.rest) ≡ all_behind l.fn.line (types_in l.more)

abbrev pub decreases-loop-rest : goal.decreases-loop-rest
decreases-loop-rest l = length l.rest
