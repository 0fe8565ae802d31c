use Rattle.std.proofs.Common.{◌≡◌, length}
use Rattle.ned_inheritance.specs.Inheritance.{gathered, types_in}
use Rattle.ned_inheritance.proofs.inheritance.add_gathered.Given as goal

abbrev pub invariant-loop-rest : goal.invariant-loop-rest
invariant-loop-rest l = gathered l.flat (types_in l.rest) ≡ gathered l.fn.flat (types_in l.line)

abbrev pub decreases-loop-rest : goal.decreases-loop-rest
decreases-loop-rest l = length l.rest
