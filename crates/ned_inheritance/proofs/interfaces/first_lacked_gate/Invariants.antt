use Rattle.std.proofs.Common.{◌≡◌, drop}
use Rattle.ned_inheritance.specs.Places.{first_from}
use Rattle.ned_inheritance.specs.Interfaces.{lacks_gate}
use Rattle.ned_inheritance.proofs.interfaces.first_lacked_gate.Given as goal

abbrev pub invariant-loop-at : goal.invariant-loop-at
invariant-loop-at l = first_from (λ w. lacks_gate l.gates w) l.at (drop l.at l.wanted) ≡ first_from (λ w. lacks_gate l.gates w) 0 l.wanted
