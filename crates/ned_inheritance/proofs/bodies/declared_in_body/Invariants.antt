use Rattle.std.proofs.Common.{◌≡◌, drop}
use Rattle.ned_inheritance.specs.Places.{body_gate, first_told}
use Rattle.ned_inheritance.proofs.bodies.declared_in_body.Given as goal

abbrev pub invariant-loop-number : goal.invariant-loop-number
invariant-loop-number l = first_told body_gate l.number (drop l.number l.submodules) ≡ first_told body_gate 0 l.submodules
