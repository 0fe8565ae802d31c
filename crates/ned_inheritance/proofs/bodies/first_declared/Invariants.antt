use Rattle.std.proofs.Common.{◌≡◌, drop}
use Rattle.ned_types.specs.Types.{is_gate_declaration}
use Rattle.ned_inheritance.specs.Places.{first_from}
use Rattle.ned_inheritance.proofs.bodies.first_declared.Given as goal

abbrev pub invariant-loop-at : goal.invariant-loop-at
invariant-loop-at l = first_from is_gate_declaration l.at (drop l.at l.gates) ≡ first_from is_gate_declaration 0 l.gates
