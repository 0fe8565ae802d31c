use Rattle.std.proofs.Common.{◌≡◌, drop}
use Rattle.inside_parts.specs.Gates.{gates_from, no_gates}
use Rattle.inside_parts.proofs.gates.gates_by.Given as goal

abbrev pub invariant-loop-line : goal.invariant-loop-line
invariant-loop-line l = gates_from l.loose (drop l.line-index l.lines) l.gates ≡ gates_from l.loose l.lines no_gates
