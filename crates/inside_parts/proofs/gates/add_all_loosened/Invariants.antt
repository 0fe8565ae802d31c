use Rattle.std.proofs.Common.{◌≡◌, drop}
use Rattle.inside_parts.specs.Gates.{loosened_from}
use Rattle.inside_parts.proofs.gates.add_all_loosened.Given as goal

abbrev pub invariant-loop-line : goal.invariant-loop-line
invariant-loop-line l = loosened_from (drop l.line-index l.lines) l.names ≡ loosened_from l.lines l.fn.names
