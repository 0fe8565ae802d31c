use Rattle.std.proofs.Common.{◌+◌, ◌-◌, ◌*◌, ◌≤◌, drop, length}
use Rattle.result_lines.specs.Written.{written_in}
use Rattle.result_lines.specs.VectorText.{heard_lines}
use Rattle.result_lines.proofs.Writing.{GoesOn}
use Rattle.result_lines.proofs.lines.put_lines_around.Given as goal

abbrev pub invariant-loop-number : goal.invariant-loop-number
invariant-loop-number g l = record {
  within : l.number ≤ length l.vectors;
  goes_on : GoesOn l.initial.progress (g.O.Out.taken l.fn.out) (heard_lines l.records l.emission 0 l.vectors)
      l.progress (g.O.Out.taken l.out) (heard_lines l.records l.emission l.number (drop l.number l.vectors));
  short : written_in l.progress ≤ written_in l.initial.progress + 256 * l.number;
}

abbrev pub decreases-loop-number : goal.decreases-loop-number
decreases-loop-number g l = length l.vectors - l.number
