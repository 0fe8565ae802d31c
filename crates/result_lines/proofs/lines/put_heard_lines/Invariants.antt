use Rattle.std.proofs.Common.{◌+◌, ◌*◌, ◌≤◌, drop}
use Rattle.result_lines.specs.Written.{written_in}
use Rattle.result_lines.specs.VectorText.{heard_lines}
use Rattle.result_lines.proofs.Writing.{GoesOn}
use Rattle.result_lines.proofs.lines.put_heard_lines.Given as goal

abbrev pub invariant-loop-number : goal.invariant-loop-number
invariant-loop-number g l = record {
  goes_on : GoesOn l.initial.progress (g.O.Out.taken l.fn.out) (heard_lines l.records l.emission 0 l.vectors)
      l.progress (g.O.Out.taken l.out) (heard_lines l.records l.emission l.number (drop l.number l.vectors));
  short : written_in l.progress ≤ written_in l.initial.progress + 256 * l.number;
}
