use Rattle.std.proofs.Common.{◌+◌, ◌*◌, ◌^◌, ◌≤◌, drop}
use Rattle.result_lines.specs.Written.{written_in}
use Rattle.result_lines.specs.VectorText.{data_lines}
use Rattle.result_lines.proofs.Writing.{GoesOn}
use Rattle.result_lines.proofs.lines.put_data_lines.Given as goal

abbrev pub invariant-loop-emission : goal.invariant-loop-emission
invariant-loop-emission g l = record {
  goes_on : GoesOn l.initial.progress (g.O.Out.taken l.fn.out) (data_lines l.records l.vectors l.emissions)
      l.progress (g.O.Out.taken l.out) (data_lines l.records l.vectors (drop l.emission-index l.emissions));
  short : written_in l.progress ≤ written_in l.initial.progress + 2 ^ 65 * l.emission-index;
}
