use Rattle.std.proofs.Common.{◌+◌, ◌*◌, ◌^◌, ◌≤◌, drop}
use Rattle.result_lines.specs.Written.{written_in}
use Rattle.result_lines.specs.ScalarText.{scalar_lines}
use Rattle.result_lines.proofs.Writing.{GoesOn}
use Rattle.result_lines.proofs.lines.put_scalar_lines.Given as goal

abbrev pub invariant-loop-scalar : goal.invariant-loop-scalar
invariant-loop-scalar g l = record {
  goes_on : GoesOn l.initial.progress (g.O.Out.taken l.fn.out) (scalar_lines l.scalars)
      l.progress (g.O.Out.taken l.out) (scalar_lines (drop l.scalar-index l.scalars));
  short : written_in l.progress ≤ written_in l.initial.progress + 2 ^ 65 * l.scalar-index;
}
