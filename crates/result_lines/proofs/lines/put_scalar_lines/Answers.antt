use Rattle.std.proofs.Common.{arith}
use Rattle.result_lines.proofs.LineLemmas.{scalar_lines_more}
use Rattle.result_lines.proofs.Writing.{adds_more}
use Rattle.result_lines.specs.ScalarText.{scalar_line}
use Rattle.result_lines.proofs.lines.put_scalar_lines.Goals as goal

pub loop-scalar-preserved : goal.loop-scalar-preserved
loop-scalar-preserved g c =
    let more = scalar_lines_more c.args.scalars.now c.loop-scalar.scalar-index c.scalar-item.result c.loop-scalar-test.true c.scalar-item.is in
    record {
      goes_on = λ r e x. c.loop-scalar.invariant.goes_on r e (adds_more {piece = scalar_line c.scalar-item.result} more c.put_scalar_line-progress.ensures.adds x);
      short = omega arith;
    }
