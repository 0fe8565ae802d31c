use Rattle.std.proofs.Common.{arith}
use Rattle.result_lines.proofs.LineLemmas.{vector_lines_more}
use Rattle.result_lines.proofs.Writing.{adds_more}
use Rattle.result_lines.specs.VectorText.{vector_line}
use Rattle.result_lines.proofs.lines.put_vector_lines.Goals as goal

pub loop-number-preserved : goal.loop-number-preserved
loop-number-preserved g c =
    let more = vector_lines_more c.loop-number.number c.args.vectors.now c.index-vectors-number.result c.loop-number-test.true c.index-vectors-number.is in
    record {
      goes_on = λ r e x. c.loop-number.invariant.goes_on r e (adds_more {piece = vector_line c.loop-number.number c.index-vectors-number.result} more c.put_vector_line-progress.ensures.adds x);
      short = omega arith;
    }
