use Rattle.std.proofs.Common.{arith}
use Rattle.result_lines.proofs.LineLemmas.{heard_lines_more}
use Rattle.result_lines.proofs.Writing.{adds_more}
use Rattle.result_lines.specs.VectorText.{heard_line}
use Rattle.result_lines.proofs.lines.put_heard_lines.Goals as goal

pub loop-number-preserved : goal.loop-number-preserved
loop-number-preserved g c =
    let more = heard_lines_more c.args.records.now c.args.emission.now c.loop-number.number c.args.vectors.now c.index-vectors-number.result c.loop-number-test.true c.index-vectors-number.is in
    record {
      goes_on = λ r e x. c.loop-number.invariant.goes_on r e (adds_more {piece = heard_line c.args.records.now c.args.emission.now c.loop-number.number c.index-vectors-number.result} more c.put_heard_line-progress.ensures.adds x);
      short = omega arith;
    }
