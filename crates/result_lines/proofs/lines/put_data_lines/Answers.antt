use Rattle.std.proofs.Common.{arith}
use Rattle.result_lines.proofs.LineLemmas.{data_lines_more}
use Rattle.result_lines.proofs.Writing.{adds_more}
use Rattle.result_lines.specs.VectorText.{heard_lines}
use Rattle.result_lines.proofs.lines.put_data_lines.Goals as goal

pub loop-emission-preserved : goal.loop-emission-preserved
loop-emission-preserved g c =
    let more = data_lines_more c.args.records.now c.args.vectors.now c.args.emissions.now c.loop-emission.emission-index c.emission-item.result c.loop-emission-test.true c.emission-item.is in
    record {
      goes_on = λ r e x. c.loop-emission.invariant.goes_on r e (adds_more {piece = heard_lines c.args.records.now c.emission-item.result 0 c.args.vectors.now} more c.put_value-progress.ensures.adds x);
      short = omega arith;
    }
