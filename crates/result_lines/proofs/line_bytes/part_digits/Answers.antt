use Rattle.std.proofs.Common.{arith}
use Rattle.result_lines.proofs.PartDigits.{zero_cut, all_cut}
use Rattle.result_lines.proofs.line_bytes.part_digits.Goals as goal

pub loop-digits-preserved : goal.loop-digits-preserved
loop-digits-preserved c = record {
  left = zero_cut c.args.part c.loop-digits.digits c.loop-digits.invariant.left (omega arith);
  short = omega arith;
}

pub returns-clause-digits : goal.returns-clause-digits
returns-clause-digits c = all_cut c.args.part c.loop-digits.digits c.loop-digits.invariant.left (omega arith) (omega arith)
