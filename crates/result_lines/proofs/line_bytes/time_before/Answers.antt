use Rattle.std.proofs.Common.{◌/◌, arith, rules}
use Rattle.std.proofs.lemmas.Fmt.{length-decimal-le}
use Rattle.sim_time.specs.Text.{text_of_time}
use Rattle.result_lines.proofs.PartDigits.{joined}
use Rattle.result_lines.proofs.line_bytes.time_before.Goals as goal

pub write_digits-requires : goal.write_digits-requires
write_digits-requires c = (omega (arith, length-decimal-le 8 (c.ps-ps.result / 1000000000000) (omega arith) (omega arith) (omega arith)), search rules)

pub returns-clause-short : goal.returns-clause-short
returns-clause-short c = omega (arith, length-decimal-le 8 (c.ps-ps.result / 1000000000000) (omega arith) (omega arith) (omega arith))

pub returns-clause-written : goal.returns-clause-written
unfolding text_of_time
returns-clause-written c =
    rw (c.write_digits.ensures.written, c.part_before-at.ensures.written, c.byte_before-at.ensures.written, c.ps-ps.ensures.value)
    (joined _ _ _ c.args.mark)
