use Rattle.std.proofs.Common.{◌<◌, ◌++◌, length, drop, ap, ◌∙◌, arith}
use Rattle.std.proofs.lemmas.Fmt.{decimal_nonempty}
use Rattle.std.specs.Fmt.{decimal}
use Rattle.sim_time.specs.Text.{low_digits, without_last_zeros}
use Rattle.result_lines.proofs.PartDigits.{point_first, part_shown}
use Rattle.result_lines.proofs.line_bytes.part_before.Goals as goal

pub returns-clause-written : goal.returns-clause-written
returns-clause-written c =
    let tail = drop c.args.end c.args.line.now in
    let within : c.write_digits-start.result < length c.write_digits-start.new.buf = omega (arith, decimal_nonempty c.part_digits.result (omega arith)) in
    point_first c.write_digits-start.new.buf tail (decimal c.part_digits.result) (without_last_zeros (low_digits 12 c.args.part)) c.write_digits-start.result within c.write_digits-start.ensures.written c.part_digits.ensures.digits
    ∙ ap (λ ds. ds ++ tail) (part_shown c.args.part (omega arith))
