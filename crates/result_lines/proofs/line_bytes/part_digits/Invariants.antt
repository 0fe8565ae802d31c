use Rattle.std.proofs.Common.{◌+◌, ◌≤◌}
use Rattle.result_lines.proofs.PartDigits.{IsLeft}
use Rattle.result_lines.proofs.line_bytes.part_digits.Given as goal

abbrev pub invariant-loop-digits : goal.invariant-loop-digits
invariant-loop-digits l = record {
  left : IsLeft l.part l.digits;
  short : l.digits ≤ 1000000000000 + l.part;
}

abbrev pub decreases-loop-digits : goal.decreases-loop-digits
decreases-loop-digits l = l.digits
