use Rattle.std.proofs.Common.{◌≡◌, ◌≤◌, drop, length}
use Rattle.ini_trees.specs.Parts.{is_part}
use Rattle.ini_trees.proofs.parts.is_part.Given as goal

abbrev pub invariant-loop-number : goal.invariant-loop-number
invariant-loop-number l = record {
  left : is_part (drop l.passed l.part) (drop l.number-index l.whole) ≡ is_part l.part l.whole;
  within : l.passed ≤ length l.part;
}
