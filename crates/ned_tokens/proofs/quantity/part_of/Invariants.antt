use Rattle.std.proofs.Common.{◌≡◌, ◌≤◌, ◌*◌, length, drop, Some}
use Rattle.ned_tokens.specs.Quantities as quantities
use Rattle.ned_tokens.proofs.quantity.part_of.Given as goal

abbrev pub invariant-loop-index : goal.invariant-loop-index
invariant-loop-index l = record {
  within : l.index ≤ length l.digits;
  part : quantities.part_of l.factor (drop l.index l.digits) ≡ Some l.part;
  small : l.part ≤ 19 * l.factor;
}

abbrev pub decreases-loop-index : goal.decreases-loop-index
decreases-loop-index l = l.index
