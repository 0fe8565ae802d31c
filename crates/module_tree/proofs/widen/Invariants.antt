-- what is held stays as it was
use Rattle.std.proofs.Common.{◌≡◌, ◌≤◌, ◌^◌, length}
use Rattle.module_tree.specs.Boxes.{seats_from}
use Rattle.module_tree.proofs.widen.Given as goal

abbrev pub invariant-loop-more : goal.invariant-loop-more
invariant-loop-more g l = record {
  same : seats_from 0 l.slots.items ≡ seats_from 0 l.initial.slots.items;
  long : length l.slots.items ≡ l.more;
  few : length l.slots.items ≤ 2 ^ 32;
}
