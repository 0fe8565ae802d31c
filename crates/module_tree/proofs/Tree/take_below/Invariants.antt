use Rattle.std.proofs.Common.{◌≡◌, ◌≤◌}
use Rattle.module_tree.specs.Boxes.{with_boxes, AreFree, AreRising}
use Rattle.module_tree.proofs.Tree.take_below.Given as goal

abbrev pub decreases-loop-left : goal.decreases-loop-left
decreases-loop-left g l = l.left

abbrev pub invariant-loop-left : goal.invariant-loop-left
invariant-loop-left g l = record {
  few : l.left ≤ l.below;
  room : l.below ≤ l.self.room;
  rising : AreRising 0 l.left l.others.seats;
  free : AreFree l.others.seats l.self.seats;
  whole : with_boxes l.others.seats l.self.seats ≡ with_boxes l.fn.others.seats l.fn.self.seats;
}
