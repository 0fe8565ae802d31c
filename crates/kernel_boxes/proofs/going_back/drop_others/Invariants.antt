-- of the boxes of smaller ids those are left that stay
use Rattle.std.proofs.Common.{◌≡◌}
use Rattle.std.specs.List.{filter}
use Rattle.kernel_boxes.specs.Saved.{seats_held}
use Rattle.kernel_boxes.proofs.Going.{passed, from_id}
use Rattle.kernel_boxes.proofs.going_back.drop_others.Given as goal

abbrev pub invariant-loop-index : goal.invariant-loop-index
invariant-loop-index g l = record {
  seats : seats_held (λ b. (g.dyn-1.0.entry b.vtable).1) l.boxes ≡ filter (passed l.index l.fn.saved) (seats_held (λ b. (g.dyn-1.0.entry b.vtable).1) l.fn.boxes);
  left : l.left ≡ from_id l.index l.fn.saved;
  room : l.boxes.room ≡ l.fn.boxes.room;
}
