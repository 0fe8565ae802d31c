use Rattle.std.proofs.Common.{◌≡◌, ◌++◌}
use Rattle.kernel_boxes.specs.Saved.{seats_held, instances_held}
use Rattle.kernel_boxes.proofs.Saving.{instances_left}
use Rattle.kernel_boxes.proofs.boxes_saved.save_all.Given as goal

-- what is saved, and the states that are left, are all
abbrev pub invariant-loop-index : goal.invariant-loop-index
invariant-loop-index g l =
    l.saved ++ instances_left l.index (seats_held (λ b. (g.dyn-1.0.entry b.vtable).1) l.fn.boxes) ≡ instances_held (λ b. (g.dyn-1.0.entry b.vtable).1) l.fn.boxes
