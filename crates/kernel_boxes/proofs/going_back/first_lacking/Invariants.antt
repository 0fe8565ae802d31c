-- those before have boxes
use Rattle.std.proofs.Common.{◌≡◌, drop}
use Rattle.run_semantics.specs.Run.{standing}
use Rattle.kernel_boxes.specs.Saved.{instances_held}
use Rattle.kernel_boxes.specs.Staying.{first_without}
use Rattle.kernel_boxes.proofs.going_back.first_lacking.Given as goal

abbrev pub invariant-loop-instance : goal.invariant-loop-instance
invariant-loop-instance g l =
    first_without (standing (instances_held (λ b. (g.dyn-1.0.entry b.vtable).1) l.boxes)) (standing (drop l.instance-index l.saved))
    ≡ first_without (standing (instances_held (λ b. (g.dyn-1.0.entry b.vtable).1) l.boxes)) (standing l.saved)
