use Rattle.std.proofs.Common.{map, refl}
use Rattle.kernel_boxes.specs.Seats.{instance_of}
use Rattle.kernel_boxes.proofs.Going.{ids_rise}
use Rattle.kernel_boxes.proofs.Saving.{seats_rise}
use Rattle.kernel.specs.Kernels.{boxes_in}
use Rattle.kernel.proofs.kernel.Kernel.held.Goals as goal

pub returns-clause-rising : goal.returns-clause-rising
returns-clause-rising g c =
    let ss = boxes_in (λ b. (g.dyn-1.0.entry b.vtable).1) c.args.self.now in
    ids_rise 0 c.args.self.now.boxes.room ss (map instance_of ss) (seats_rise (λ v. (g.dyn-1.0.entry v.vtable).1.meaning v.value) 0 c.args.self.now.boxes.room c.args.self.now.boxes.seats c.room-ids_rise.ensures.rising) refl
