use Rattle.std.proofs.Common.{◌∙◌, ap}
use Rattle.kernel_boxes.specs.Saved.{seats_held}
use Rattle.kernel_boxes.proofs.Leaving.{one_out}
use Rattle.kernel_boxes.proofs.Going.{out_of}
use Rattle.kernel_boxes.proofs.Saving.{seats_rise}
use Rattle.kernel_boxes.proofs.dropping.drop_one.Goals as goal

pub returns : goal.returns
returns g c =
    ap (seats_held (λ b. (g.dyn-1.0.entry b.vtable).1)) c.take.ensures.rest
    ∙ out_of (λ v. (g.dyn-1.0.entry v.vtable).1.meaning v.value) c.args.id c.args.boxes.now.seats
    ∙ one_out c.args.id 0 c.args.boxes.now.room (seats_held (λ b. (g.dyn-1.0.entry b.vtable).1) c.args.boxes.now) (seats_rise (λ v. (g.dyn-1.0.entry v.vtable).1.meaning v.value) 0 c.args.boxes.now.room c.args.boxes.now.seats c.room-ids_rise.ensures.rising)
