use Rattle.std.proofs.Common.{ap, ◌∙◌}
use Rattle.kernel_boxes.specs.Saved.{seats_held}
use Rattle.kernel_boxes.specs.Staying.{staying}
use Rattle.kernel_boxes.proofs.Saving.{seats_rise}
use Rattle.kernel.specs.Kernels.{boxes_in, world_in}
use Rattle.kernel.proofs.Backwards.{can_take, those_left}
use Rattle.kernel.proofs.kernel.Kernel.go_back.Goals as goal

pub returns-in_err-request-clause-kept : goal.returns-in_err-request-clause-kept
returns-in_err-request-clause-kept g c =
    let ss = boxes_in (λ b. (g.dyn-1.0.entry b.vtable).1) c.args.self.now in
    those_left g.C.Catalogue.behaviour c.args.position.now.modules ss (seats_held (λ b. (g.dyn-1.0.entry b.vtable).1) c.drop_others.new.boxes)
    (c.drop_others.ensures ∙ ap (λ saved. staying saved ss) c.as_slice.ensures) c.requires.kinds

pub returns-in-Some-clause-kept : goal.returns-in-Some-clause-kept
returns-in-Some-clause-kept g c =
    let ss = boxes_in (λ b. (g.dyn-1.0.entry b.vtable).1) c.args.self.now in
    those_left g.C.Catalogue.behaviour c.args.position.now.modules ss (seats_held (λ b. (g.dyn-1.0.entry b.vtable).1) c.drop_others.new.boxes)
    (c.drop_others.ensures ∙ ap (λ saved. staying saved ss) c.as_slice.ensures) c.requires.kinds

pub load_position-requires : goal.load_position-requires
load_position-requires g c =
    let ss = boxes_in (λ b. (g.dyn-1.0.entry b.vtable).1) c.args.self.now in
    let left = record c.args.self.now { boxes = c.drop_others.new.boxes } in
    can_take g.C.Catalogue.behaviour (world_in (λ b. (g.dyn-1.0.entry b.vtable).1) left) c.args.position.now.modules c.args.self.now.boxes.room ss (seats_held (λ b. (g.dyn-1.0.entry b.vtable).1) c.drop_others.new.boxes)
    c.requires.rising (seats_rise (λ v. (g.dyn-1.0.entry v.vtable).1.meaning v.value) 0 c.args.self.now.boxes.room c.args.self.now.boxes.seats c.room-ids_rise.ensures.rising) c.requires.states c.requires.kinds
    (c.drop_others.ensures ∙ ap (λ saved. staying saved ss) c.as_slice.ensures) c.in_ok-request.field-0 c.in-None.is c.in_ok-request.ensures
