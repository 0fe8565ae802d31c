use Rattle.std.proofs.Common.{◌∙◌, sym, ap, cond}
use Rattle.kernel_boxes.specs.Saved.{seats_held}
use Rattle.kernel_boxes.proofs.Saving.{seats_rise}
use Rattle.kernel_boxes.proofs.Going.{looked_at, out_of, without}
use Rattle.kernel_boxes.proofs.going_back.drop_other.Goals as goal

pub returns-then-not-is_first-clause-seats : goal.returns-then-not-is_first-clause-seats
returns-then-not-is_first-clause-seats g c =
    let ss = seats_held (λ b. (g.dyn-1.0.entry b.vtable).1) c.args.boxes.now in
    ap (seats_held (λ b. (g.dyn-1.0.entry b.vtable).1)) c.take.ensures.rest
    ∙ out_of (λ v. (g.dyn-1.0.entry v.vtable).1.meaning v.value) c.args.id c.args.boxes.now.seats
    ∙ sym (looked_at c.args.id c.args.saved.now 0 c.args.boxes.now.room ss (seats_rise (λ v. (g.dyn-1.0.entry v.vtable).1.meaning v.value) 0 c.args.boxes.now.room c.args.boxes.now.seats c.room-ids_rise.ensures.rising) ∙ ap (λ t. cond t ss (without c.args.id ss)) (sym c.is_first.ensures ∙ c.if-not-is_first.true))

pub returns-else-not-is_first-clause-seats : goal.returns-else-not-is_first-clause-seats
returns-else-not-is_first-clause-seats g c =
    let ss = seats_held (λ b. (g.dyn-1.0.entry b.vtable).1) c.args.boxes.now in
    sym (looked_at c.args.id c.args.saved.now 0 c.args.boxes.now.room ss (seats_rise (λ v. (g.dyn-1.0.entry v.vtable).1.meaning v.value) 0 c.args.boxes.now.room c.args.boxes.now.seats c.room-ids_rise.ensures.rising) ∙ ap (λ t. cond t ss (without c.args.id ss)) (sym c.is_first.ensures ∙ c.if-not-is_first.false))
