use Rattle.std.proofs.Common.{List, ◌++◌, ap, ◌∙◌, arith}
use Rattle.run_semantics.specs.declared.traces.Instance.{Instance}
use Rattle.kernel_boxes.specs.Saved.{seats_held}
use Rattle.kernel_boxes.proofs.Saving.{instances_left, all_left, seats_rise, saved_more, saved_last}
use Rattle.kernel_boxes.proofs.boxes_saved.save_all.Goals as goal

pub loop-index-init : goal.loop-index-init
loop-index-init g c =
    ap (λ (xs : List Instance). xs ++ instances_left 0 (seats_held (λ b. (g.dyn-1.0.entry b.vtable).1) c.args.boxes.now)) c.new-saved.ensures
    ∙ all_left (seats_held (λ b. (g.dyn-1.0.entry b.vtable).1) c.args.boxes.now)

pub loop-index-preserved : goal.loop-index-preserved
loop-index-preserved g c =
    saved_more c.loop-index.index c.args.boxes.now.room (seats_held (λ b. (g.dyn-1.0.entry b.vtable).1) c.args.boxes.now) c.loop-index.saved c.add_one.new.saved _
    (seats_rise (λ v. (g.dyn-1.0.entry v.vtable).1.meaning v.value) 0 c.args.boxes.now.room c.args.boxes.now.seats c.room-index-end.ensures.rising) c.in_ok-add_one.ensures c.loop-index.invariant

pub returns : goal.returns
returns g c =
    saved_last c.loop-index.index c.args.boxes.now.room (seats_held (λ b. (g.dyn-1.0.entry b.vtable).1) c.args.boxes.now) c.loop-index.saved _
    (omega (arith, c.loop-index-test.false, c.loop-index.auto.index-end, c.room-index-end.ensures.room))
    (seats_rise (λ v. (g.dyn-1.0.entry v.vtable).1.meaning v.value) 0 c.args.boxes.now.room c.args.boxes.now.seats c.room-index-end.ensures.rising) c.loop-index.invariant
