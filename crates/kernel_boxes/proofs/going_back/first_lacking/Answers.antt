use Rattle.std.proofs.Common.{sym, ◌∙◌}
use Rattle.run_semantics.specs.Run.{standing}
use Rattle.kernel_boxes.specs.Saved.{instances_held}
use Rattle.kernel_boxes.proofs.Going.{lacks_first, lacks_next}
use Rattle.kernel_boxes.proofs.going_back.first_lacking.Goals as goal

pub returns-then-not-holds : goal.returns-then-not-holds
returns-then-not-holds g c =
    let boxes = standing (instances_held (λ b. (g.dyn-1.0.entry b.vtable).1) c.args.boxes.now) in
    sym (lacks_first c.loop-instance.instance-index c.args.saved.now c.instance-item.result boxes c.loop-instance-test.true c.instance-item.is (sym c.holds.ensures ∙ c.if-not-holds.true))
    ∙ c.loop-instance.invariant

pub loop-instance-preserved : goal.loop-instance-preserved
loop-instance-preserved g c =
    let boxes = standing (instances_held (λ b. (g.dyn-1.0.entry b.vtable).1) c.args.boxes.now) in
    lacks_next c.loop-instance.instance-index c.args.saved.now c.instance-item.result boxes c.loop-instance-test.true c.instance-item.is (sym c.holds.ensures ∙ c.if-not-holds.false)
    ∙ c.loop-instance.invariant
