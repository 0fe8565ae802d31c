use Rattle.std.proofs.Common.{ap, sym, ◌∙◌, arith}
use Rattle.run_semantics.specs.World.{World}
use Rattle.run_semantics.specs.Perform.{Flow, On, ◌>>=◌, flow_of}
use Rattle.run_semantics.specs.Ending.{marked}
use Rattle.kernel.specs.Seats.{world_of}
use Rattle.kernel.specs.Kernels.{boxes_in, world_in}
use Rattle.kernel.proofs.Calling.{last_leaves}
use Rattle.kernel.proofs.Starting.{stops}
use Rattle.kernel.proofs.kernel.Kernel.finish_one.Goals as goal

pub returns-in_ok-mark_finished-in-GoOn-clause-next : goal.returns-in_ok-mark_finished-in-GoOn-clause-next
returns-in_ok-mark_finished-in-GoOn-clause-next g c =
    let kept = last_leaves g.C.Catalogue.behaviour g.A.Answers.answers c.args.occasion c.args.id c.in_ok-turn.turn (world_in (λ b. (g.dyn-1.0.entry b.vtable).1) c.args.self.now) (world_in (λ b. (g.dyn-1.0.entry b.vtable).1) c.call_last.new.self) c.in_ok-turn.ensures.step in
    omega (arith, kept.next, ap (λ (w : World). w.next) c.in_ok-mark_finished-in-GoOn.ensures.marked)

pub returns-in_ok-mark_finished-in-GoOn-clause-step : goal.returns-in_ok-mark_finished-in-GoOn-clause-step
returns-in_ok-mark_finished-in-GoOn-clause-step g c =
    ap (λ (core : World). On (world_of core (boxes_in (λ b. (g.dyn-1.0.entry b.vtable).1) c.call_last.new.self))) c.in_ok-mark_finished-in-GoOn.ensures.marked
    ∙ ap (λ (fl : Flow). fl >>= marked c.args.id) (rw c.in-GoOn.is at c.in_ok-turn.ensures.step)

pub returns-in_default-clause-next : goal.returns-in_default-clause-next
returns-in_default-clause-next g c =
    let kept = last_leaves g.C.Catalogue.behaviour g.A.Answers.answers c.args.occasion c.args.id c.in_ok-turn.turn (world_in (λ b. (g.dyn-1.0.entry b.vtable).1) c.args.self.now) (world_in (λ b. (g.dyn-1.0.entry b.vtable).1) c.call_last.new.self) c.in_ok-turn.ensures.step in
    omega (arith, kept.next)

pub returns-in_default-clause-step : goal.returns-in_default-clause-step
returns-in_default-clause-step g c =
    sym (stops c.in_ok-turn.turn (world_in (λ b. (g.dyn-1.0.entry b.vtable).1) c.call_last.new.self) (marked c.args.id) c.in_default.not-GoOn)
    ∙ ap (λ (fl : Flow). fl >>= marked c.args.id) c.in_ok-turn.ensures.step
