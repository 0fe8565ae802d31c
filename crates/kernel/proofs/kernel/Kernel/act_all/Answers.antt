use Rattle.std.proofs.Common.{◌+◌, refl, sym, ◌∙◌, arith, drop}
use Rattle.run_semantics.specs.Perform.{On, flow_of, act, act_all, perform}
use Rattle.run_semantics.specs.declared.occasions.Occasion.TheVariants.{Event}
use Rattle.kernel.specs.Kernels.{world_in}
use Rattle.kernel_actions.proofs.Growing.{growth_on}
use Rattle.kernel_actions.proofs.Lasting.{growth_same}
use Rattle.kernel.proofs.Calling.{act_next}
use Rattle.kernel.proofs.Starting.{stops, each_on, each_ends}
use Rattle.kernel.proofs.kernel.Kernel.act_all.Goals as goal

pub loop-action-init : goal.loop-action-init
loop-action-init g c = record { step = refl; next = omega arith; kinds = c.requires.callable.kinds; grown = growth_same c.args.self.now.core }

pub loop-action-preserved : goal.loop-action-preserved
loop-action-preserved g c = record {
  step = each_on (act (perform g.C.Catalogue.behaviour g.A.Answers.answers c.args.id) Event c.args.id) c.args.actions.now c.loop-action.action-index c.action-item.result (world_in (λ b. (g.dyn-1.0.entry b.vtable).1) c.loop-action.self) (On (world_in (λ b. (g.dyn-1.0.entry b.vtable).1) c.act.new.self)) _ (omega arith) c.action-item.is (rw c.in-GoOn.is at c.in_ok-turn.ensures.step) c.loop-action.invariant.step;
  next = omega (arith, c.loop-action.invariant.next, act_next g.C.Catalogue.behaviour g.A.Answers.answers c.args.id c.action-item.result c.in_ok-turn.turn (world_in (λ b. (g.dyn-1.0.entry b.vtable).1) c.loop-action.self) (world_in (λ b. (g.dyn-1.0.entry b.vtable).1) c.act.new.self) c.in_ok-turn.ensures.step);
  kinds = c.act.ensures.kinds;
  grown = growth_on c.args.self.now.core c.loop-action.self.core c.act.new.self.core c.loop-action.invariant.grown c.act.ensures.grown;
}

pub returns-in_default-clause-step : goal.returns-in_default-clause-step
returns-in_default-clause-step g c =
    sym (stops c.in_ok-turn.turn (world_in (λ b. (g.dyn-1.0.entry b.vtable).1) c.act.new.self) (act_all (perform g.C.Catalogue.behaviour g.A.Answers.answers c.args.id) Event c.args.id (drop (c.loop-action.action-index + 1) c.args.actions.now)) c.in_default.not-GoOn)
    ∙ each_on (act (perform g.C.Catalogue.behaviour g.A.Answers.answers c.args.id) Event c.args.id) c.args.actions.now c.loop-action.action-index c.action-item.result (world_in (λ b. (g.dyn-1.0.entry b.vtable).1) c.loop-action.self) (flow_of c.in_ok-turn.turn (world_in (λ b. (g.dyn-1.0.entry b.vtable).1) c.act.new.self)) _ (omega arith) c.action-item.is c.in_ok-turn.ensures.step c.loop-action.invariant.step

pub returns-clause-step : goal.returns-clause-step
returns-clause-step g c =
    sym (each_ends (act (perform g.C.Catalogue.behaviour g.A.Answers.answers c.args.id) Event c.args.id) c.args.actions.now c.loop-action.action-index (world_in (λ b. (g.dyn-1.0.entry b.vtable).1) c.loop-action.self) (omega arith)) ∙ c.loop-action.invariant.step
