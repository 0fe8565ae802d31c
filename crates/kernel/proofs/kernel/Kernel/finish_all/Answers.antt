use Rattle.std.proofs.Common.{◌+◌, refl, sym, ◌∙◌, arith, drop}
use Rattle.run_semantics.specs.Perform.{On, flow_of}
use Rattle.run_semantics.specs.Ending.{finish, finish_all}
use Rattle.kernel.specs.Kernels.{world_in}
use Rattle.kernel_boxes.proofs.Keeping.{still_kept}
use Rattle.kernel_actions.proofs.Growing.{growth_on}
use Rattle.kernel_actions.proofs.Lasting.{growth_same}
use Rattle.kernel.proofs.Starting.{stops, each_step, each_ends}
use Rattle.kernel.proofs.kernel.Kernel.finish_all.Goals as goal

pub returns-in_default-clause-step : goal.returns-in_default-clause-step
returns-in_default-clause-step g c =
    sym (stops c.in_ok-turn.turn (world_in (λ b. (g.dyn-1.0.entry b.vtable).1) c.finish_one.new.self) (finish_all g.C.Catalogue.behaviour g.A.Answers.answers c.args.occasion (drop (c.loop-id.id-index + 1) c.args.ids.now)) c.in_default.not-GoOn)
    ∙ each_step (finish g.C.Catalogue.behaviour g.A.Answers.answers c.args.occasion) c.args.ids.now c.loop-id.id-index 0 (world_in (λ b. (g.dyn-1.0.entry b.vtable).1) c.loop-id.self) (flow_of c.in_ok-turn.turn (world_in (λ b. (g.dyn-1.0.entry b.vtable).1) c.finish_one.new.self)) _ (omega arith) c.in_ok-turn.ensures.step c.loop-id.invariant.flow

pub loop-id-init : goal.loop-id-init
loop-id-init g c = record {
  flow = refl;
  next = omega arith;
  grown = growth_same (world_in (λ b. (g.dyn-1.0.entry b.vtable).1) c.args.self.now);
  kept = record { kinds = c.requires.callable.kinds; standing_is = refl };
  shown = c.requires.shown;
}

pub loop-id-preserved : goal.loop-id-preserved
loop-id-preserved g c = record {
  flow = each_step (finish g.C.Catalogue.behaviour g.A.Answers.answers c.args.occasion) c.args.ids.now c.loop-id.id-index 0 (world_in (λ b. (g.dyn-1.0.entry b.vtable).1) c.loop-id.self) (On (world_in (λ b. (g.dyn-1.0.entry b.vtable).1) c.finish_one.new.self)) _ (omega arith) (rw c.in-GoOn.is at c.in_ok-turn.ensures.step) c.loop-id.invariant.flow;
  next = omega (arith, c.in_ok-turn.ensures.next, c.loop-id.invariant.next);
  grown = growth_on (world_in (λ b. (g.dyn-1.0.entry b.vtable).1) c.args.self.now) (world_in (λ b. (g.dyn-1.0.entry b.vtable).1) c.loop-id.self) (world_in (λ b. (g.dyn-1.0.entry b.vtable).1) c.finish_one.new.self) c.loop-id.invariant.grown c.finish_one.ensures.grown;
  kept = still_kept c.loop-id.invariant.kept c.finish_one.ensures.kept;
  shown = c.finish_one.ensures.shown;
}

pub returns-clause-step : goal.returns-clause-step
returns-clause-step g c =
    sym (each_ends (finish g.C.Catalogue.behaviour g.A.Answers.answers c.args.occasion) c.args.ids.now c.loop-id.id-index (world_in (λ b. (g.dyn-1.0.entry b.vtable).1) c.loop-id.self) (omega arith)) ∙ c.loop-id.invariant.flow
