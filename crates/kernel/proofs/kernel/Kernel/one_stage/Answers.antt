use Rattle.std.proofs.Common.{◌+◌, refl, sym, ◌∙◌, arith, drop}
use Rattle.run_semantics.specs.Perform.{On, flow_of}
use Rattle.run_semantics.specs.Run.{initialize, one_stage}
use Rattle.kernel.specs.Kernels.{world_in}
use Rattle.kernel_actions.proofs.Growing.{growth_on}
use Rattle.kernel_actions.proofs.Lasting.{growth_same}
use Rattle.kernel.proofs.Starting.{stops, each_step, each_ends}
use Rattle.kernel.proofs.kernel.Kernel.one_stage.Goals as goal

pub returns-in_default-clause-step : goal.returns-in_default-clause-step
returns-in_default-clause-step g c =
    sym (stops c.in_ok-turn.turn (world_in (λ b. (g.dyn-1.0.entry b.vtable).1) c.initialize.new.self) (one_stage g.C.Catalogue.behaviour g.A.Answers.answers c.args.stage (drop (c.loop-id.id-index + 1) c.args.ids.now)) c.in_default.not-GoOn)
    ∙ each_step (initialize g.C.Catalogue.behaviour g.A.Answers.answers c.args.stage) c.args.ids.now c.loop-id.id-index 0 (world_in (λ b. (g.dyn-1.0.entry b.vtable).1) c.loop-id.self) (flow_of c.in_ok-turn.turn (world_in (λ b. (g.dyn-1.0.entry b.vtable).1) c.initialize.new.self)) _ (omega arith) c.in_ok-turn.ensures.step c.loop-id.invariant.flow

pub loop-id-preserved : goal.loop-id-preserved
loop-id-preserved g c = record {
  flow = each_step (initialize g.C.Catalogue.behaviour g.A.Answers.answers c.args.stage) c.args.ids.now c.loop-id.id-index 0 (world_in (λ b. (g.dyn-1.0.entry b.vtable).1) c.loop-id.self) (On (world_in (λ b. (g.dyn-1.0.entry b.vtable).1) c.initialize.new.self)) _ (omega arith) (rw c.in-GoOn.is at c.in_ok-turn.ensures.step) c.loop-id.invariant.flow;
  next = omega (arith, c.in_ok-turn.ensures.next, c.loop-id.invariant.next);
  grown = growth_on (world_in (λ b. (g.dyn-1.0.entry b.vtable).1) c.args.self.now) (world_in (λ b. (g.dyn-1.0.entry b.vtable).1) c.loop-id.self) (world_in (λ b. (g.dyn-1.0.entry b.vtable).1) c.initialize.new.self) c.loop-id.invariant.grown c.initialize.ensures.grown;
  kinds = c.initialize.ensures.kinds;
  shown = c.initialize.ensures.shown;
}

pub loop-id-init : goal.loop-id-init
loop-id-init g c = record {
  flow = refl;
  next = omega arith;
  grown = growth_same (world_in (λ b. (g.dyn-1.0.entry b.vtable).1) c.args.self.now);
  kinds = c.requires.callable.kinds;
  shown = c.requires.shown;
}

pub returns-clause-step : goal.returns-clause-step
returns-clause-step g c =
    sym (each_ends (initialize g.C.Catalogue.behaviour g.A.Answers.answers c.args.stage) c.args.ids.now c.loop-id.id-index (world_in (λ b. (g.dyn-1.0.entry b.vtable).1) c.loop-id.self) (omega arith)) ∙ c.loop-id.invariant.flow
