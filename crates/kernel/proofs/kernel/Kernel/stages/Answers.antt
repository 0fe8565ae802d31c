use Rattle.std.proofs.Common.{◌+◌, ◌-◌, ap, sym, ◌∙◌, arith}
use Rattle.run_semantics.specs.Perform.{On, flow_of}
use Rattle.run_semantics.specs.Run.{stages_from}
use Rattle.kernel.specs.Kernels.{world_in}
use Rattle.kernel_actions.proofs.Growing.{growth_on}
use Rattle.kernel_actions.proofs.Lasting.{growth_same}
use Rattle.kernel.proofs.Starting.{stops, stages_on}
use Rattle.kernel.proofs.kernel.Kernel.stages.Goals as goal

pub returns-in_default-clause-next : goal.returns-in_default-clause-next
returns-in_default-clause-next g c = omega (arith, c.in_ok-turn.ensures.next, c.loop-stage.invariant.next)

pub returns-in_default-clause-step : goal.returns-in_default-clause-step
returns-in_default-clause-step g c =
    sym (stops c.in_ok-turn.turn (world_in (λ b. (g.dyn-1.0.entry b.vtable).1) c.one_stage.new.self) (stages_from g.C.Catalogue.behaviour g.A.Answers.answers c.args.ids.now (c.loop-stage.stage + 1) (c.args.most - (c.loop-stage.stage + 1))) c.in_default.not-GoOn)
    ∙ stages_on g.C.Catalogue.behaviour g.A.Answers.answers c.args.ids.now c.loop-stage.stage c.args.most (world_in (λ b. (g.dyn-1.0.entry b.vtable).1) c.loop-stage.self) (flow_of c.in_ok-turn.turn (world_in (λ b. (g.dyn-1.0.entry b.vtable).1) c.one_stage.new.self)) _ (omega arith) c.in_ok-turn.ensures.step c.loop-stage.invariant.flow

pub loop-stage-preserved : goal.loop-stage-preserved
loop-stage-preserved g c = record {
  flow = stages_on g.C.Catalogue.behaviour g.A.Answers.answers c.args.ids.now c.loop-stage.stage c.args.most (world_in (λ b. (g.dyn-1.0.entry b.vtable).1) c.loop-stage.self) (On (world_in (λ b. (g.dyn-1.0.entry b.vtable).1) c.one_stage.new.self)) _ (omega arith) (rw c.in-GoOn.is at c.in_ok-turn.ensures.step) c.loop-stage.invariant.flow;
  next = omega (arith, c.in_ok-turn.ensures.next, c.loop-stage.invariant.next);
  grown = growth_on (world_in (λ b. (g.dyn-1.0.entry b.vtable).1) c.args.self.now) (world_in (λ b. (g.dyn-1.0.entry b.vtable).1) c.loop-stage.self) (world_in (λ b. (g.dyn-1.0.entry b.vtable).1) c.one_stage.new.self) c.loop-stage.invariant.grown c.one_stage.ensures.grown;
  kinds = c.one_stage.ensures.kinds;
  shown = c.one_stage.ensures.shown;
}

pub loop-stage-init : goal.loop-stage-init
loop-stage-init g c = record {
  flow = ap (λ n. stages_from g.C.Catalogue.behaviour g.A.Answers.answers c.args.ids.now 0 n (world_in (λ b. (g.dyn-1.0.entry b.vtable).1) c.args.self.now)) (omega arith);
  next = omega arith;
  grown = growth_same (world_in (λ b. (g.dyn-1.0.entry b.vtable).1) c.args.self.now);
  kinds = c.requires.callable.kinds;
  shown = c.requires.shown;
}
