use Rattle.module_api.specs.declared.call.CallReason.TheVariants.{Initialize}
use Rattle.run_semantics.proofs.Sound.{call_leaves}
use Rattle.kernel.specs.Kernels.{world_in}
use Rattle.kernel.proofs.Starting.{initialize-past, initialize-called}
use Rattle.kernel.proofs.kernel.Kernel.initialize.Goals as goal

pub returns-then-stage-stages_in-clause-step : goal.returns-then-stage-stages_in-clause-step
returns-then-stage-stages_in-clause-step g c =
    initialize-past g.C.Catalogue.behaviour g.A.Answers.answers c.args.stage c.args.id c.stages_in.result (world_in (λ b. (g.dyn-1.0.entry b.vtable).1) c.args.self.now) c.stages_in.ensures c.if-stage-stages_in.true

pub returns-clause-next : goal.returns-clause-next
returns-clause-next g c =
    (call_leaves g.C.Catalogue.behaviour g.A.Answers.answers c.args.id (Initialize c.args.stage) c.in_ok-turn.turn (world_in (λ b. (g.dyn-1.0.entry b.vtable).1) c.args.self.now) (world_in (λ b. (g.dyn-1.0.entry b.vtable).1) c.call_module.new.self) c.in_ok-turn.ensures.step).next

pub returns-clause-step : goal.returns-clause-step
returns-clause-step g c =
    initialize-called g.C.Catalogue.behaviour g.A.Answers.answers c.args.stage c.args.id c.stages_in.result (world_in (λ b. (g.dyn-1.0.entry b.vtable).1) c.args.self.now) _ c.stages_in.ensures c.if-stage-stages_in.false c.in_ok-turn.ensures.step
