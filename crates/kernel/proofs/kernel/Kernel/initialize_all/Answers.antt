use Rattle.std.proofs.Common.{ap, ◌∙◌}
use Rattle.run_semantics.specs.Run.{settled}
use Rattle.kernel.specs.Kernels.{world_in}
use Rattle.kernel.proofs.Starting.{all_begun, started_as}
use Rattle.kernel.proofs.kernel.Kernel.initialize_all.Goals as goal

pub returns-clause-step : goal.returns-clause-step
returns-clause-step g c =
    let b = g.C.Catalogue.behaviour in
    let m = g.A.Answers.answers in
    let before = world_in (λ b. (g.dyn-1.0.entry b.vtable).1) c.args.self.now in
    c.settle.ensures ∙ ap settled (all_begun b m before c.in_ok-ids.ids c.as_slice.result.now _ c.in_ok-turn.ensures.step c.as_slice.ensures c.in_ok-ids.ensures) ∙ started_as b m before c.requires.ready
