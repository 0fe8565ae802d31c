use Rattle.std.proofs.Common.{◌≡◌, ◌+◌, ◌-◌, ◌*◌, ◌^◌, ◌≤◌}
use Rattle.run_semantics.specs.Run.{stages_from}
use Rattle.kernel_call_views.specs.Tables.{AreShown}
use Rattle.kernel.specs.Kernels.{world_in, HasKinds}
use Rattle.kernel_actions.specs.Positions.{IsGrownFrom}
use Rattle.kernel.proofs.kernel.Kernel.stages.Given as goal

abbrev pub invariant-loop-stage : goal.invariant-loop-stage
invariant-loop-stage g l =
    let old = world_in (λ b. (g.dyn-1.0.entry b.vtable).1) l.fn.self in
    let world = world_in (λ b. (g.dyn-1.0.entry b.vtable).1) l.self in
    record {
      flow : stages_from g.C.Catalogue.behaviour g.A.Answers.answers l.ids l.stage (l.most - l.stage) world ≡ stages_from g.C.Catalogue.behaviour g.A.Answers.answers l.ids 0 l.most old;
      next : world.next ≤ old.next + 2 ^ 74 * l.stage;
      grown : IsGrownFrom old world;
      kinds : HasKinds g.C.Catalogue.behaviour (λ b. (g.dyn-1.0.entry b.vtable).1) l.self;
      shown : AreShown g.A.Answers.answers world.records l.shown;
    }
