use Rattle.std.proofs.Common.{◌≡◌, ◌+◌, ◌*◌, ◌≤◌, drop}
use Rattle.run_semantics.specs.Run.{one_stage}
use Rattle.kernel_call_views.specs.Tables.{AreShown}
use Rattle.kernel.specs.Kernels.{world_in, HasKinds}
use Rattle.kernel_actions.specs.Positions.{IsGrownFrom}
use Rattle.kernel.proofs.kernel.Kernel.one_stage.Given as goal

abbrev pub invariant-loop-id : goal.invariant-loop-id
invariant-loop-id g l =
    let old = world_in (λ b. (g.dyn-1.0.entry b.vtable).1) l.fn.self in
    let world = world_in (λ b. (g.dyn-1.0.entry b.vtable).1) l.self in
    record {
      flow : one_stage g.C.Catalogue.behaviour g.A.Answers.answers l.stage (drop l.id-index l.ids) world ≡ one_stage g.C.Catalogue.behaviour g.A.Answers.answers l.stage l.ids old;
      next : world.next ≤ old.next + 1000 * l.id-index;
      grown : IsGrownFrom old world;
      kinds : HasKinds g.C.Catalogue.behaviour (λ b. (g.dyn-1.0.entry b.vtable).1) l.self;
      shown : AreShown g.A.Answers.answers world.records l.shown;
    }
