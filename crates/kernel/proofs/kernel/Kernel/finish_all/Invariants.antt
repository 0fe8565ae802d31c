use Rattle.std.proofs.Common.{◌≡◌, ◌+◌, ◌*◌, ◌≤◌, drop}
use Rattle.run_semantics.specs.Ending.{finish_all}
use Rattle.kernel_call_views.specs.Tables.{AreShown}
use Rattle.kernel.specs.Kernels.{world_in, KeepsBoxes}
use Rattle.kernel_actions.specs.Positions.{IsGrownFrom}
use Rattle.kernel.proofs.kernel.Kernel.finish_all.Given as goal

abbrev pub invariant-loop-id : goal.invariant-loop-id
invariant-loop-id g l =
    let old = world_in (λ b. (g.dyn-1.0.entry b.vtable).1) l.fn.self in
    let world = world_in (λ b. (g.dyn-1.0.entry b.vtable).1) l.self in
    record {
      flow : finish_all g.C.Catalogue.behaviour g.A.Answers.answers l.occasion (drop l.id-index l.ids) world ≡ finish_all g.C.Catalogue.behaviour g.A.Answers.answers l.occasion l.ids old;
      next : world.next ≤ old.next + 1000 * l.id-index;
      grown : IsGrownFrom old world;
      kept : KeepsBoxes g.C.Catalogue.behaviour (λ b. (g.dyn-1.0.entry b.vtable).1) l.fn.self l.self;
      shown : AreShown g.A.Answers.answers world.records l.shown;
    }
