use Rattle.std.proofs.Common.{◌≡◌, ◌+◌, ◌≤◌, drop}
use Rattle.run_semantics.specs.Perform.{act_all, perform}
use Rattle.run_semantics.specs.declared.occasions.Occasion.TheVariants.{Event}
use Rattle.kernel.specs.Kernels.{world_in, HasKinds}
use Rattle.kernel_actions.specs.Positions.{IsGrownFrom}
use Rattle.kernel.proofs.kernel.Kernel.act_all.Given as goal

abbrev pub invariant-loop-action : goal.invariant-loop-action
invariant-loop-action g l =
    let old = world_in (λ b. (g.dyn-1.0.entry b.vtable).1) l.fn.self in
    let world = world_in (λ b. (g.dyn-1.0.entry b.vtable).1) l.self in
    record {
      step : act_all (perform g.C.Catalogue.behaviour g.A.Answers.answers l.id) Event l.id (drop l.action-index l.actions) world ≡ act_all (perform g.C.Catalogue.behaviour g.A.Answers.answers l.id) Event l.id l.actions old;
      next : world.next ≤ old.next + l.action-index;
      kinds : HasKinds g.C.Catalogue.behaviour (λ b. (g.dyn-1.0.entry b.vtable).1) l.self;
      grown : IsGrownFrom l.fn.self.core l.self.core;
    }
