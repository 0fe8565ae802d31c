use Rattle.std.proofs.Common.{◌≡◌, ◌≤◌, ◌-◌, ◌==◌, [], if◌then◌else◌}
use Rattle.run_semantics.specs.World.{HasRoom}
use Rattle.run_semantics.specs.Run.{Running, after, wanted}
use Rattle.kernel_call_views.specs.Tables.{AreShown}
use Rattle.kernel.specs.Kernels.{world_in, HasKinds}
use Rattle.kernel.specs.Starts.{AreFirstOf}
use Rattle.checkpoint_runs.specs.Kept.{supplied_in, waiting_in, HasGood}
use Rattle.checkpoint_runs.specs.Running.{first_wait}
use Rattle.checkpoint_runs.specs.Observing.{executed_after}
use Rattle.checkpoint_runs.specs.Telling.{AreTold}
use Rattle.checkpoint_runs.specs.declared.phases.Stood.TheVariants as stood
use Rattle.checkpoint_runs.proofs.Going.{StoredAt}
use Rattle.checkpoint_runs.proofs.running.Runner.run_events.Given as goal

-- so many events are executed and told, and after the positions that there were stand those of the multiples;
-- where a box is wanted first is not behind it, and the boxes that were supplied stay where it went on
abbrev pub invariant-loop-k : goal.invariant-loop-k
invariant-loop-k g l =
    let b = g.C.Catalogue.behaviour in
    let m = g.A.Answers.answers in
    let begun = world_in (λ b. (g.dyn-1.0.entry b.vtable).1) l.fn.self.kernel in
    let world = world_in (λ b. (g.dyn-1.0.entry b.vtable).1) l.self.kernel in
    record {
      going : Running world ≡ after b m l._k;
      from : begun.count ≤ l._k;
      room : HasRoom world;
      kinds : HasKinds b (λ b. (g.dyn-1.0.entry b.vtable).1) l.self.kernel;
      good : HasGood b m (λ b. (g.dyn-1.0.entry b.vtable).1) l.self;
      shown : AreShown m world.records l.shown;
      first : AreFirstOf b (wanted m world) (waiting_in (λ b. (g.dyn-1.0.entry b.vtable).1) l.self);
      left : supplied_in (λ b. (g.dyn-1.0.entry b.vtable).1) l.self ≡ (if begun.count == l._k then supplied_in (λ b. (g.dyn-1.0.entry b.vtable).1) l.fn.self else []);
      wait : first_wait b m begun.count (l.limit - begun.count) (supplied_in (λ b. (g.dyn-1.0.entry b.vtable).1) l.fn.self) ≡ first_wait b m l._k (l.limit - l._k) (supplied_in (λ b. (g.dyn-1.0.entry b.vtable).1) l.self);
      stood : l.self.stood ≡ stood.After l._k;
      stored : StoredAt begun.count l.fn.self.positions l.self.positions l._k;
      told : AreTold g.W.Observer.told l.fn.observer (executed_after b m begun.count l._k) l.observer;
    }
