use Rattle.std.proofs.Common.{option_map, refl, sym, ap, ◌∙◌, subst}
use Rattle.checkpoints.specs.Stored.{counts_in}
use Rattle.model_answers.specs.Answering.{answers_of}
use Rattle.kernel_call_views.specs.Tables.{AreShown}
use Rattle.kernel.specs.Kernels.{boxes_in, world_in}
use Rattle.run_semantics.specs.Run.{standing}
use Rattle.run_semantics.specs.World.{World}
use Rattle.checkpoint_runs.specs.Kept.{waiting_in}
use Rattle.checkpoint_runs.specs.Running.{parts_in}
use Rattle.kernel_boxes.proofs.Seating.{on_ok}
use Rattle.edit_session.specs.Editing.{IsKept}
use Rattle.edit_session.specs.Sessions.{completed_of}
use Rattle.edit_session.proofs.Boxes.{kept_supplied, seen, seen_placed, seen_supplied, stays_placed, supply_above, supply_free}
use Rattle.edit_session.proofs.session.Session.place.Goals as goal

-- where a run goes back to a position
pub supply-requires : goal.supply-requires
supply-requires g c =
    let b = g.C.Catalogue.behaviour in
    let old = c.args.self.now in
    let ss = boxes_in (λ b. (g.dyn-1.0.entry b.vtable).1) old.runner.kernel in
    let xs = waiting_in (λ b. (g.dyn-1.0.entry b.vtable).1) old.runner in
    let w = world_in (λ b. (g.dyn-1.0.entry b.vtable).1) old.runner.kernel in
    let done = option_map completed_of old.done in
    record { free = supply_free b g.C.Catalogue.lawful ss xs w old.model old.phase done old.known old.runner.positions c.args.id c.requires.sound.kept refl (sym c.is_back.ensures ∙ c.if-is_back.true) c.requires.id }

pub returns-then-is_back-clause-sound : goal.returns-then-is_back-clause-sound
returns-then-is_back-clause-sound g c =
    let b = g.C.Catalogue.behaviour in
    let old = c.args.self.now in
    let ss = boxes_in (λ b. (g.dyn-1.0.entry b.vtable).1) old.runner.kernel in
    let xs = waiting_in (λ b. (g.dyn-1.0.entry b.vtable).1) old.runner in
    let w = world_in (λ b. (g.dyn-1.0.entry b.vtable).1) old.runner.kernel in
    let done = option_map completed_of old.done in
    let box = (g.dyn-1.0.entry c.args.held.vtable).1.meaning c.args.held.value in
    record {
      kept = stays_placed c.supply.result b ss (boxes_in (λ b. (g.dyn-1.0.entry b.vtable).1) c.supply.new.self) xs w (world_in (λ b. (g.dyn-1.0.entry b.vtable).1) c.supply.new.self) old.model old.phase done old.known old.runner.positions c.args.id box c.requires.sound.kept (sym c.is_back.ensures ∙ c.if-is_back.true) refl refl
          c.requires.id c.requires.wanted c.supply.ensures.rest c.supply.ensures.ok c.supply.ensures.err;
      shown = subst (λ rs. AreShown (answers_of old.model) rs old.shown) (sym (ap (λ (v : World). v.records) c.supply.ensures.rest)) c.requires.sound.shown;
    }

pub returns-then-is_back-clause-ok : goal.returns-then-is_back-clause-ok
returns-then-is_back-clause-ok g c =
    let b = g.C.Catalogue.behaviour in
    let old = c.args.self.now in
    let ss = boxes_in (λ b. (g.dyn-1.0.entry b.vtable).1) old.runner.kernel in
    let xs = waiting_in (λ b. (g.dyn-1.0.entry b.vtable).1) old.runner in
    let w = world_in (λ b. (g.dyn-1.0.entry b.vtable).1) old.runner.kernel in
    let done = option_map completed_of old.done in
    let box = (g.dyn-1.0.entry c.args.held.vtable).1.meaning c.args.held.value in
    on_ok c.supply.result c.supply.ensures.ok
    (λ more. seen_placed b ss (boxes_in (λ b. (g.dyn-1.0.entry b.vtable).1) c.supply.new.self) xs w (world_in (λ b. (g.dyn-1.0.entry b.vtable).1) c.supply.new.self) old.model old.phase done old.known old.runner.positions (counts_in old.runner.positions) c.args.id box c.requires.sound.kept (sym c.is_back.ensures ∙ c.if-is_back.true) refl refl c.requires.id c.requires.wanted more)

-- where it waits for a start
pub supply-requires-else-is_back : goal.supply-requires-else-is_back
supply-requires-else-is_back g c =
    let b = g.C.Catalogue.behaviour in
    let old = c.args.self.now in
    let ss = boxes_in (λ b. (g.dyn-1.0.entry b.vtable).1) old.runner.kernel in
    let xs = waiting_in (λ b. (g.dyn-1.0.entry b.vtable).1) old.runner in
    let w = world_in (λ b. (g.dyn-1.0.entry b.vtable).1) old.runner.kernel in
    let done = option_map completed_of old.done in
    record { above = supply_above b ss xs w old.model old.phase done old.known old.runner.positions c.args.id c.requires.sound.kept (sym c.is_back.ensures ∙ c.if-is_back.false) c.requires.id }

pub returns-in_ok-supply-clause-sound : goal.returns-in_ok-supply-clause-sound
returns-in_ok-supply-clause-sound g c =
    let b = g.C.Catalogue.behaviour in
    let old = c.args.self.now in
    let ss = boxes_in (λ b. (g.dyn-1.0.entry b.vtable).1) old.runner.kernel in
    let xs = waiting_in (λ b. (g.dyn-1.0.entry b.vtable).1) old.runner in
    let w = world_in (λ b. (g.dyn-1.0.entry b.vtable).1) old.runner.kernel in
    let done = option_map completed_of old.done in
    let box = (g.dyn-1.0.entry c.args.held.vtable).1.meaning c.args.held.value in
    let new = c.supply-else-is_back.new.self in
    let kernel = c.in_ok-supply.ensures.kernel in
    record {
      kept = subst (λ K. IsKept b (boxes_in (λ b. (g.dyn-1.0.entry b.vtable).1) K) (waiting_in (λ b. (g.dyn-1.0.entry b.vtable).1) new) (world_in (λ b. (g.dyn-1.0.entry b.vtable).1) K) old.model c.supplied_phase-self.result done old.known new.positions) (sym kernel)
          (kept_supplied b ss xs (waiting_in (λ b. (g.dyn-1.0.entry b.vtable).1) new) w old.model old.phase c.supplied_phase-self.result done old.known old.runner.positions new.positions c.args.id box c.requires.sound.kept (sym c.is_back.ensures ∙ c.if-is_back.false) c.requires.id c.requires.wanted c.in_ok-supply.ensures.ok c.supplied_phase-self.ensures c.in_ok-supply.ensures.kept.0);
      shown = subst (λ K. AreShown (answers_of old.model) (world_in (λ b. (g.dyn-1.0.entry b.vtable).1) K).records old.shown) (sym kernel) c.requires.sound.shown;
    }

pub returns-in_ok-supply-clause-ok : goal.returns-in_ok-supply-clause-ok
returns-in_ok-supply-clause-ok g c =
    let b = g.C.Catalogue.behaviour in
    let old = c.args.self.now in
    let ss = boxes_in (λ b. (g.dyn-1.0.entry b.vtable).1) old.runner.kernel in
    let xs = waiting_in (λ b. (g.dyn-1.0.entry b.vtable).1) old.runner in
    let w = world_in (λ b. (g.dyn-1.0.entry b.vtable).1) old.runner.kernel in
    let done = option_map completed_of old.done in
    let box = (g.dyn-1.0.entry c.args.held.vtable).1.meaning c.args.held.value in
    let new = c.supply-else-is_back.new.self in
    ap (λ K. seen old.model done c.supplied_phase-self.result (standing (world_in (λ b. (g.dyn-1.0.entry b.vtable).1) K).modules) (parts_in (waiting_in (λ b. (g.dyn-1.0.entry b.vtable).1) new)) old.known (counts_in new.positions)) c.in_ok-supply.ensures.kernel
    ∙ ap (λ ps. seen old.model done c.supplied_phase-self.result (standing w.modules) (parts_in (waiting_in (λ b. (g.dyn-1.0.entry b.vtable).1) new)) old.known (counts_in ps)) c.in_ok-supply.ensures.kept.0
    ∙ seen_supplied b ss xs (waiting_in (λ b. (g.dyn-1.0.entry b.vtable).1) new) w old.model old.phase c.supplied_phase-self.result done old.known old.runner.positions (counts_in old.runner.positions) c.args.id box c.requires.sound.kept (sym c.is_back.ensures ∙ c.if-is_back.false) c.requires.id c.requires.wanted c.in_ok-supply.ensures.ok c.supplied_phase-self.ensures
