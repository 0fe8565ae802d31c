use Rattle.std.proofs.Common.{option_map, sym, ap, ◌∙◌, subst}
use Rattle.model_answers.specs.Answering.{answers_of}
use Rattle.kernel_call_views.specs.Tables.{AreShown}
use Rattle.run_semantics.specs.Run.{standing}
use Rattle.kernel_boxes.specs.Saved.{seats_held}
use Rattle.checkpoint_runs.specs.Kept.{kept_up_to, standing_in, supplied_in, waiting_in}
use Rattle.checkpoint_runs.specs.Running.{parts_in}
use Rattle.checkpoints.specs.Stored.{counts_in}
use Rattle.kernel.specs.Kernels.{boxes_in, world_in}
use Rattle.edit_session.specs.Sessions.{completed_of, editing_of}
use Rattle.checkpoint_runs.proofs.Counting.{kept_counts}
use Rattle.edit_session.proofs.Valid.{edited_same, kept_edited}
use Rattle.edit_session.proofs.session.Session.accept.Goals as goal

pub returns-clause-sound : goal.returns-clause-sound
returns-clause-sound g c =
    let old = c.args.self.now in
    let new = c.keep_up_to.new.self in
    let kernel = rw c.give_up.ensures at c.keep_up_to.ensures.kernel in
    let positions = rw c.give_up.ensures at c.keep_up_to.ensures.positions in
    let shown = c.keep_shown.ensures old.model c.args.change.model (world_in (λ b. (g.dyn-1.0.entry b.vtable).1) old.runner.kernel).records c.requires.changed.1.same c.requires.sound.shown in
    record {
      kept = rw c.give_up.ensures (kept_edited g.C.Catalogue.behaviour (boxes_in (λ b. (g.dyn-1.0.entry b.vtable).1) old.runner.kernel) (boxes_in (λ b. (g.dyn-1.0.entry b.vtable).1) new.kernel) (waiting_in (λ b. (g.dyn-1.0.entry b.vtable).1) old.runner) (waiting_in (λ b. (g.dyn-1.0.entry b.vtable).1) new) (world_in (λ b. (g.dyn-1.0.entry b.vtable).1) old.runner.kernel)
          (world_in (λ b. (g.dyn-1.0.entry b.vtable).1) new.kernel) old.model c.args.change.model old.phase (option_map completed_of old.done) old.known c.args.change.edited.valid_to old.runner.positions new.positions c.requires.sound.kept
          (ap (λ K. boxes_in (λ b. (g.dyn-1.0.entry b.vtable).1) K) kernel) (ap (λ K. world_in (λ b. (g.dyn-1.0.entry b.vtable).1) K) kernel) positions
          c.requires.changed.1.known c.requires.changed.1.good);
      shown = rw c.give_up.ensures (subst (λ K. AreShown (answers_of c.args.change.model) (world_in (λ b. (g.dyn-1.0.entry b.vtable).1) K).records c.keep_shown.new.shown) (sym kernel) shown);
    }

pub returns-clause-left : goal.returns-clause-left
returns-clause-left g c =
    let old = c.args.self.now in
    let new = c.keep_up_to.new.self in
    let kernel = rw c.give_up.ensures at c.keep_up_to.ensures.kernel in
    let positions = rw c.give_up.ensures at c.keep_up_to.ensures.positions in
    let waiting = rw c.give_up.ensures at c.keep_up_to.ensures.waiting in
    rw c.give_up.ensures (edited_same (editing_of (λ b. (g.dyn-1.0.entry b.vtable).1) old) c.args.change (standing_in (λ b. (g.dyn-1.0.entry b.vtable).1) new) (supplied_in (λ b. (g.dyn-1.0.entry b.vtable).1) new) (counts_in new.positions)
    (ap (λ K. standing (world_in (λ b. (g.dyn-1.0.entry b.vtable).1) K).modules) kernel)
    (ap parts_in (ap (seats_held (λ b. (g.dyn-1.0.entry b.vtable).1)) waiting))
    (ap counts_in positions ∙ kept_counts c.args.change.edited.valid_to old.runner.positions))
