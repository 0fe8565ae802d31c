use Rattle.std.proofs.Common.{List, map, ap, ◌∙◌, subst}
use Rattle.checkpoints.specs.Stored.{counts_in, counts_of, last_of, AreRising, Timeline}
use Rattle.kernel_actions.specs.declared.position.Position.{Position}
use Rattle.model_answers.specs.Answering.{answers_of}
use Rattle.kernel.specs.Kernels.{boxes_in, world_in}
use Rattle.kernel_boxes.specs.Saved.{seats_held}
use Rattle.kernel_boxes.specs.Seats.{BoxAt, instance_of}
use Rattle.run_semantics.specs.Run.{standing}
use Rattle.checkpoint_runs.specs.Kept.{cut_to_last, standing_in, supplied_in, waiting_in}
use Rattle.checkpoint_runs.specs.Positions.{last_count}
use Rattle.checkpoint_runs.specs.Running.{parts_in}
use Rattle.edit_session.proofs.GivenUp.{kept_cut, seen_given_up}
use Rattle.edit_session.specs.Sessions.{editing_of}
use Rattle.edit_session.proofs.session.Session.drop_run.Goals as goal

pub returns-clause-sound : goal.returns-clause-sound
returns-clause-sound g c =
    let old = c.args.self.now in
    let mid = c.drop_waiting.new.self in
    let new = c.cut_back-self.new.self in
    let kernel = rw c.give_up.ensures at c.drop_waiting.ensures.kernel in
    let positions = rw c.give_up.ensures at c.drop_waiting.ensures.kept.0 in
    record {
      kept = rw c.give_up.ensures (kept_cut g.C.Catalogue.behaviour old.model (boxes_in (λ b. (g.dyn-1.0.entry b.vtable).1) old.runner.kernel) (boxes_in (λ b. (g.dyn-1.0.entry b.vtable).1) new.kernel) (waiting_in (λ b. (g.dyn-1.0.entry b.vtable).1) new) (world_in (λ b. (g.dyn-1.0.entry b.vtable).1) old.runner.kernel) (world_in (λ b. (g.dyn-1.0.entry b.vtable).1) new.kernel) old.runner.positions new.positions c.cut_back-self.result
          (c.cut_back-self.ensures.seats ∙ ap (λ K. boxes_in (λ b. (g.dyn-1.0.entry b.vtable).1) K) kernel) (ap (seats_held (λ b. (g.dyn-1.0.entry b.vtable).1)) c.cut_back-self.ensures.waiting ∙ c.drop_waiting.ensures.none) (c.cut_back-self.ensures.positions ∙ positions)
          (c.cut_back-self.ensures.last ∙ ap (λ (t : Timeline Position). last_count (counts_of t.stored)) positions) c.requires.kinds c.requires.good (subst (λ (t : Timeline Position). AreRising t.stored) positions c.cut_back-self.ensures.rising) c.requires.stored
          (c.cut_back-self.ensures.world ∙ ap (λ (t : Timeline Position). cut_to_last (last_of t.stored) (world_in (λ b. (g.dyn-1.0.entry b.vtable).1) mid.kernel)) positions ∙ ap (λ K. cut_to_last (last_of old.runner.positions.stored) (world_in (λ b. (g.dyn-1.0.entry b.vtable).1) K)) kernel));
      shown = rw c.give_up.ensures (c.new.ensures.shown (answers_of old.model) (world_in (λ b. (g.dyn-1.0.entry b.vtable).1) new.kernel).records);
    }

pub returns-clause-left : goal.returns-clause-left
returns-clause-left g c =
    let old = c.args.self.now in
    let new = c.cut_back-self.new.self in
    let kernel = rw c.give_up.ensures at c.drop_waiting.ensures.kernel in
    let positions = rw c.give_up.ensures at c.drop_waiting.ensures.kept.0 in
    rw c.give_up.ensures (seen_given_up (editing_of (λ b. (g.dyn-1.0.entry b.vtable).1) old) (standing_in (λ b. (g.dyn-1.0.entry b.vtable).1) new) (supplied_in (λ b. (g.dyn-1.0.entry b.vtable).1) new) c.cut_back-self.result (counts_in new.positions)
    (ap (λ (ss : List BoxAt). standing (map instance_of ss)) (c.cut_back-self.ensures.seats ∙ ap (λ K. boxes_in (λ b. (g.dyn-1.0.entry b.vtable).1) K) kernel))
    (ap parts_in (ap (seats_held (λ b. (g.dyn-1.0.entry b.vtable).1)) c.cut_back-self.ensures.waiting ∙ c.drop_waiting.ensures.none))
    (c.cut_back-self.ensures.last ∙ ap (λ (t : Timeline Position). last_count (counts_of t.stored)) positions)
    (ap counts_in (c.cut_back-self.ensures.positions ∙ positions)))

pub returns-clause-stood : goal.returns-clause-stood
returns-clause-stood g c = c.cut_back-self.ensures.stood ∙ (rw c.give_up.ensures at c.drop_waiting.ensures.kept.1)
