use Rattle.std.proofs.Common.{List, Some, map, option_map, refl, sym, ap, ◌∙◌, subst}
use Rattle.std.proofs.Math.Facts.{Fits-lt-pow}
use Rattle.model_answers.specs.Answering.{answers_of}
use Rattle.checkpoints.specs.Stored.{counts_in, Timeline}
use Rattle.kernel.specs.Kernels.{boxes_in, world_in}
use Rattle.kernel_actions.specs.declared.position.Position.{Position}
use Rattle.kernel_boxes.specs.Seats.{BoxAt, instance_of, AreOfKinds}
use Rattle.kernel_boxes.specs.Saved.{seats_held}
use Rattle.checkpoint_runs.specs.Kept.{standing_in, supplied_in, waiting_in, AreGood}
use Rattle.checkpoint_runs.specs.Positions.{CanBeStored}
use Rattle.checkpoint_runs.specs.Running.{at_setup, known_at, resumed, IsWaiting}
use Rattle.checkpoint_runs.specs.Shown.{IsShownAt}
use Rattle.checkpoint_runs.specs.declared.phases.Point.{Point}
use Rattle.edit_session.proofs.GivenUp.{cut_back}
use Rattle.edit_session.proofs.Leaving.{done_stored, kept_starts, within_limit}
use Rattle.edit_session.proofs.Valid.{fresh_done, kept_done}
use Rattle.edit_session.proofs.Waiting.{kept_at_position, kept_at_setup, kept_at_start, last_back, setup_known, waits_for}
use Rattle.edit_session.specs.Editing.{observed_up_to, went_on_in}
use Rattle.edit_session.specs.Sessions.{completed_of, editing_of}
use Rattle.checkpoint_runs.specs.Telling.{AreTold}
use Rattle.checkpoint_runs.proofs.Counting.{on_err}
use Rattle.edit_session.proofs.session.Session.run_through.Goals.{in-Start, in-Setup, in-Position}
use Rattle.edit_session.proofs.session.Session.run_through.Goals as goal

pub returns-after-at-clause-kinds : goal.returns-after-at-clause-kinds
returns-after-at-clause-kinds g c =
    let b = g.C.Catalogue.behaviour in
    elim c.match-at.branch [
      | in-Start w ↦ rw w.self-is c.advance.ensures.kinds
      | in-Setup w ↦ rw w.self-is (subst (AreOfKinds b) (sym w.cut_back-self.ensures.seats) c.advance.ensures.kinds)
      | in-Position w ↦ rw w.self-is (subst (AreOfKinds b) (sym w.cut_back-self-in-Position.ensures.seats) c.advance.ensures.kinds)
    ]

pub returns-after-at-clause-good : goal.returns-after-at-clause-good
returns-after-at-clause-good g c =
    let b = g.C.Catalogue.behaviour in
    let m = answers_of c.args.self.now.model in
    let mid = c.advance.new.self in
    let good = rw (c.evaluated.ensures, c.give_up.ensures) at c.advance.ensures.good in
    elim c.match-at.branch [
      | in-Start w ↦ rw (w.self-is, c.give_up.ensures) good
      | in-Setup w ↦
          rw (w.self-is, c.give_up.ensures) (subst (λ (t : Timeline Position). AreGood b m (world_in (λ b. (g.dyn-1.0.entry b.vtable).1) w.cut_back-self.new.self.kernel) t.stored) (sym w.cut_back-self.ensures.positions)
          (cut_back b m (world_in (λ b. (g.dyn-1.0.entry b.vtable).1) mid.kernel) (world_in (λ b. (g.dyn-1.0.entry b.vtable).1) w.cut_back-self.new.self.kernel) mid.positions good w.cut_back-self.ensures.rising w.cut_back-self.ensures.world).good)
      | in-Position w ↦
          rw (w.self-is, c.give_up.ensures) (subst (λ (t : Timeline Position). AreGood b m (world_in (λ b. (g.dyn-1.0.entry b.vtable).1) w.cut_back-self-in-Position.new.self.kernel) t.stored) (sym w.cut_back-self-in-Position.ensures.positions)
          (cut_back b m (world_in (λ b. (g.dyn-1.0.entry b.vtable).1) mid.kernel) (world_in (λ b. (g.dyn-1.0.entry b.vtable).1) w.cut_back-self-in-Position.new.self.kernel) mid.positions good w.cut_back-self-in-Position.ensures.rising w.cut_back-self-in-Position.ensures.world).good)
    ]

pub returns-after-at-clause-sound : goal.returns-after-at-clause-sound
returns-after-at-clause-sound g c =
    let b = g.C.Catalogue.behaviour in
    let old = c.args.self.now in
    let m = answers_of old.model in
    let limit = c.args.limit in
    let mid = c.advance.new.self in
    let wait = c.in-Waits.wait in
    let r = resumed limit old.phase in
    let setup = at_setup old.phase in
    let boxes = standing_in (λ b. (g.dyn-1.0.entry b.vtable).1) old.runner in
    let supplied = supplied_in (λ b. (g.dyn-1.0.entry b.vtable).1) old.runner in
    let before = counts_in old.runner.positions in
    let h = rw (c.in-Waits.is, c.evaluated.ensures, c.give_up.ensures) at c.in_ok-wait.ensures.advances in
    let good = rw (c.evaluated.ensures, c.give_up.ensures) at c.advance.ensures.good in
    let shown = rw (c.in-Waits.is, c.evaluated.ensures, c.give_up.ensures) at c.in_ok-wait.ensures.shown in
    let starts = kept_starts b (boxes_in (λ b. (g.dyn-1.0.entry b.vtable).1) old.runner.kernel) (waiting_in (λ b. (g.dyn-1.0.entry b.vtable).1) old.runner) (world_in (λ b. (g.dyn-1.0.entry b.vtable).1) old.runner.kernel) old.model old.phase (option_map completed_of old.done) old.known old.runner.positions limit c.requires.sound.kept in
    let at_point : Point → Type 0 = λ p. IsWaiting b m limit setup r boxes supplied before (world_in (λ b. (g.dyn-1.0.entry b.vtable).1) mid.kernel) (waiting_in (λ b. (g.dyn-1.0.entry b.vtable).1) mid) (counts_in mid.positions) (record { from = wait.from; at = p; request = wait.request }) in
    elim c.match-at.branch [
      | in-Start w ↦ rw w.self-is (record {
        kept = rw (c.give_up.ensures, w.in-Start.is) (kept_at_start b (boxes_in (λ b. (g.dyn-1.0.entry b.vtable).1) mid.kernel) (waiting_in (λ b. (g.dyn-1.0.entry b.vtable).1) mid) (world_in (λ b. (g.dyn-1.0.entry b.vtable).1) mid.kernel) old.model limit setup r boxes supplied before mid.positions wait.from w.in-Start.count w.in-Start._id wait.request (Fits-lt-pow c.ranges.limit) c.advance.ensures.kinds starts (subst at_point w.in-Start.is h) good);
        shown = rw c.give_up.ensures (subst (λ p. IsShownAt m (world_in (λ b. (g.dyn-1.0.entry b.vtable).1) mid.kernel).records c.advance.new.shown p) w.in-Start.is shown);
      })
      | in-Setup w ↦ let new = w.cut_back-self.new.self in rw w.self-is (record {
        kept = rw (c.give_up.ensures, w.in-Setup.is) (kept_at_setup b (boxes_in (λ b. (g.dyn-1.0.entry b.vtable).1) mid.kernel) (boxes_in (λ b. (g.dyn-1.0.entry b.vtable).1) new.kernel) (waiting_in (λ b. (g.dyn-1.0.entry b.vtable).1) mid) (waiting_in (λ b. (g.dyn-1.0.entry b.vtable).1) new) (world_in (λ b. (g.dyn-1.0.entry b.vtable).1) mid.kernel) (world_in (λ b. (g.dyn-1.0.entry b.vtable).1) new.kernel) old.model limit setup r boxes supplied before mid.positions new.positions wait.from w.cut_back-self.result wait.request
            c.advance.ensures.kinds c.requires.sound.kept.stored (subst at_point w.in-Setup.is h) good w.cut_back-self.ensures.rising w.cut_back-self.ensures.world w.cut_back-self.ensures.seats (ap (seats_held (λ b. (g.dyn-1.0.entry b.vtable).1)) w.cut_back-self.ensures.waiting) w.cut_back-self.ensures.positions w.cut_back-self.ensures.last);
        shown = rw c.replace-shown.ensures.after (c.new.ensures.shown (answers_of c.give_up.new.self.model) (world_in (λ b. (g.dyn-1.0.entry b.vtable).1) new.kernel).records);
      })
      | in-Position w ↦ let new = w.cut_back-self-in-Position.new.self in rw w.self-is (record {
        kept = rw (c.give_up.ensures, w.in-Position.is) (kept_at_position b (boxes_in (λ b. (g.dyn-1.0.entry b.vtable).1) mid.kernel) (boxes_in (λ b. (g.dyn-1.0.entry b.vtable).1) new.kernel) (waiting_in (λ b. (g.dyn-1.0.entry b.vtable).1) mid) (waiting_in (λ b. (g.dyn-1.0.entry b.vtable).1) new) (world_in (λ b. (g.dyn-1.0.entry b.vtable).1) mid.kernel) (world_in (λ b. (g.dyn-1.0.entry b.vtable).1) new.kernel) old.model limit setup r boxes supplied before mid.positions new.positions wait.from w.cut_back-self-in-Position.result wait.request
            (within_limit b m limit r before starts) c.advance.ensures.kinds c.requires.sound.kept.stored (subst at_point w.in-Position.is h) good w.cut_back-self-in-Position.ensures.rising w.cut_back-self-in-Position.ensures.world w.cut_back-self-in-Position.ensures.seats (ap (seats_held (λ b. (g.dyn-1.0.entry b.vtable).1)) w.cut_back-self-in-Position.ensures.waiting) w.cut_back-self-in-Position.ensures.positions w.cut_back-self-in-Position.ensures.last);
        shown = rw c.replace-shown.ensures.after (c.new.ensures.shown (answers_of c.give_up.new.self.model) (world_in (λ b. (g.dyn-1.0.entry b.vtable).1) new.kernel).records);
      })
    ]

pub returns-after-at-clause-waits : goal.returns-after-at-clause-waits
returns-after-at-clause-waits g c =
    let b = g.C.Catalogue.behaviour in
    let old = c.args.self.now in
    let m = answers_of old.model in
    let limit = c.args.limit in
    let mid = c.advance.new.self in
    let wait = c.in-Waits.wait in
    let r = resumed limit old.phase in
    let setup = at_setup old.phase in
    let boxes = standing_in (λ b. (g.dyn-1.0.entry b.vtable).1) old.runner in
    let supplied = supplied_in (λ b. (g.dyn-1.0.entry b.vtable).1) old.runner in
    let before = counts_in old.runner.positions in
    let h = rw (c.in-Waits.is, c.evaluated.ensures, c.give_up.ensures) at c.in_ok-wait.ensures.advances in
    let starts = kept_starts b (boxes_in (λ b. (g.dyn-1.0.entry b.vtable).1) old.runner.kernel) (waiting_in (λ b. (g.dyn-1.0.entry b.vtable).1) old.runner) (world_in (λ b. (g.dyn-1.0.entry b.vtable).1) old.runner.kernel) old.model old.phase (option_map completed_of old.done) old.known old.runner.positions limit c.requires.sound.kept in
    let within = within_limit b m limit r before starts in
    let at_point : Point → Type 0 = λ p. IsWaiting b m limit setup r boxes supplied before (world_in (λ b. (g.dyn-1.0.entry b.vtable).1) mid.kernel) (waiting_in (λ b. (g.dyn-1.0.entry b.vtable).1) mid) (counts_in mid.positions) (record { from = wait.from; at = p; request = wait.request }) in
    elim c.match-at.branch [
      | in-Start w ↦
          rw (w.self-is, c.give_up.ensures) (waits_for b (editing_of (λ b. (g.dyn-1.0.entry b.vtable).1) old) limit wait (world_in (λ b. (g.dyn-1.0.entry b.vtable).1) mid.kernel) (world_in (λ b. (g.dyn-1.0.entry b.vtable).1) mid.kernel) (waiting_in (λ b. (g.dyn-1.0.entry b.vtable).1) mid) (waiting_in (λ b. (g.dyn-1.0.entry b.vtable).1) mid) mid.positions mid.positions (Some w.in-Start.count) within h refl refl refl
          (sym (ap (known_at wait.from) w.in-Start.is)))
      | in-Setup w ↦ let new = w.cut_back-self.new.self in
          rw (w.self-is, c.give_up.ensures) (waits_for b (editing_of (λ b. (g.dyn-1.0.entry b.vtable).1) old) limit wait (world_in (λ b. (g.dyn-1.0.entry b.vtable).1) mid.kernel) (world_in (λ b. (g.dyn-1.0.entry b.vtable).1) new.kernel) (waiting_in (λ b. (g.dyn-1.0.entry b.vtable).1) mid) (waiting_in (λ b. (g.dyn-1.0.entry b.vtable).1) new) mid.positions new.positions w.cut_back-self.result within h
          (ap (λ (ss : List BoxAt). map instance_of ss) w.cut_back-self.ensures.seats) (ap (seats_held (λ b. (g.dyn-1.0.entry b.vtable).1)) w.cut_back-self.ensures.waiting) w.cut_back-self.ensures.positions
          (w.cut_back-self.ensures.last ∙ setup_known b old.model limit setup r boxes supplied before (world_in (λ b. (g.dyn-1.0.entry b.vtable).1) mid.kernel) (waiting_in (λ b. (g.dyn-1.0.entry b.vtable).1) mid) mid.positions wait.from wait.request (subst at_point w.in-Setup.is h) ∙ sym (ap (known_at wait.from) w.in-Setup.is)))
      | in-Position w ↦ let new = w.cut_back-self-in-Position.new.self in
          rw (w.self-is, c.give_up.ensures) (waits_for b (editing_of (λ b. (g.dyn-1.0.entry b.vtable).1) old) limit wait (world_in (λ b. (g.dyn-1.0.entry b.vtable).1) mid.kernel) (world_in (λ b. (g.dyn-1.0.entry b.vtable).1) new.kernel) (waiting_in (λ b. (g.dyn-1.0.entry b.vtable).1) mid) (waiting_in (λ b. (g.dyn-1.0.entry b.vtable).1) new) mid.positions new.positions w.cut_back-self-in-Position.result within h
          (ap (λ (ss : List BoxAt). map instance_of ss) w.cut_back-self-in-Position.ensures.seats) (ap (seats_held (λ b. (g.dyn-1.0.entry b.vtable).1)) w.cut_back-self-in-Position.ensures.waiting) w.cut_back-self-in-Position.ensures.positions
          (w.cut_back-self-in-Position.ensures.last ∙ last_back b old.model limit setup r boxes supplied before (world_in (λ b. (g.dyn-1.0.entry b.vtable).1) mid.kernel) (waiting_in (λ b. (g.dyn-1.0.entry b.vtable).1) mid) mid.positions wait.from wait.request within (subst at_point w.in-Position.is h) ∙ sym (ap (known_at wait.from) w.in-Position.is)))
    ]

pub returns-in_ok-report-in-Done-clause-sound : goal.returns-in_ok-report-in-Done-clause-sound
returns-in_ok-report-in-Done-clause-sound g c =
    let b = g.C.Catalogue.behaviour in
    let old = c.args.self.now in
    let m = answers_of old.model in
    let limit = c.args.limit in
    let mid = c.advance.new.self in
    let r = resumed limit old.phase in
    let before = counts_in old.runner.positions in
    let h = rw (c.in-Done.is, c.evaluated.ensures, c.give_up.ensures) at c.in_ok-wait.ensures.advances in
    let starts = kept_starts b (boxes_in (λ b. (g.dyn-1.0.entry b.vtable).1) old.runner.kernel) (waiting_in (λ b. (g.dyn-1.0.entry b.vtable).1) old.runner) (world_in (λ b. (g.dyn-1.0.entry b.vtable).1) old.runner.kernel) old.model old.phase (option_map completed_of old.done) old.known old.runner.positions limit c.requires.sound.kept in
    record {
      kept = rw c.give_up.ensures (kept_done b (boxes_in (λ b. (g.dyn-1.0.entry b.vtable).1) mid.kernel) (waiting_in (λ b. (g.dyn-1.0.entry b.vtable).1) mid) (world_in (λ b. (g.dyn-1.0.entry b.vtable).1) mid.kernel) old.model limit c.in-Done.ended.outcome c.count-count.result mid.positions c.advance.ensures.kinds h.whole c.count-count.ensures
          (rw (c.evaluated.ensures, c.give_up.ensures) at c.advance.ensures.good) (subst CanBeStored (sym h.positions) (done_stored b m limit r before (Fits-lt-pow c.ranges.limit) starts)));
      shown = rw c.give_up.ensures (rw (c.in-Done.is, c.evaluated.ensures, c.give_up.ensures) at c.in_ok-wait.ensures.shown);
    }

pub returns-in_ok-report-in-Done-clause-done : goal.returns-in_ok-report-in-Done-clause-done
returns-in_ok-report-in-Done-clause-done g c =
    let mid = c.advance.new.self in
    let h = rw (c.in-Done.is, c.evaluated.ensures, c.give_up.ensures) at c.in_ok-wait.ensures.advances in
    fresh_done g.C.Catalogue.behaviour (editing_of (λ b. (g.dyn-1.0.entry b.vtable).1) c.args.self.now) _ c.args.limit c.in_ok-report-in-Done.report (world_in (λ b. (g.dyn-1.0.entry b.vtable).1) mid.kernel) (waiting_in (λ b. (g.dyn-1.0.entry b.vtable).1) mid) (counts_in mid.positions) c.in-Done.ended c.count-count.result h c.in_ok-report-in-Done.ensures c.count-count.ensures refl refl refl refl refl

-- ---- what the observer is told

pub returns-after-at-clause-observed : goal.returns-after-at-clause-observed
returns-after-at-clause-observed g c =
    let b = g.C.Catalogue.behaviour in
    let old = c.args.self.now in
    let h = rw (c.in-Waits.is, c.evaluated.ensures, c.give_up.ensures) at c.in_ok-wait.ensures.advances in
    let told = rw (c.in-Waits.is, c.evaluated.ensures, c.give_up.ensures) at c.in_ok-wait.ensures.told in
    subst (λ o. AreTold g.W.Observer.told c.args.observer.now (observed_up_to b old.model c.args.limit (went_on_in b (editing_of (λ b. (g.dyn-1.0.entry b.vtable).1) old) c.args.limit) o) c.advance.new.observer) (sym h.is) told

pub returns-in_ok-report-in-Done-clause-observed : goal.returns-in_ok-report-in-Done-clause-observed
returns-in_ok-report-in-Done-clause-observed g c =
    let b = g.C.Catalogue.behaviour in
    let old = c.args.self.now in
    let h = rw (c.in-Done.is, c.evaluated.ensures, c.give_up.ensures) at c.in_ok-wait.ensures.advances in
    let told = rw (c.in-Done.is, c.evaluated.ensures, c.give_up.ensures) at c.in_ok-wait.ensures.told in
    subst (λ o. AreTold g.W.Observer.told c.args.observer.now (observed_up_to b old.model c.args.limit (went_on_in b (editing_of (λ b. (g.dyn-1.0.entry b.vtable).1) old) c.args.limit) o) c.advance.new.observer) (sym h.none) told

pub returns-in_err-wait-clause-observed_until : goal.returns-in_err-wait-clause-observed_until
returns-in_err-wait-clause-observed_until g c = on_err c.from_residual.result (rw (c.evaluated.ensures, c.give_up.ensures) at c.advance.ensures.until)

pub returns-in_err-report-in-Done-clause-observed_until : goal.returns-in_err-report-in-Done-clause-observed_until
returns-in_err-report-in-Done-clause-observed_until g c = on_err c.from_residual-in_err-report-in-Done.result (rw (c.evaluated.ensures, c.give_up.ensures) at c.advance.ensures.until)
