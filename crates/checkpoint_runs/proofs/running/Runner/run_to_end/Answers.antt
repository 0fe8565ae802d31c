use Rattle.std.proofs.Common.{◌≡◌, ◌≤◌, [], Some, true, zero, suc, refl, sym, ap, ◌∙◌, subst, arith}
use Rattle.checkpoints.specs.Stored.{counts_in, AreBelow, Timeline}
use Rattle.kernel_actions.specs.declared.position.Position.{Position}
use Rattle.kernel_call_views.specs.Tables.{AreShown}
use Rattle.kernel.specs.Kernels.{world_in}
use Rattle.kernel_boxes.specs.Saved.{seats_held}
use Rattle.run_semantics.specs.Ending.{ending}
use Rattle.run_semantics.specs.Run.{Running, Over, after}
use Rattle.run_semantics.specs.World.{HasRoom}
use Rattle.run_semantics.proofs.Ends.{count_over, run_over}
use Rattle.checkpoint_runs.specs.Kept.{supplied_in, AreGood}
use Rattle.checkpoint_runs.specs.Positions.{HasBegun}
use Rattle.checkpoint_runs.specs.Running.{parts_in}
use Rattle.checkpoint_runs.specs.declared.phases.Stood.TheVariants as stood
use Rattle.checkpoint_runs.proofs.Counting.{fault_left, first_below, first_counts, first_untaken, setup_stored_all}
use Rattle.checkpoint_runs.proofs.Ends.{started_status}
use Rattle.checkpoint_runs.proofs.Filling.{ready_known, start_is_fault, wait_over}
use Rattle.checkpoint_runs.proofs.Going.{count_is, going_at}
use Rattle.checkpoint_runs.proofs.Good.{good_stored}
use Rattle.checkpoint_runs.proofs.Observing.{on_nothing, on_setup, told_nothing, told_on, until_before, until_on, until_untaken}
use Rattle.checkpoint_runs.specs.Observing.{behind_setup, last_told}
use Rattle.run_semantics.specs.Run.{start}
use Rattle.checkpoint_runs.proofs.running.Runner.run_to_end.Goals as goal

pub run_on-requires-clause-going : goal.run_on-requires-clause-going
run_on-requires-clause-going g c =
    let b = g.C.Catalogue.behaviour in
    let m = g.A.Answers.answers in
    let w = world_in (λ b. (g.dyn-1.0.entry b.vtable).1) c.start.new.self in
    let new = c.keep_if.new.self in
    let going : Running w ≡ after b m 0 = rw c.in-None.is at c.in_ok-outcome.ensures.step in
    let count : w.count ≡ 0 = count_is b m 0 w going in
    let room : HasRoom w = omega (arith, c.in_ok-outcome.ensures.next) in
    let same = sym c.in_ok-keep_if-in-None.ensures.kept in
    let stored = c.in_ok-keep_if-in-None.ensures.ok in
    record {
      going = subst (λ K. Running (world_in (λ b. (g.dyn-1.0.entry b.vtable).1) K) ≡ after b m (world_in (λ b. (g.dyn-1.0.entry b.vtable).1) K).count) same (going_at b m 0 w going);
      within = subst (λ K. (world_in (λ b. (g.dyn-1.0.entry b.vtable).1) K).count ≤ c.args.limit) same (omega (arith, count));
      room = subst (λ K. HasRoom (world_in (λ b. (g.dyn-1.0.entry b.vtable).1) K)) same room;
      good = subst (λ K. AreGood b m (world_in (λ b. (g.dyn-1.0.entry b.vtable).1) K) new.positions.stored) same
          (good_stored b m w true c.args.self.now.positions new.positions (λ _. going_at b m 0 w going) room stored (subst (λ (t : Timeline Position). AreGood b m w t.stored) (sym c.requires.none) tt));
      below = subst (λ K. AreBelow (suc (world_in (λ b. (g.dyn-1.0.entry b.vtable).1) K).count) new.positions.stored) same
          (first_below (suc w.count) c.args.self.now.positions.first new.positions (omega arith) (first_counts w c.args.self.now.positions new.positions c.requires.none stored count));
      stood = c.in_ok-keep_if-in-None.ensures.stood ∙ ap (λ K. stood.After (world_in (λ b. (g.dyn-1.0.entry b.vtable).1) K).count) same;
    }

pub run_on-requires-clause-shown : goal.run_on-requires-clause-shown
run_on-requires-clause-shown g c =
    subst (λ K. AreShown g.A.Answers.answers (world_in (λ b. (g.dyn-1.0.entry b.vtable).1) K).records c.start.new.shown) (sym c.in_ok-keep_if-in-None.ensures.kept) c.in_ok-outcome.ensures.shown

pub returns-in_ok-ended-in-Some-clause-ran : goal.returns-in_ok-ended-in-Some-clause-ran
returns-in_ok-ended-in-Some-clause-ran g c =
    let b = g.C.Catalogue.behaviour in
    let m = g.A.Answers.answers in
    let w = world_in (λ b. (g.dyn-1.0.entry b.vtable).1) c.start.new.self in
    let over : Over w c.in-Some.outcome ≡ after b m 0 = rw c.in-Some.is at c.in_ok-outcome.ensures.step in
    let few = count_over b m w c.in-Some.outcome zero over in
    let known = ready_known b m _ _ c.requires.ready in
    let ran = run_over b m w c.in-Some.outcome zero c.args.limit (omega arith) over in
    record {
      none = wait_over b m 0 c.args.limit w c.in-Some.outcome [] over;
      known = known;
      whole = ap (ending b m) ran ∙ sym c.in_ok-ended-in-Some.ensures.step;
      empty = c.start.ensures.none;
      left = fault_left b m c.args.limit w c.in-Some.outcome c.args.self.now.positions c.args.self.now.positions c.requires.none refl ran (omega (arith, few)) (start_is_fault b m w c.in-Some.outcome over);
    }

pub returns-in_ok-status-in-None-clause-ran : goal.returns-in_ok-status-in-None-clause-ran
returns-in_ok-status-in-None-clause-ran g c =
    let b = g.C.Catalogue.behaviour in
    let m = g.A.Answers.answers in
    let w = world_in (λ b. (g.dyn-1.0.entry b.vtable).1) c.start.new.self in
    let new = c.keep_if.new.self in
    let count : w.count ≡ 0 = count_is b m 0 w (rw c.in-None.is at c.in_ok-outcome.ensures.step) in
    let counts = first_counts w c.args.self.now.positions new.positions c.requires.none c.in_ok-keep_if-in-None.ensures.ok count in
    let from : (world_in (λ b. (g.dyn-1.0.entry b.vtable).1) new.kernel).count ≡ 0 = ap (λ K. (world_in (λ b. (g.dyn-1.0.entry b.vtable).1) K).count) c.in_ok-keep_if-in-None.ensures.kept ∙ count in
    let empty : supplied_in (λ b. (g.dyn-1.0.entry b.vtable).1) new ≡ [] = ap parts_in (ap (seats_held (λ b. (g.dyn-1.0.entry b.vtable).1)) c.keep_if.ensures.waiting ∙ c.start.ensures.none) in
    started_status b m (λ b. (g.dyn-1.0.entry b.vtable).1) c.args.limit c.args.self.now.positions new c.run_on.new.self c.in_ok-status-in-None.status c.requires.none counts from empty (ready_known b m _ _ c.requires.ready) c.in_ok-status-in-None.ensures.ran

pub returns-in_err-status-in-None-clause-stopped : goal.returns-in_err-status-in-None-clause-stopped
returns-in_err-status-in-None-clause-stopped g c =
    let b = g.C.Catalogue.behaviour in
    let m = g.A.Answers.answers in
    let w = world_in (λ b. (g.dyn-1.0.entry b.vtable).1) c.start.new.self in
    let new = c.keep_if.new.self in
    let count : w.count ≡ 0 = count_is b m 0 w (rw c.in-None.is at c.in_ok-outcome.ensures.step) in
    let counts = first_counts w c.args.self.now.positions new.positions c.requires.none c.in_ok-keep_if-in-None.ensures.ok count in
    let from : (world_in (λ b. (g.dyn-1.0.entry b.vtable).1) new.kernel).count ≡ 0 = ap (λ K. (world_in (λ b. (g.dyn-1.0.entry b.vtable).1) K).count) c.in_ok-keep_if-in-None.ensures.kept ∙ count in
    setup_stored_all b m c.args.limit c.run_on.new.self.stood c.args.self.now.positions new.positions (counts_in c.run_on.new.self.positions) c.requires.none counts
    (subst (λ n. HasBegun b m c.args.limit n (counts_in new.positions) c.run_on.new.self.stood (counts_in c.run_on.new.self.positions)) from c.run_on.ensures.stopped)

pub returns-in_ok-status-in-None-clause-stopped : goal.returns-in_ok-status-in-None-clause-stopped
returns-in_ok-status-in-None-clause-stopped g c =
    let b = g.C.Catalogue.behaviour in
    let m = g.A.Answers.answers in
    let w = world_in (λ b. (g.dyn-1.0.entry b.vtable).1) c.start.new.self in
    let new = c.keep_if.new.self in
    let count : w.count ≡ 0 = count_is b m 0 w (rw c.in-None.is at c.in_ok-outcome.ensures.step) in
    let counts = first_counts w c.args.self.now.positions new.positions c.requires.none c.in_ok-keep_if-in-None.ensures.ok count in
    let from : (world_in (λ b. (g.dyn-1.0.entry b.vtable).1) new.kernel).count ≡ 0 = ap (λ K. (world_in (λ b. (g.dyn-1.0.entry b.vtable).1) K).count) c.in_ok-keep_if-in-None.ensures.kept ∙ count in
    setup_stored_all b m c.args.limit c.run_on.new.self.stood c.args.self.now.positions new.positions (counts_in c.run_on.new.self.positions) c.requires.none counts
    (subst (λ n. HasBegun b m c.args.limit n (counts_in new.positions) c.run_on.new.self.stood (counts_in c.run_on.new.self.positions)) from c.run_on.ensures.stopped)

pub returns-in_err-keep_if-in-None-clause-stopped : goal.returns-in_err-keep_if-in-None-clause-stopped
returns-in_err-keep_if-in-None-clause-stopped g c =
    let b = g.C.Catalogue.behaviour in
    let m = g.A.Answers.answers in
    let w = world_in (λ b. (g.dyn-1.0.entry b.vtable).1) c.start.new.self in
    let going : Running w ≡ after b m 0 = rw c.in-None.is at c.in_ok-outcome.ensures.step in
    first_untaken b m c.args.limit c.keep_if.new.self.stood c.args.self.now.positions c.keep_if.new.self.positions (c.in_err-keep_if-in-None.ensures.untaken ∙ ap stood.Untaken (count_is b m 0 w going)) (w, going)
    c.requires.none c.in_err-keep_if-in-None.ensures.err

-- ---- what is told of it

pub returns-in_err-outcome-clause-until : goal.returns-in_err-outcome-clause-until
returns-in_err-outcome-clause-until g c =
    let b = g.C.Catalogue.behaviour in
    let m = g.A.Answers.answers in
    until_before b m c.args.limit (behind_setup (start b m)) g.W.Observer.told c.args.observer.now c.args.self.now.stood c.requires.stood

pub returns-in_err-ended-in-Some-clause-until : goal.returns-in_err-ended-in-Some-clause-until
returns-in_err-ended-in-Some-clause-until g c =
    let b = g.C.Catalogue.behaviour in
    let m = g.A.Answers.answers in
    until_before b m c.args.limit (behind_setup (start b m)) g.W.Observer.told c.args.observer.now c.args.self.now.stood c.requires.stood

pub returns-in_ok-ended-in-Some-clause-until : goal.returns-in_ok-ended-in-Some-clause-until
returns-in_ok-ended-in-Some-clause-until g c =
    let b = g.C.Catalogue.behaviour in
    let m = g.A.Answers.answers in
    until_before b m c.args.limit (behind_setup (start b m)) g.W.Observer.told c.args.observer.now c.args.self.now.stood c.requires.stood

pub returns-in_ok-ended-in-Some-clause-told : goal.returns-in_ok-ended-in-Some-clause-told
returns-in_ok-ended-in-Some-clause-told g c =
    let b = g.C.Catalogue.behaviour in
    let m = g.A.Answers.answers in
    let w = world_in (λ b. (g.dyn-1.0.entry b.vtable).1) c.start.new.self in
    let over : Over w c.in-Some.outcome ≡ after b m 0 = rw c.in-Some.is at c.in_ok-outcome.ensures.step in
    told_nothing b m c.args.limit (last_told b m c.args.limit) (behind_setup (start b m)) g.W.Observer.told c.args.observer.now (on_nothing b m w c.in-Some.outcome over)

pub returns-in_err-keep_if-in-None-clause-until : goal.returns-in_err-keep_if-in-None-clause-until
returns-in_err-keep_if-in-None-clause-until g c =
    let b = g.C.Catalogue.behaviour in
    let m = g.A.Answers.answers in
    let w = world_in (λ b. (g.dyn-1.0.entry b.vtable).1) c.start.new.self in
    let going : Running w ≡ after b m 0 = rw c.in-None.is at c.in_ok-outcome.ensures.step in
    until_untaken b m c.args.limit 0 (behind_setup (start b m)) g.W.Observer.told c.args.observer.now c.keep_if.new.self.stood (on_setup b m w going) (c.in_err-keep_if-in-None.ensures.untaken ∙ ap stood.Untaken (count_is b m 0 w going))

pub returns-in_err-status-in-None-clause-until : goal.returns-in_err-status-in-None-clause-until
returns-in_err-status-in-None-clause-until g c =
    let b = g.C.Catalogue.behaviour in
    let m = g.A.Answers.answers in
    let w = world_in (λ b. (g.dyn-1.0.entry b.vtable).1) c.start.new.self in
    let new = c.keep_if.new.self in
    let going : Running w ≡ after b m 0 = rw c.in-None.is at c.in_ok-outcome.ensures.step in
    let from : (world_in (λ b. (g.dyn-1.0.entry b.vtable).1) new.kernel).count ≡ 0 = ap (λ K. (world_in (λ b. (g.dyn-1.0.entry b.vtable).1) K).count) c.in_ok-keep_if-in-None.ensures.kept ∙ count_is b m 0 w going in
    let on : behind_setup (start b m) ≡ Some (world_in (λ b. (g.dyn-1.0.entry b.vtable).1) new.kernel).count = on_setup b m w going ∙ ap Some (sym from) in
    until_on b m c.args.limit (behind_setup (start b m)) (Some (world_in (λ b. (g.dyn-1.0.entry b.vtable).1) new.kernel).count) g.W.Observer.told c.args.observer.now c.run_on.new.observer c.run_on.new.self.stood on c.run_on.ensures.until

pub returns-in_ok-status-in-None-clause-until : goal.returns-in_ok-status-in-None-clause-until
returns-in_ok-status-in-None-clause-until g c =
    let b = g.C.Catalogue.behaviour in
    let m = g.A.Answers.answers in
    let w = world_in (λ b. (g.dyn-1.0.entry b.vtable).1) c.start.new.self in
    let new = c.keep_if.new.self in
    let going : Running w ≡ after b m 0 = rw c.in-None.is at c.in_ok-outcome.ensures.step in
    let from : (world_in (λ b. (g.dyn-1.0.entry b.vtable).1) new.kernel).count ≡ 0 = ap (λ K. (world_in (λ b. (g.dyn-1.0.entry b.vtable).1) K).count) c.in_ok-keep_if-in-None.ensures.kept ∙ count_is b m 0 w going in
    let on : behind_setup (start b m) ≡ Some (world_in (λ b. (g.dyn-1.0.entry b.vtable).1) new.kernel).count = on_setup b m w going ∙ ap Some (sym from) in
    until_on b m c.args.limit (behind_setup (start b m)) (Some (world_in (λ b. (g.dyn-1.0.entry b.vtable).1) new.kernel).count) g.W.Observer.told c.args.observer.now c.run_on.new.observer c.run_on.new.self.stood on c.run_on.ensures.until

pub returns-in_ok-status-in-None-clause-told : goal.returns-in_ok-status-in-None-clause-told
returns-in_ok-status-in-None-clause-told g c =
    let b = g.C.Catalogue.behaviour in
    let m = g.A.Answers.answers in
    let w = world_in (λ b. (g.dyn-1.0.entry b.vtable).1) c.start.new.self in
    let new = c.keep_if.new.self in
    let going : Running w ≡ after b m 0 = rw c.in-None.is at c.in_ok-outcome.ensures.step in
    let from : (world_in (λ b. (g.dyn-1.0.entry b.vtable).1) new.kernel).count ≡ 0 = ap (λ K. (world_in (λ b. (g.dyn-1.0.entry b.vtable).1) K).count) c.in_ok-keep_if-in-None.ensures.kept ∙ count_is b m 0 w going in
    let on : behind_setup (start b m) ≡ Some (world_in (λ b. (g.dyn-1.0.entry b.vtable).1) new.kernel).count = on_setup b m w going ∙ ap Some (sym from) in
    told_on b m c.args.limit (world_in (λ b. (g.dyn-1.0.entry b.vtable).1) c.run_on.new.self.kernel).count (behind_setup (start b m)) (Some (world_in (λ b. (g.dyn-1.0.entry b.vtable).1) new.kernel).count) g.W.Observer.told c.args.observer.now c.run_on.new.observer c.in_ok-status-in-None.status on c.in_ok-status-in-None.ensures.told
