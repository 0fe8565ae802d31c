use Rattle.std.proofs.Common.{◌≡◌, ◌+◌, ◌-◌, ◌==◌, [], Some, arith, refl, sym, ap, ◌∙◌, subst, suc, if◌then◌else◌}
use Rattle.checkpoints.specs.Stored.{counts_in, is_multiple, AreBelow, Timeline}
use Rattle.kernel_actions.specs.declared.position.Position.{Position}
use Rattle.kernel_call_views.specs.Tables.{AreShown}
use Rattle.kernel.specs.Kernels.{world_in, HasKinds}
use Rattle.kernel_actions.specs.Positions.{position_of}
use Rattle.kernel_boxes.specs.Saved.{seats_held}
use Rattle.run_semantics.specs.Run.{Running, after, run_to, stopped, wanted}
use Rattle.run_semantics.specs.World.{HasRoom}
use Rattle.run_semantics.proofs.Ends.{count_going, count_over, run_over, next_after}
use Rattle.checkpoint_runs.specs.Kept.{supplied_in, taken_if, waiting_in, AreGood}
use Rattle.checkpoint_runs.specs.Observing.{executed_after}
use Rattle.checkpoint_runs.specs.Running.{first_wait, parts_in}
use Rattle.checkpoint_runs.specs.Telling.{AreTold}
use Rattle.checkpoint_runs.specs.declared.phases.Stood.TheVariants as stood
use Rattle.checkpoint_runs.proofs.Counting.{on_err}
use Rattle.checkpoint_runs.proofs.Filling.{wait_over}
use Rattle.checkpoint_runs.proofs.Going.{begun_after, begun_untaken, below_next, count_is, going_at, gone_over, gone_stopped, over_last, stopped_last, stored_next, StoredAt}
use Rattle.checkpoint_runs.proofs.Good.{good_on, good_stored}
use Rattle.checkpoint_runs.proofs.Observing.{executed_until, executed_untaken, told_next, told_up_to}
use Rattle.checkpoint_runs.proofs.Pausing.{first_none, first_ready, has_modules, wait_ends, wait_none, wait_some, later}
use Rattle.checkpoint_runs.proofs.running.Runner.run_events.Goals as goal

pub missing_next-requires-clause-count : goal.missing_next-requires-clause-count
missing_next-requires-clause-count g c = omega (arith, count_going g.C.Catalogue.behaviour g.A.Answers.answers _ c.loop-k._k c.loop-k.invariant.going)

pub missing_next-requires-clause-first : goal.missing_next-requires-clause-first
missing_next-requires-clause-first g c = c.loop-k.invariant.first

pub step-requires-clause-count : goal.step-requires-clause-count
step-requires-clause-count g c = omega (arith, count_going g.C.Catalogue.behaviour g.A.Answers.answers _ c.loop-k._k c.loop-k.invariant.going)

pub step-requires-clause-modules : goal.step-requires-clause-modules
step-requires-clause-modules g c = has_modules g.C.Catalogue.behaviour g.A.Answers.answers c.loop-k._k (world_in (λ b. (g.dyn-1.0.entry b.vtable).1) c.loop-k.self.kernel) c.loop-k.invariant.going

pub step-requires-clause-fresh : goal.step-requires-clause-fresh
step-requires-clause-fresh g c =
    first_ready g.C.Catalogue.behaviour g.A.Answers.answers (world_in (λ b. (g.dyn-1.0.entry b.vtable).1) c.loop-k.self.kernel) (waiting_in (λ b. (g.dyn-1.0.entry b.vtable).1) c.loop-k.self) c.loop-k.invariant.first (sym c.in_ok-missing.ensures ∙ c.in_default.is)

-- ---- it waits

pub returns-in-Some-clause-ran : goal.returns-in-Some-clause-ran
returns-in-Some-clause-ran g c =
    let b = g.C.Catalogue.behaviour in
    let m = g.A.Answers.answers in
    let k = c.loop-k._k in
    let begun = world_in (λ b. (g.dyn-1.0.entry b.vtable).1) c.args.self.now.kernel in
    let w = world_in (λ b. (g.dyn-1.0.entry b.vtable).1) c.loop-k.self.kernel in
    let xs = waiting_in (λ b. (g.dyn-1.0.entry b.vtable).1) c.loop-k.self in
    let at = count_is b m k w c.loop-k.invariant.going in
    let asks = sym c.in_ok-missing.ensures ∙ c.in-Some.is in
    record {
      held = record {
        paused = record { count = refl; going = going_at b m k w c.loop-k.invariant.going; room = c.loop-k.invariant.room; first = c.loop-k.invariant.first };
        grew = omega (arith, at, c.loop-k.invariant.from);
        within = omega (arith, at, c.loop-k-test.true);
        kept = subst (λ n. parts_in xs ≡ (if begun.count == n then supplied_in (λ b. (g.dyn-1.0.entry b.vtable).1) c.args.self.now else [])) (sym at) c.loop-k.invariant.left;
        asks = asks;
        wait = subst (λ n. first_wait b m begun.count (c.args.limit - begun.count) (supplied_in (λ b. (g.dyn-1.0.entry b.vtable).1) c.args.self.now) ≡ Some (n, c.in-Some.request)) (sym at)
            (c.loop-k.invariant.wait ∙ wait_some b m k c.args.limit w (parts_in xs) c.in-Some.request (omega (arith, c.loop-k-test.true)) c.loop-k.invariant.going asks);
      };
      stood = c.loop-k.invariant.stood ∙ ap stood.After (sym at);
      counts = subst (λ n. StoredAt begun.count c.args.self.now.positions c.loop-k.self.positions n) (sym at) c.loop-k.invariant.stored;
    }

pub returns-in-Some-clause-told : goal.returns-in-Some-clause-told
returns-in-Some-clause-told g c =
    let b = g.C.Catalogue.behaviour in
    let m = g.A.Answers.answers in
    let w = world_in (λ b. (g.dyn-1.0.entry b.vtable).1) c.loop-k.self.kernel in
    told_up_to b m g.W.Observer.told (world_in (λ b. (g.dyn-1.0.entry b.vtable).1) c.args.self.now.kernel).count c.loop-k._k w.count c.args.observer.now c.loop-k.observer (sym (count_is b m c.loop-k._k w c.loop-k.invariant.going)) c.loop-k.invariant.told

-- ---- memory runs out

pub returns-in_err-missing-clause-begun : goal.returns-in_err-missing-clause-begun
returns-in_err-missing-clause-begun g c =
    on_err c.from_residual.result
    (begun_after g.C.Catalogue.behaviour g.A.Answers.answers c.args.limit (world_in (λ b. (g.dyn-1.0.entry b.vtable).1) c.args.self.now.kernel).count c.loop-k._k c.loop-k.self.stood c.args.self.now.positions c.loop-k.self.positions
    (world_in (λ b. (g.dyn-1.0.entry b.vtable).1) c.loop-k.self.kernel) c.loop-k.invariant.stood c.loop-k.invariant.from (omega (arith, c.loop-k-test.true)) c.loop-k.invariant.going c.loop-k.invariant.stored)

pub returns-in_err-over-clause-good : goal.returns-in_err-over-clause-good
returns-in_err-over-clause-good g c =
    good_on g.C.Catalogue.behaviour g.A.Answers.answers (world_in (λ b. (g.dyn-1.0.entry b.vtable).1) c.loop-k.self.kernel) (world_in (λ b. (g.dyn-1.0.entry b.vtable).1) c.step.new.self)
    c.loop-k.self.positions.stored c.step.ensures.grown c.loop-k.invariant.good

pub returns-in_err-over-clause-begun : goal.returns-in_err-over-clause-begun
returns-in_err-over-clause-begun g c =
    on_err c.from_residual-in_err-over.result
    (begun_after g.C.Catalogue.behaviour g.A.Answers.answers c.args.limit (world_in (λ b. (g.dyn-1.0.entry b.vtable).1) c.args.self.now.kernel).count c.loop-k._k c.loop-k.self.stood c.args.self.now.positions c.loop-k.self.positions
    (world_in (λ b. (g.dyn-1.0.entry b.vtable).1) c.loop-k.self.kernel) c.loop-k.invariant.stood c.loop-k.invariant.from (omega (arith, c.loop-k-test.true)) c.loop-k.invariant.going c.loop-k.invariant.stored)

pub returns-in_err-missing-clause-until : goal.returns-in_err-missing-clause-until
returns-in_err-missing-clause-until g c =
    on_err c.from_residual.result
    (executed_until g.C.Catalogue.behaviour g.A.Answers.answers g.W.Observer.told (world_in (λ b. (g.dyn-1.0.entry b.vtable).1) c.args.self.now.kernel).count c.loop-k._k c.args.observer.now c.loop-k.observer c.loop-k.self.stood c.loop-k.invariant.stood c.loop-k.invariant.told)

pub returns-in_err-over-clause-until : goal.returns-in_err-over-clause-until
returns-in_err-over-clause-until g c =
    on_err c.from_residual-in_err-over.result
    (executed_until g.C.Catalogue.behaviour g.A.Answers.answers g.W.Observer.told (world_in (λ b. (g.dyn-1.0.entry b.vtable).1) c.args.self.now.kernel).count c.loop-k._k c.args.observer.now c.loop-k.observer c.loop-k.self.stood c.loop-k.invariant.stood c.loop-k.invariant.told)

-- ---- it is over

pub returns-in-Some-over-clause-good : goal.returns-in-Some-over-clause-good
returns-in-Some-over-clause-good g c =
    good_on g.C.Catalogue.behaviour g.A.Answers.answers (world_in (λ b. (g.dyn-1.0.entry b.vtable).1) c.loop-k.self.kernel) (world_in (λ b. (g.dyn-1.0.entry b.vtable).1) c.step.new.self)
    c.loop-k.self.positions.stored c.step.ensures.grown c.loop-k.invariant.good

pub returns-in-Some-over-clause-ran : goal.returns-in-Some-over-clause-ran
returns-in-Some-over-clause-ran g c =
    let b = g.C.Catalogue.behaviour in
    let m = g.A.Answers.answers in
    let k = c.loop-k._k in
    let w = world_in (λ b. (g.dyn-1.0.entry b.vtable).1) c.loop-k.self.kernel in
    let v = world_in (λ b. (g.dyn-1.0.entry b.vtable).1) c.step.new.self in
    let over = next_after b m _ _ k c.loop-k.invariant.going (rw c.in-Some-over.is at c.in_ok-over.ensures.step) in
    record {
      none = c.loop-k.invariant.wait
          ∙ wait_none b m k c.args.limit w (supplied_in (λ b. (g.dyn-1.0.entry b.vtable).1) c.loop-k.self) (omega (arith, c.loop-k-test.true)) c.loop-k.invariant.going (sym c.in_ok-missing.ensures ∙ c.in_default.is)
          ∙ wait_over b m (suc k) (c.args.limit - suc k) v c.in-Some-over.outcome [] over;
      ran = record {
        room = c.in_ok-over.ensures.room;
        count = omega (arith, count_over b m _ c.in-Some-over.outcome (suc k) over);
        ran_is = run_over b m _ c.in-Some-over.outcome (suc k) c.args.limit (omega (arith, c.loop-k-test.true)) over;
      };
      gone = gone_over b m (world_in (λ b. (g.dyn-1.0.entry b.vtable).1) c.args.self.now.kernel).count k c.args.self.now.positions c.loop-k.self.positions w v c.in-Some-over.outcome c.loop-k.invariant.from c.loop-k.invariant.going
          (rw c.in-Some-over.is at c.in_ok-over.ensures.step) c.loop-k.invariant.stored;
    }

pub returns-in-Some-over-clause-told : goal.returns-in-Some-over-clause-told
returns-in-Some-over-clause-told g c =
    let b = g.C.Catalogue.behaviour in
    let m = g.A.Answers.answers in
    let k = c.loop-k._k in
    let w = world_in (λ b. (g.dyn-1.0.entry b.vtable).1) c.loop-k.self.kernel in
    let v = world_in (λ b. (g.dyn-1.0.entry b.vtable).1) c.step.new.self in
    told_up_to b m g.W.Observer.told (world_in (λ b. (g.dyn-1.0.entry b.vtable).1) c.args.self.now.kernel).count k _ c.args.observer.now c.loop-k.observer
    (sym (over_last b m k w v c.in-Some-over.outcome c.loop-k.invariant.going (rw c.in-Some-over.is at c.in_ok-over.ensures.step))) c.loop-k.invariant.told

-- ---- it goes on

pub keep_if-requires : goal.keep_if-requires
keep_if-requires g c =
    let k = c.loop-k._k in
    let v = world_in (λ b. (g.dyn-1.0.entry b.vtable).1) c.step.new.self in
    let going : Running v ≡ after g.C.Catalogue.behaviour g.A.Answers.answers (suc k) =
    next_after g.C.Catalogue.behaviour g.A.Answers.answers (world_in (λ b. (g.dyn-1.0.entry b.vtable).1) c.loop-k.self.kernel) (Running v) k c.loop-k.invariant.going (rw c.in_default-over.is at c.in_ok-over.ensures.step) in
    record {
      below = λ due. subst (λ n. AreBelow n c.loop-k.self.positions.stored) (sym (count_is g.C.Catalogue.behaviour g.A.Answers.answers (suc k) v going))
          (below_next (world_in (λ b. (g.dyn-1.0.entry b.vtable).1) c.args.self.now.kernel).count k c.args.self.now.positions c.loop-k.self.positions c.loop-k.invariant.from c.requires.going.below c.loop-k.invariant.stored);
    }

pub returns-in_err-keep_if-clause-begun : goal.returns-in_err-keep_if-clause-begun
returns-in_err-keep_if-clause-begun g c =
    let b = g.C.Catalogue.behaviour in
    let m = g.A.Answers.answers in
    let k = c.loop-k._k in
    let v = world_in (λ b. (g.dyn-1.0.entry b.vtable).1) c.step.new.self in
    let going : Running v ≡ after b m (suc k) =
    next_after b m (world_in (λ b. (g.dyn-1.0.entry b.vtable).1) c.loop-k.self.kernel) (Running v) k c.loop-k.invariant.going (rw c.in_default-over.is at c.in_ok-over.ensures.step) in
    on_err c.from_residual-in_err-keep_if.result
    (begun_untaken b m c.args.limit (world_in (λ b. (g.dyn-1.0.entry b.vtable).1) c.args.self.now.kernel).count k c.keep_if.new.self.stood c.args.self.now.positions c.keep_if.new.self.positions
    v (c.in_err-keep_if.ensures.untaken ∙ ap stood.Untaken (count_is b m (suc k) v going)) c.loop-k.invariant.from (omega (arith, c.loop-k-test.true)) c.requires.going.below going (ap counts_in c.in_err-keep_if.ensures.err ∙ c.loop-k.invariant.stored))

pub returns-in_err-keep_if-clause-good : goal.returns-in_err-keep_if-clause-good
returns-in_err-keep_if-clause-good g c =
    let good : AreGood g.C.Catalogue.behaviour g.A.Answers.answers (world_in (λ b. (g.dyn-1.0.entry b.vtable).1) c.step.new.self) c.loop-k.self.positions.stored =
    good_on g.C.Catalogue.behaviour g.A.Answers.answers (world_in (λ b. (g.dyn-1.0.entry b.vtable).1) c.loop-k.self.kernel) (world_in (λ b. (g.dyn-1.0.entry b.vtable).1) c.step.new.self)
    c.loop-k.self.positions.stored c.step.ensures.grown c.loop-k.invariant.good in
    subst (λ K. AreGood g.C.Catalogue.behaviour g.A.Answers.answers (world_in (λ b. (g.dyn-1.0.entry b.vtable).1) K) c.keep_if.new.self.positions.stored) (sym c.in_err-keep_if.ensures.kept)
    (subst (λ (t : Timeline Position). AreGood g.C.Catalogue.behaviour g.A.Answers.answers (world_in (λ b. (g.dyn-1.0.entry b.vtable).1) c.step.new.self) t.stored) (sym c.in_err-keep_if.ensures.err) good)

pub returns-in_err-keep_if-clause-until : goal.returns-in_err-keep_if-clause-until
returns-in_err-keep_if-clause-until g c =
    let b = g.C.Catalogue.behaviour in
    let m = g.A.Answers.answers in
    let k = c.loop-k._k in
    let from = (world_in (λ b. (g.dyn-1.0.entry b.vtable).1) c.args.self.now.kernel).count in
    let v = world_in (λ b. (g.dyn-1.0.entry b.vtable).1) c.step.new.self in
    let going : Running v ≡ after b m (suc k) =
    next_after b m (world_in (λ b. (g.dyn-1.0.entry b.vtable).1) c.loop-k.self.kernel) (Running v) k c.loop-k.invariant.going (rw c.in_default-over.is at c.in_ok-over.ensures.step) in
    on_err c.from_residual-in_err-keep_if.result
    (executed_untaken b m g.W.Observer.told from (suc k) c.args.observer.now c.tell.new.observer c.keep_if.new.self.stood (c.in_err-keep_if.ensures.untaken ∙ ap stood.Untaken (count_is b m (suc k) v going))
    (told_next b m g.W.Observer.told from k c.args.observer.now c.loop-k.observer c.tell.new.observer v c.loop-k.invariant.from going c.loop-k.invariant.told c.tell.ensures))

pub loop-k-preserved : goal.loop-k-preserved
loop-k-preserved g c =
    let b = g.C.Catalogue.behaviour in
    let m = g.A.Answers.answers in
    let k = c.loop-k._k in
    let begun = world_in (λ b. (g.dyn-1.0.entry b.vtable).1) c.args.self.now.kernel in
    let from = begun.count in
    let old = c.loop-k.self.positions in
    let new = c.keep_if.new.self.positions in
    let v = world_in (λ b. (g.dyn-1.0.entry b.vtable).1) c.step.new.self in
    let one : suc k ≡ k + 1 = omega arith in
    let going : Running v ≡ after b m (suc k) =
    next_after b m (world_in (λ b. (g.dyn-1.0.entry b.vtable).1) c.loop-k.self.kernel) (Running v) k c.loop-k.invariant.going (rw c.in_default-over.is at c.in_ok-over.ensures.step) in
    let count : v.count ≡ suc k = count_is b m (suc k) v going in
    let same = sym c.in_ok-keep_if.ensures.kept in
    let none : waiting_in (λ b. (g.dyn-1.0.entry b.vtable).1) c.keep_if.new.self ≡ [] = ap (seats_held (λ b. (g.dyn-1.0.entry b.vtable).1)) c.in_ok-keep_if.ensures.waiting ∙ c.in_ok-over.ensures.none in
    let none_left : supplied_in (λ b. (g.dyn-1.0.entry b.vtable).1) c.keep_if.new.self ≡ [] = ap parts_in none in
    let good : AreGood b m v old.stored =
    good_on b m (world_in (λ b. (g.dyn-1.0.entry b.vtable).1) c.loop-k.self.kernel) v old.stored c.step.ensures.grown c.loop-k.invariant.good in
    let due : c.is_multiple-due.result ≡ is_multiple old.interval (suc k) =
    c.is_multiple-due.ensures ∙ ap (λ x. is_multiple x c.count.result) c.interval.ensures.is ∙ ap (is_multiple old.interval) (c.count.ensures ∙ count) in
    record {
      going = subst (λ K. Running (world_in (λ b. (g.dyn-1.0.entry b.vtable).1) K) ≡ after b m (k + 1)) same (subst (λ n. Running v ≡ after b m n) one going);
      from = omega (arith, c.loop-k.invariant.from);
      room = subst (λ K. HasRoom (world_in (λ b. (g.dyn-1.0.entry b.vtable).1) K)) same c.in_ok-over.ensures.room;
      kinds = subst (λ K. HasKinds b (λ b. (g.dyn-1.0.entry b.vtable).1) K) same c.step.ensures.kinds;
      good = subst (λ K. AreGood b m (world_in (λ b. (g.dyn-1.0.entry b.vtable).1) K) new.stored) same
          (good_stored b m v c.is_multiple-due.result old new (λ _. going_at b m (suc k) v going) c.in_ok-over.ensures.room c.in_ok-keep_if.ensures.ok good);
      shown = subst (λ K. AreShown m (world_in (λ b. (g.dyn-1.0.entry b.vtable).1) K).records c.step.new.shown) same c.step.ensures.shown;
      first = first_none b (wanted m (world_in (λ b. (g.dyn-1.0.entry b.vtable).1) c.keep_if.new.self.kernel)) (waiting_in (λ b. (g.dyn-1.0.entry b.vtable).1) c.keep_if.new.self) none;
      left = none_left ∙ sym (later from (k + 1) (supplied_in (λ b. (g.dyn-1.0.entry b.vtable).1) c.args.self.now) (omega (arith, c.loop-k.invariant.from)));
      wait = c.loop-k.invariant.wait
          ∙ wait_none b m k c.args.limit (world_in (λ b. (g.dyn-1.0.entry b.vtable).1) c.loop-k.self.kernel) (supplied_in (λ b. (g.dyn-1.0.entry b.vtable).1) c.loop-k.self) (omega (arith, c.loop-k-test.true)) c.loop-k.invariant.going (sym c.in_ok-missing.ensures ∙ c.in_default.is)
          ∙ ap (λ n. first_wait b m n (c.args.limit - n) []) one
          ∙ ap (first_wait b m (k + 1) (c.args.limit - (k + 1))) (sym none_left);
      stood = c.in_ok-keep_if.ensures.stood ∙ ap stood.After (count ∙ one);
      stored = subst (λ n. StoredAt from c.args.self.now.positions new n) one
          (stored_next from k c.args.self.now.positions old new (position_of v) c.loop-k.invariant.from count (c.in_ok-keep_if.ensures.ok ∙ ap (λ t. taken_if t (position_of v) old) due) c.loop-k.invariant.stored);
      told = subst (λ n. AreTold g.W.Observer.told c.args.observer.now (executed_after b m from n) c.tell.new.observer) one
          (told_next b m g.W.Observer.told from k c.args.observer.now c.loop-k.observer c.tell.new.observer v c.loop-k.invariant.from going c.loop-k.invariant.told c.tell.ensures);
    }

pub returns-in_err-keep_if-clause-kinds : goal.returns-in_err-keep_if-clause-kinds
returns-in_err-keep_if-clause-kinds g c =
    subst (λ K. HasKinds g.C.Catalogue.behaviour (λ b. (g.dyn-1.0.entry b.vtable).1) K) (sym c.in_err-keep_if.ensures.kept) c.step.ensures.kinds

-- ---- up to its limit

pub returns-clause-ran : goal.returns-clause-ran
returns-clause-ran g c =
    let b = g.C.Catalogue.behaviour in
    let m = g.A.Answers.answers in
    let k = c.loop-k._k in
    let same : k ≡ c.args.limit = omega (arith, c.loop-k-test.false, c.loop-k.invariant.from, c.requires.going.within) in
    record {
      none = c.loop-k.invariant.wait ∙ wait_ends b m k c.args.limit (supplied_in (λ b. (g.dyn-1.0.entry b.vtable).1) c.loop-k.self) (omega (arith, same));
      ran = record {
        room = c.loop-k.invariant.room;
        count = omega (arith, count_going b m _ k c.loop-k.invariant.going);
        ran_is = sym (c.outcome_of-ended.ensures ∙ ap stopped c.loop-k.invariant.going ∙ ap (λ n. run_to b m n) same);
      };
      gone = gone_stopped b m (world_in (λ b. (g.dyn-1.0.entry b.vtable).1) c.args.self.now.kernel).count k c.args.self.now.positions c.loop-k.self.positions
          (world_in (λ b. (g.dyn-1.0.entry b.vtable).1) c.loop-k.self.kernel) c.outcome_of-ended.result c.loop-k.invariant.from c.loop-k.invariant.going c.outcome_of-ended.ensures c.loop-k.invariant.stored;
    }

pub returns-clause-told : goal.returns-clause-told
returns-clause-told g c =
    let b = g.C.Catalogue.behaviour in
    let m = g.A.Answers.answers in
    let k = c.loop-k._k in
    told_up_to b m g.W.Observer.told (world_in (λ b. (g.dyn-1.0.entry b.vtable).1) c.args.self.now.kernel).count k _ c.args.observer.now c.loop-k.observer
    (sym (stopped_last b m k (world_in (λ b. (g.dyn-1.0.entry b.vtable).1) c.loop-k.self.kernel) c.outcome_of-ended.result c.loop-k.invariant.going c.outcome_of-ended.ensures)) c.loop-k.invariant.told
