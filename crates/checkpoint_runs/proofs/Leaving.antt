-- What a run leaves of a start for one of whose modules there is no box.
use Rattle.std.proofs.Common.{◌≡◌, ℕ, zero, suc, ◌+◌, ◌-◌, ◌≤◌, ◌<◌, true, false, Bool, List, [], Option, Some, None, refl, sym, ap, ◌∙◌, subst, arith}
use Rattle.module_api.specs.Behaviour.{Behaviour}
use Rattle.model_questions.specs.Answers.{Answers}
use Rattle.run_semantics.specs.declared.outcome.Outcome.{Outcome}
use Rattle.run_semantics.specs.Perform.{Flow, On, Stopped, Broken, ◌>>=◌}
use Rattle.run_semantics.specs.Run.{Part, Ran, Stage, Running, Over, after, first_unknown, is_fault, needs_of, next_stage, prepared, run_to, settled, start, start_all, stopped, unstarted, wanted, world_at}
use Rattle.run_semantics.specs.World.{World}
use Rattle.run_semantics.proofs.Counts.{start_count}
use Rattle.run_semantics.proofs.Ends.{run_over}
use Rattle.run_semantics.proofs.Fitting.{fits_after}
use Rattle.run_semantics.proofs.Growth.{Fits}
use Rattle.kernel.specs.declared.request.Request.{Request}
use Rattle.kernel.specs.Seats.{needs, AreFresh}
use Rattle.kernel.specs.Starts.{wanted_of, AreFirstOf}
use Rattle.kernel.proofs.Waiting.{fresh_known}
use Rattle.kernel_boxes.specs.Seats.{BoxAt}
use Rattle.checkpoint_runs.specs.Running.{first_wait, known_first, left_of_start, left_unless, needed_by_setup, needed_in, needed_next, parts_in, supplied_left, wait_or, wanted_next, IsRefused}
use Rattle.checkpoint_runs.proofs.Going.{count_is, over_counts}
use Rattle.checkpoint_runs.proofs.Pausing.{first_ready, refused_boxes, refused_ends, start_ends, unknown_ends, EndsInFault}

-- ---- an event after which the run goes on had its boxes

known_start : (b : Behaviour) (m : Answers) (w : World) (fl : Flow) → Running w ≡ settled (fl >>= start_all b m) → first_unknown b (needed_by_setup fl) ≡ None
known_start b m w (Stopped v) e = refl
known_start b m w (Broken v path f) e = refl
known_start b m w (On v) e = by (first_unknown b (needs v)) refl
  where
    by : (o : Option Part) → first_unknown b (needs v) ≡ o → first_unknown b (needs v) ≡ None
    by None q = q
    by (Some p) q = absurd (subst EndsInFault (sym e) (start_ends b m (unstarted v) 1 v p q))

known_after : (b : Behaviour) (m : Answers) (w : World) (s : Stage) → Running w ≡ next_stage b m s → first_unknown b (needed_next m s) ≡ None
known_after b m w (Over v outcome) e = refl
known_after b m w (Running v) e = by (first_unknown b (wanted m v)) refl
  where
    by : (o : Option Part) → first_unknown b (wanted m v) ≡ o → first_unknown b (wanted m v) ≡ None
    by None q = q
    by (Some p) q = absurd (subst EndsInFault (sym e) (unknown_ends b m v p q))

known_going : (b : Behaviour) (m : Answers) (k : ℕ) (w : World) → Running w ≡ after b m k → first_unknown b (needed_in b m k) ≡ None
known_going b m zero w e = known_start b m w (prepared m) e
known_going b m (suc k) w e = known_after b m w (after b m k) e

-- ---- and so had the last one, where none was wanted up to it

-- the event after that one is the last
known_last : (b : Behaviour) (m : Answers) (k : ℕ) (w v : World) (outcome : Outcome) → Running w ≡ after b m k → first_unknown b (wanted m w) ≡ None → Over v outcome ≡ next_stage b m (Running w) → first_unknown b (needed_in b m v.count) ≡ None
known_last b m k w v outcome going known e = by (is_fault outcome) refl
  where
    fits : Fits w
    fits = subst (λ s. Fits (world_at s)) (sym going) (fits_after b m k)

    by : (f : Bool) → is_fault outcome ≡ f → first_unknown b (needed_in b m v.count) ≡ None
    by true f =
        let one : v.count ≡ suc k = (over_counts b m w v outcome fits e).0 f ∙ ap suc (count_is b m k w going) in
        subst (λ n. first_unknown b (needed_in b m n) ≡ None) (sym one) (subst (λ s. first_unknown b (needed_next m s) ≡ None) going known)
    by false f =
        let same : v.count ≡ k = ap (λ (x : World). x.count) ((over_counts b m w v outcome fits e).1 f) ∙ count_is b m k w going in
        subst (λ n. first_unknown b (needed_in b m n) ≡ None) (sym same) (known_going b m k w going)

none_first : (k : ℕ) (o : Option Request) (later : Option (ℕ × Request)) → wait_or k o later ≡ None → (o ≡ None) × (later ≡ None)
none_first k None later e = (refl, e)
none_first k (Some request) later e = cc

-- a run that goes on from there, of which no event up to the limit wants a box that it hasn't
pub known_through : (b : Behaviour) (m : Answers) (limit more k : ℕ) (w : World) (xs : List BoxAt) → limit ≡ more + k → Running w ≡ after b m k → AreFirstOf b (wanted m w) xs → first_wait b m k more (parts_in xs) ≡ None
    → first_unknown b (needed_in b m (run_to b m limit).world.count) ≡ None
known_through b m limit zero k w xs e going first none =
    let here : limit ≡ k = omega (arith, e) in
    let count : (run_to b m limit).world.count ≡ k = ap (λ n. (run_to b m n).world.count) here ∙ ap (λ s. (stopped s).world.count) (sym going) ∙ count_is b m k w going in
    subst (λ n. first_unknown b (needed_in b m n) ≡ None) (sym count) (known_going b m k w going)
known_through b m limit (suc more) k w xs e going first none = by (λ v at. known_through b m limit more (suc k) v [] (omega (arith, e)) at tt both.1) (next_stage b m (Running w)) refl
  where
    both : (wanted_next m (after b m k) (parts_in xs) ≡ None) × (first_wait b m (suc k) more [] ≡ None)
    both = none_first k (wanted_next m (after b m k) (parts_in xs)) (first_wait b m (suc k) more []) none

    known : first_unknown b (wanted m w) ≡ None
    known = fresh_known b (wanted m w) xs (first_ready b m w xs first (subst (λ s. wanted_next m s (parts_in xs) ≡ None) (sym going) both.0))

    by : ((v : World) → Running v ≡ after b m (suc k) → first_unknown b (needed_in b m (run_to b m limit).world.count) ≡ None) → (s : Stage) → s ≡ next_stage b m (Running w) → first_unknown b (needed_in b m (run_to b m limit).world.count) ≡ None
    by onwards (Running v) at = onwards v (at ∙ ap (next_stage b m) going)
    by onwards (Over v outcome) at =
        subst (λ (r : Ran). first_unknown b (needed_in b m r.world.count) ≡ None)
        (sym (run_over b m v outcome (suc k) limit (omega (arith, e)) (at ∙ ap (next_stage b m) going)))
        (known_last b m k w v outcome going known at)

pub going_from : (b : Behaviour) (m : Answers) (k : ℕ) (w : World) → w.count ≡ k → Running w ≡ after b m w.count → Running w ≡ after b m k
going_from b m k w e going = subst (λ n. Running w ≡ after b m n) e going

-- one that was started, whose modules had their boxes
pub known_started : (b : Behaviour) (m : Answers) (limit : ℕ) → first_unknown b (needed_in b m 0) ≡ None → first_wait b m 0 limit [] ≡ None → first_unknown b (needed_in b m (run_to b m limit).world.count) ≡ None
known_started b m limit known none = by (start b m) refl
  where
    by : (s : Stage) → s ≡ start b m → first_unknown b (needed_in b m (run_to b m limit).world.count) ≡ None
    by (Running v) at = known_through b m limit limit 0 v [] (omega arith) at tt none
    by (Over v outcome) at =
        let count : (run_to b m limit).world.count ≡ 0 = ap (λ (r : Ran). r.world.count) (run_over b m v outcome 0 limit (omega arith) at) ∙ ap (λ s. (world_at s).count) at ∙ start_count b m in
        subst (λ n. first_unknown b (needed_in b m n) ≡ None) (sym count) known

-- then none of their boxes is left
pub none_left : (b : Behaviour) (m : Answers) (limit : ℕ) (xs : List BoxAt) → xs ≡ [] → first_unknown b (needed_in b m (run_to b m limit).world.count) ≡ None → parts_in xs ≡ supplied_left b m limit
none_left b m limit xs none known = ap parts_in none ∙ ap (λ o. left_unless o (known_first b (needed_in b m (run_to b m limit).world.count))) (sym known)

-- ---- where a box was declined, those that were supplied are left

pub setup_left : (b : Behaviour) (m : Answers) (limit : ℕ) (w : World) (xs : List BoxAt) (outcome : Outcome) → Over w outcome ≡ start b m → parts_in xs ≡ left_of_start b (needed_by_setup (prepared m)) → parts_in xs ≡ supplied_left b m limit
setup_left b m limit w xs outcome over boxes =
    let count : (run_to b m limit).world.count ≡ 0 = ap (λ (r : Ran). r.world.count) (run_over b m w outcome 0 limit (omega arith) over) ∙ ap (λ s. (world_at s).count) over ∙ start_count b m in
    boxes ∙ ap (λ n. left_of_start b (needed_in b m n)) (sym count)

refused_count : (b : Behaviour) (m : Answers) (limit k : ℕ) (w : World) (s : Stage) → Fits w → w.count ≡ k → k < limit → EndsInFault s → s ≡ next_stage b m (Running w) → s ≡ after b m (suc k) → (run_to b m limit).world.count ≡ suc k
refused_count b m limit k w (Running v) fits at less ends next there = absurd ends
refused_count b m limit k w (Over v outcome) fits at less ends next there =
    ap (λ (r : Ran). r.world.count) (run_over b m v outcome (suc k) limit (omega (arith, less)) there) ∙ (over_counts b m w v outcome fits next).0 ends ∙ ap suc at

pub refused_left_boxes : (b : Behaviour) (m : Answers) (limit k : ℕ) (w : World) (xs ys : List BoxAt) → Running w ≡ after b m k → k < limit → AreFirstOf b (wanted m w) xs → IsRefused b m w xs → ys ≡ xs → parts_in ys ≡ supplied_left b m limit
refused_left_boxes b m limit k w xs ys going less first refused same =
    let count = refused_count b m limit k w (next_stage b m (Running w)) (subst (λ s. Fits (world_at s)) (sym going) (fits_after b m k)) (count_is b m k w going) less (refused_ends b m w xs first refused) refl (ap (next_stage b m) going) in
    ap parts_in same
    ∙ refused_boxes b m w xs first refused
    ∙ ap (λ s. left_of_start b (needed_next m s)) going
    ∙ ap (λ n. left_of_start b (needed_in b m n)) (sym count)
