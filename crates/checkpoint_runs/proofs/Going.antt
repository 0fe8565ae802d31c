-- A run goes on, and leaves its positions.
use Rattle.std.proofs.Common.{◌≡◌, ⊎_elim, eq-or-lt_of_le, ℕ, zero, suc, ◌==◌, ◌+◌, ◌-◌, ◌≤◌, ◌<◌, ◌&&◌, not, Bool, true, false, List, [], ◌∷◌, refl, sym, ap, ◌∙◌, arith, subst, if◌then◌else◌}
use Rattle.std.proofs.lemmas.Bool.Decides.{nat_tests}
use Rattle.checkpoints.specs.Stored.{counts_in, counts_of, ends_at, is_multiple, with_count, AreBelow, AreRising, Timeline}
use Rattle.kernel_actions.specs.declared.position.Position.{Position}
use Rattle.module_api.specs.Behaviour.{Behaviour}
use Rattle.model_questions.specs.Answers.{Answers}
use Rattle.run_semantics.specs.declared.outcome.Outcome.{Outcome}
use Rattle.run_semantics.specs.declared.outcome.Outcome.TheVariants.{Ended, EventLimit, TimeLimit}
use Rattle.run_semantics.specs.Event.{event}
use Rattle.run_semantics.specs.Perform.{Flow, On, Stopped, Broken}
use Rattle.run_semantics.specs.Run.{Stage, Running, Over, Ran, after, stopped, run_to, settled, next_stage, went, world_at, is_fault, is_after_limit}
use Rattle.run_semantics.specs.Upcoming.{Upcoming, Comes, Nothing, upcoming}
use Rattle.run_semantics.specs.World.{World}
use Rattle.run_semantics.proofs.Counts.{event_count, runs_on, upcoming_count}
use Rattle.run_semantics.proofs.Sound.{in_flow}
use Rattle.run_semantics.proofs.Looking.{beside, HasLooked, upcoming_looks}
use Rattle.run_semantics.proofs.Fitting.{fits_after, fits_looked}
use Rattle.run_semantics.proofs.Growth.{Fits}
use Rattle.checkpoint_runs.specs.Kept.{is_owed, taken_if, HasGoneOn}
use Rattle.checkpoint_runs.specs.declared.phases.Stood.{Stood}
use Rattle.checkpoint_runs.specs.declared.phases.Stood.TheVariants as stood
use Rattle.checkpoint_runs.specs.Positions.{behind, lasting, numbers_from, passed, with_last, CanGoOn, HasBegun, HasLeft}
use Rattle.checkpoint_runs.proofs.Whole.{run_within}
use Rattle.checkpoint_runs.proofs.Counting.{behind_next, ends_below, of_counts, one_stored, passed_not, stored_below, to_counts, Below}

-- ---- how many events are counted where a run is over

false_true : false ≡ true → ⊥
false_true e = cc

-- an event that ended in a fault is counted; where none began the world is as it was
abbrev Counts : World → Stage → Type 0
Counts w (Running v) = Unit {0}
Counts w (Over v outcome) = (is_fault outcome ≡ true → v.count ≡ suc w.count) × (is_fault outcome ≡ false → v ≡ w)

either_counts : (w : World) (c : Bool) (s t : Stage) → Counts w s → Counts w t → Counts w (if c then s else t)
either_counts w true s t h g = h
either_counts w false s t h g = g

settled_counts : (w : World) (fl : Flow) → (in_flow fl).count ≡ suc w.count → Counts w (settled fl)
settled_counts w (On v) e = tt
settled_counts w (Stopped v) e = tt
settled_counts w (Broken v path f) e = (λ _. e, λ t. absurd (false_true (sym t)))

went_counts : (b : Behaviour) (m : Answers) (w : World) (up : Upcoming) → HasLooked w (beside up) → Fits w → (beside up).count ≡ w.count → Counts w (went b m w up)
went_counts b m w (Nothing u) looked f e = (λ t. absurd (false_true t), λ _. refl)
went_counts b m w (Comes u p rest) looked f e =
    either_counts w (is_after_limit m u.records p) (Over w TimeLimit) (settled (event b m p rest u)) (λ t. absurd (false_true t), λ _. refl)
    (settled_counts w (event b m p rest u) (let c = event_count b m p rest u (fits_looked w u looked f) in omega (arith, c, e)))

next_counts : (b : Behaviour) (m : Answers) (w : World) → Fits w → Counts w (next_stage b m (Running w))
next_counts b m w f = either_counts w w.ended (Over w Ended) (went b m w (upcoming m w)) (λ t. absurd (false_true t), λ _. refl) (went_counts b m w (upcoming m w) (upcoming_looks m w) f (upcoming_count m w))

pub over_counts : (b : Behaviour) (m : Answers) (w v : World) (outcome : Outcome) → Fits w → Over v outcome ≡ next_stage b m (Running w) → Counts w (Over v outcome)
over_counts b m w v outcome f e = subst (Counts w) (sym e) (next_counts b m w f)

-- the count of a run that goes on
pub count_is : (b : Behaviour) (m : Answers) (k : ℕ) (w : World) → Running w ≡ after b m k → w.count ≡ k
count_is b m k w e = runs_on b m k w (sym e)

pub going_at : (b : Behaviour) (m : Answers) (k : ℕ) (w : World) → Running w ≡ after b m k → Running w ≡ after b m w.count
going_at b m k w e = subst (λ n. Running w ≡ after b m n) (sym (count_is b m k w e)) e

-- ---- how far a run comes that goes on

stops_without : (w : World) (outcome : Outcome) (c : Bool) → outcome ≡ (if c then Ended else EventLimit) → is_fault outcome ≡ false
stops_without w outcome true e = ap is_fault e
stops_without w outcome false e = ap is_fault e

-- a run that goes on after so many events has as many in the end, and one more where that is a fault
abbrev pub AtLeast : ℕ → Stage → Type 0
AtLeast k (Running w) = k ≤ w.count
AtLeast k (Over w outcome) = (k ≤ w.count) × (is_fault outcome ≡ true → k < w.count)

over_least : (k n : ℕ) (u v : World) (f : Bool) → k ≤ n → u.count ≡ n → (f ≡ true → v.count ≡ suc u.count) → (f ≡ false → v ≡ u) → (k ≤ v.count) × (f ≡ true → k < v.count)
over_least k n u v true l c h g = let e = h refl in (omega (arith, l, c, e), λ t. omega (arith, l, c, e))
over_least k n u v false l c h g = let e = ap (λ (x : World). x.count) (g refl) in (omega (arith, l, c, e), λ t. absurd (false_true t))

least_next : (b : Behaviour) (m : Answers) (k n : ℕ) (s : Stage) → after b m n ≡ s → k ≤ n → AtLeast k s → AtLeast k (next_stage b m s)
least_next b m k n (Over v outcome) e l h = h
least_next b m k n (Running u) e l h = by (next_stage b m (Running u)) refl
  where
    at : u.count ≡ n
    at = count_is b m n u (sym e)

    fits : Fits u
    fits = subst (λ s. Fits (world_at s)) e (fits_after b m n)

    by : (s : Stage) → next_stage b m (Running u) ≡ s → AtLeast k s
    by (Running v) f = let c = count_is b m (suc n) v (sym (ap (next_stage b m) e ∙ f)) in omega (arith, c, l)
    by (Over v outcome) f = let c = over_counts b m u v outcome fits (sym f) in over_least k n u v (is_fault outcome) l at c.0 c.1

at_least : (b : Behaviour) (m : Answers) (k : ℕ) (w : World) → Running w ≡ after b m k → (n : ℕ) → k ≤ n → AtLeast k (after b m n)
at_least b m k w going zero l = let e : k ≡ 0 = omega (arith, l) in subst (λ n. AtLeast k (after b m n)) e (subst (AtLeast k) going (let c = count_is b m k w going in omega (arith, c)))
at_least b m k w going (suc n) l =
    ⊎_elim
    (λ (e : k ≡ suc n). subst (λ n. AtLeast k (after b m n)) e (subst (AtLeast k) going (let c = count_is b m k w going in omega (arith, c))))
    (λ (g : k < suc n). let h : k ≤ n = omega (arith, g) in least_next b m k n (after b m n) refl h (at_least b m k w going n h))
    (eq-or-lt_of_le l)

stopped_least : (k : ℕ) (s : Stage) → AtLeast k s → (k ≤ (stopped s).world.count) × (is_fault (stopped s).outcome ≡ true → k < (stopped s).world.count)
stopped_least k (Running w) h = (h, λ t. absurd (false_true (sym (stops_without w (stopped (Running w)).outcome w.ended refl) ∙ t)))
stopped_least k (Over w outcome) h = h

pub run_least : (b : Behaviour) (m : Answers) (limit k : ℕ) → CanGoOn b m k → k ≤ limit → (k ≤ (run_to b m limit).world.count) × (is_fault (run_to b m limit).outcome ≡ true → k < (run_to b m limit).world.count)
run_least b m limit k going l = stopped_least k (after b m limit) (at_least b m k going.0 going.1 limit l)

-- ---- one event more

-- what is stored, after so many events
abbrev pub StoredAt : ℕ → Timeline Position → Timeline Position → ℕ → Type 0
StoredAt from before t k = counts_in t ≡ behind is_multiple (counts_in before) (numbers_from (suc from) (k - from))

pub stored_first : (from : ℕ) (t : Timeline Position) → StoredAt from t t from
stored_first from t = let z : from - from ≡ 0 = omega arith in rw z refl

pub stored_next : (from k : ℕ) (before old new : Timeline Position) (p : Position) → from ≤ k → p.count ≡ suc k → new ≡ taken_if (is_multiple old.interval (suc k)) p old → StoredAt from before old k → StoredAt from before new (suc k)
stored_next from k before old new p l c e h =
    let d : suc k - from ≡ suc (k - from) = omega (arith, l) in
    let n : suc from + (k - from) ≡ suc k = omega (arith, l) in
    one_stored (is_multiple old.interval (suc k)) p old new e
    ∙ ap (λ x. if is_multiple old.interval (suc k) then with_count x (counts_in old) else counts_in old) c
    ∙ ap (λ t. passed is_multiple t (suc k)) h
    ∙ ap (λ x. passed is_multiple (behind is_multiple (counts_in before) (numbers_from (suc from) (k - from))) x) (sym n)
    ∙ sym (behind_next is_multiple (counts_in before) (suc from) (k - from))
    ∙ ap (λ x. behind is_multiple (counts_in before) (numbers_from (suc from) x)) (sym d)

-- ---- counts below

stored_within : (from k n : ℕ) (before t : Timeline Position) → from ≤ k → suc k ≤ n → AreBelow (suc from) before.stored → StoredAt from before t k → AreBelow n t.stored
stored_within from k n before t l s b h =
    of_counts n t.stored (subst (λ (u : Timeline ℕ). Below n u.stored) (sym h) (stored_below from (k - from) n (counts_in before) (omega (arith, l, s)) (to_counts (suc from) before.stored b)))

-- one more may be stored after them
pub below_next : (from k : ℕ) (before t : Timeline Position) → from ≤ k → AreBelow (suc from) before.stored → StoredAt from before t k → AreBelow (suc k) t.stored
below_next from k before t l b h = stored_within from k (suc k) before t l (omega arith) b h

-- ---- how a run came to its end

lasting_at : (f : Bool) (c k : ℕ) → (f ≡ true → c ≡ suc k) → (f ≡ false → c ≡ k) → lasting f c ≡ k
lasting_at true c k h g = let e = h refl in omega (arith, e)
lasting_at false c k h g = g refl

grew_at : (f : Bool) (c k from : ℕ) → from ≤ k → (f ≡ true → c ≡ suc k) → (f ≡ false → c ≡ k) → from ≤ c
grew_at true c k from l h g = let e = h refl in omega (arith, e, l)
grew_at false c k from l h g = let e = g refl in omega (arith, e, l)

pub gone_over : (b : Behaviour) (m : Answers) (from k : ℕ) (before t : Timeline Position) (w v : World) (outcome : Outcome) → from ≤ k → Running w ≡ after b m k → Over v outcome ≡ next_stage b m (Running w)
    → StoredAt from before t k → HasGoneOn b m from before t v outcome
gone_over b m from k before t w v outcome l going over h =
    let at : w.count ≡ k = count_is b m k w going in
    let fits : Fits w = subst (λ s. Fits (world_at s)) (sym going) (fits_after b m k) in
    let c : Counts w (Over v outcome) = over_counts b m w v outcome fits over in
    let fault : is_fault outcome ≡ true → v.count ≡ suc k = λ e. c.0 e ∙ ap suc at in
    let none : is_fault outcome ≡ false → v.count ≡ k = λ e. ap (λ (x : World). x.count) (c.1 e) ∙ at in
    record {
      grew = grew_at (is_fault outcome) v.count k from l fault none;
      faulted = λ f. let e = fault f in omega (arith, e, l);
      lasts = λ f. subst (λ (x : World). Running x ≡ after b m x.count) (sym (c.1 f)) (going_at b m k w going);
      counts = subst (λ n. counts_in t ≡ behind is_multiple (counts_in before) (numbers_from (suc from) (n - from))) (sym (lasting_at (is_fault outcome) v.count k fault none)) h;
    }

pub gone_stopped : (b : Behaviour) (m : Answers) (from k : ℕ) (before t : Timeline Position) (w : World) (outcome : Outcome) → from ≤ k → Running w ≡ after b m k → record { world = w; outcome = outcome } ≡ stopped (Running w)
    → StoredAt from before t k → HasGoneOn b m from before t w outcome
gone_stopped b m from k before t w outcome l going e h =
    let at : w.count ≡ k = count_is b m k w going in
    let f : is_fault outcome ≡ false = stops_without w outcome w.ended (ap (λ (r : Ran). r.outcome) e) in
    record {
      grew = omega (arith, at, l);
      faulted = λ g. absurd (false_true (sym f ∙ g));
      lasts = λ g. going_at b m k w going;
      counts = rw f (subst (λ n. counts_in t ≡ behind is_multiple (counts_in before) (numbers_from (suc from) (n - from))) (sym at) h);
    }

-- the last event that did not end in a fault
pub over_last : (b : Behaviour) (m : Answers) (k : ℕ) (w v : World) (outcome : Outcome) → Running w ≡ after b m k → Over v outcome ≡ next_stage b m (Running w) → lasting (is_fault outcome) v.count ≡ k
over_last b m k w v outcome going over =
    let at : w.count ≡ k = count_is b m k w going in
    let fits : Fits w = subst (λ s. Fits (world_at s)) (sym going) (fits_after b m k) in
    let c : Counts w (Over v outcome) = over_counts b m w v outcome fits over in
    lasting_at (is_fault outcome) v.count k (λ e. c.0 e ∙ ap suc at) (λ e. ap (λ (x : World). x.count) (c.1 e) ∙ at)

pub stopped_last : (b : Behaviour) (m : Answers) (k : ℕ) (w : World) (outcome : Outcome) → Running w ≡ after b m k → record { world = w; outcome = outcome } ≡ stopped (Running w) → lasting (is_fault outcome) w.count ≡ k
stopped_last b m k w outcome going e =
    ap (λ (f : Bool). lasting f w.count) (stops_without w outcome w.ended (ap (λ (r : Ran). r.outcome) e)) ∙ count_is b m k w going

-- ---- and what it leaves

-- an event could not be executed
pub begun_after : (b : Behaviour) (m : Answers) (limit from k : ℕ) (at : Stood) (before t : Timeline Position) (w : World) → at ≡ stood.After k → from ≤ k → k ≤ limit → Running w ≡ after b m k → StoredAt from before t k → HasBegun b m limit from (counts_in before) at (counts_in t)
begun_after b m limit from k at before t w e l few going h =
    subst (λ (x : Stood). HasBegun b m limit from (counts_in before) x (counts_in t)) (sym e) (record { going = (w, going); limited = few; grew = l; counts = h })

-- the position after an event could not be taken
pub begun_untaken : (b : Behaviour) (m : Answers) (limit from k : ℕ) (at : Stood) (before t : Timeline Position) (w : World) → at ≡ stood.Untaken (suc k) → from ≤ k → suc k ≤ limit → AreBelow (suc from) before.stored → Running w ≡ after b m (suc k) → StoredAt from before t k
    → HasBegun b m limit from (counts_in before) at (counts_in t)
begun_untaken b m limit from k at before t w e l few below going h =
    let d : k - from ≡ suc k - suc from = omega arith in
    subst (λ (x : Stood). HasBegun b m limit from (counts_in before) x (counts_in t)) (sym e) (
      record { going = (w, going); limited = few; grew = omega (arith, l); counts = h ∙ ap (λ n. behind is_multiple (counts_in before) (numbers_from (suc from) n)) d },
      ends_below (suc k) (counts_of t.stored) (to_counts (suc k) t.stored (below_next from k before t l below h)),
    )

-- what a run leaves that came to its end
pub left_gone : (b : Behaviour) (m : Answers) (limit from : ℕ) (before mid new : Timeline Position) (w : World) (outcome : Outcome) (p : Position) → run_to b m limit ≡ record { world = w; outcome = outcome }
    → HasGoneOn b m from before mid w outcome → p.count ≡ w.count → new ≡ taken_if (is_owed (is_fault outcome) w.count (counts_of mid.stored)) p mid → HasLeft from (counts_in before) (counts_in new) (run_to b m limit)
left_gone b m limit from before mid new w outcome p ran g c e =
    let f : Bool = is_fault outcome in
    let last : ℕ = w.count in
    subst (λ (r : Ran). HasLeft from (counts_in before) (counts_in new) r) (sym ran) (record {
      grew = g.grew;
      faulted = g.faulted;
      counts =
          one_stored (is_owed f last (counts_of mid.stored)) p mid new e
          ∙ ap (λ n. if is_owed f last (counts_of mid.stored) then with_count n (counts_in mid) else counts_in mid) c
          ∙ ap (with_last last f) g.counts;
    })

not_is : (f : Bool) → not f ≡ true → f ≡ false
not_is true e = absurd (false_true e)
not_is false e = refl

-- where a position is owed the run could go on
not_both : (s t : Bool) → s && t ≡ true → s ≡ true
not_both true t e = refl
not_both false t e = absurd (false_true e)

pub owed_lasts : (b : Behaviour) (m : Answers) (from : ℕ) (before t : Timeline Position) (w : World) (outcome : Outcome) → HasGoneOn b m from before t w outcome
    → is_owed (is_fault outcome) w.count (counts_of t.stored) ≡ true → Running w ≡ after b m w.count
owed_lasts b m from before t w outcome g owed =
    g.lasts (not_is (is_fault outcome) (not_both (not (is_fault outcome)) (not (ends_at w.count (counts_of t.stored))) owed))

pub owed_is_no_fault : (f : Bool) (last : ℕ) (counts : List ℕ) → is_owed f last counts ≡ true → f ≡ false
owed_is_no_fault f last counts owed = not_is f (not_both (not f) (not (ends_at last counts)) owed)

-- a position that is owed is not stored yet
and_true : (s t : Bool) → s && t ≡ true → (s ≡ true) × (t ≡ true)
and_true true t e = (refl, e)
and_true false t e = absurd (false_true e)

-- none was taken after that event
pub record IsOwedAt (from last : ℕ) (before t : Timeline Position) : Type 0 where
  pub none : ends_at last (counts_of t.stored) ≡ false
  pub counts : counts_in t ≡ behind is_multiple (counts_in before) (numbers_from (suc from) (last - suc from))

-- where it went on from there none was taken since
no_more : (from last : ℕ) (before t : Timeline Position) → from ≡ last → counts_in t ≡ behind is_multiple (counts_in before) (numbers_from (suc from) (last - from))
    → counts_in t ≡ behind is_multiple (counts_in before) (numbers_from (suc from) (last - suc from))
no_more from last before t e h = let z : last - from ≡ last - suc from = omega (arith, e) in h ∙ ap (λ n. behind is_multiple (counts_in before) (numbers_from (suc from) n)) z

-- else the one of the last event was not due
not_due : (from last : ℕ) (before t : Timeline Position) → from < last → ends_at last (counts_of t.stored) ≡ false → counts_in t ≡ behind is_multiple (counts_in before) (numbers_from (suc from) (last - from))
    → counts_in t ≡ behind is_multiple (counts_in before) (numbers_from (suc from) (last - suc from))
not_due from last before t l none all =
    let d : last - from ≡ suc (last - suc from) = omega (arith, l) in
    let n : suc from + (last - suc from) ≡ last = omega (arith, l) in
    let u : Timeline ℕ = behind is_multiple (counts_in before) (numbers_from (suc from) (last - suc from)) in
    let is : counts_in t ≡ passed is_multiple u last =
    all ∙ ap (λ k. behind is_multiple (counts_in before) (numbers_from (suc from) k)) d ∙ behind_next is_multiple (counts_in before) (suc from) (last - suc from)
    ∙ ap (passed is_multiple u) n in
    is ∙ passed_not last u (ap (λ (x : Timeline ℕ). ends_at last x.stored) (sym is) ∙ none)

pub owed_at : (b : Behaviour) (m : Answers) (from : ℕ) (before t : Timeline Position) (w : World) (outcome : Outcome) → HasGoneOn b m from before t w outcome
    → is_owed (is_fault outcome) w.count (counts_of t.stored) ≡ true → IsOwedAt from w.count before t
owed_at b m from before t w outcome g owed =
    let last : ℕ = w.count in
    let one = and_true (not (is_fault outcome)) (not (ends_at last (counts_of t.stored))) owed in
    let none : ends_at last (counts_of t.stored) ≡ false = not_is (ends_at last (counts_of t.stored)) one.1 in
    let f : is_fault outcome ≡ false = not_is (is_fault outcome) one.0 in
    let all : counts_in t ≡ behind is_multiple (counts_in before) (numbers_from (suc from) (last - from)) = rw f at g.counts in
    record {
      none = none;
      counts = ⊎_elim (λ (e : from ≡ last). no_more from last before t e all) (λ (l : from < last). not_due from last before t l none all) (eq-or-lt_of_le g.grew);
    }

-- so all that are stored are of smaller counts
less_unless : (n k : ℕ) → n < suc k → (n == k) ≡ false → n < k
less_unless n k l e = grind (arith, nat_tests)

below_unless : (n : ℕ) (ps : List Position) → AreRising ps → AreBelow (suc n) ps → ends_at n (counts_of ps) ≡ false → AreBelow n ps
below_unless n [] r h e = tt
below_unless n (p ∷ []) r h e = (less_unless p.count n h.0 e, tt)
below_unless n (p ∷ q ∷ qs) r h e =
    let rest = below_unless n (q ∷ qs) r.1 h.1 e in
    (let a = r.0.0 in let c = rest.0 in omega (arith, a, c), rest)

pub owed_below : (b : Behaviour) (m : Answers) (from : ℕ) (before t : Timeline Position) (w : World) (outcome : Outcome) → AreBelow (suc from) before.stored → AreRising t.stored → HasGoneOn b m from before t w outcome
    → is_owed (is_fault outcome) w.count (counts_of t.stored) ≡ true → AreBelow w.count t.stored
owed_below b m from before t w outcome below rising g owed =
    let last : ℕ = w.count in
    let one = and_true (not (is_fault outcome)) (not (ends_at last (counts_of t.stored))) owed in
    let none : ends_at last (counts_of t.stored) ≡ false = not_is (ends_at last (counts_of t.stored)) one.1 in
    let f : is_fault outcome ≡ false = not_is (is_fault outcome) one.0 in
    let all : StoredAt from before t last = rw f at g.counts in
    below_unless last t.stored rising (stored_within from last (suc last) before t g.grew (omega arith) below all) none

-- the position after the last event could not be taken
pub begun_owed : (b : Behaviour) (m : Answers) (limit from : ℕ) (at : Stood) (before mid t : Timeline Position) (w : World) (outcome : Outcome) → at ≡ stood.Untaken w.count → run_to b m limit ≡ record { world = w; outcome = outcome }
    → HasGoneOn b m from before mid w outcome → is_owed (is_fault outcome) w.count (counts_of mid.stored) ≡ true → t ≡ mid → HasBegun b m limit from (counts_in before) at (counts_in t)
begun_owed b m limit from at before mid t w outcome e ran g owed same =
    let here = owed_at b m from before mid w outcome g owed in
    let few : w.count ≤ limit = omega (arith, run_within b m limit, ap (λ (r : Ran). r.world.count) ran) in
    subst (λ (x : Stood). HasBegun b m limit from (counts_in before) x (counts_in t)) (sym e) (
      record { going = (w, owed_lasts b m from before mid w outcome g owed); limited = few; grew = g.grew; counts = ap counts_in same ∙ here.counts },
      ap (λ (x : Timeline Position). ends_at w.count (counts_of x.stored)) same ∙ here.none,
    )
