-- A run that waits before a start event, and gets its boxes one after the other.
use Rattle.std.proofs.Common.{◌≡◌, ℕ, zero, suc, ◌+◌, ◌-◌, ◌≤◌, ◌<◌, ◌==◌, Bool, true, false, List, [], ◌∷◌, ◌++◌, take, Some, None, option_map, refl, sym, ap, ◌∙◌, subst, arith, slice_get, length, map, if◌then◌else◌}
use Rattle.std.proofs.lemmas.Bool.Decides.{nat_tests}
use Rattle.event_set.specs.declared.pending.Happening.{Happening}
use Rattle.event_set.specs.declared.pending.Happening.TheVariants.{Arrival, Delivery, Start, Timer}
use Rattle.event_set.specs.declared.pending.Pending.{Pending}
use Rattle.module_api.specs.Behaviour.{Behaviour}
use Rattle.module_api.specs.Meaning.{Module, IsFresh}
use Rattle.model_questions.specs.Answers.{Answers}
use Rattle.run_semantics.specs.Event.{begun, event, happens}
use Rattle.run_semantics.specs.Perform.{◌>>=◌}
use Rattle.run_semantics.specs.Run.{Part, Stage, Running, Over, after, first_unknown, is_after_limit, is_fault, needs_of, next_stage, settled, started, starting, unless_unknown, wanted, wanted_by, wanted_for, went, world_at}
use Rattle.run_semantics.specs.Subtree.{outer_first}
use Rattle.run_semantics.specs.declared.outcome.Outcome.TheVariants.{Ended, TimeLimit}
use Rattle.run_semantics.specs.Upcoming.{Upcoming, Comes, Nothing, upcoming}
use Rattle.run_semantics.specs.World.{World}
use Rattle.run_semantics.proofs.Bounds.{bounded_after}
use Rattle.run_semantics.proofs.Placing.{standing_after}
use Rattle.kernel.specs.declared.request.Request.{Request}
use Rattle.kernel.specs.Seats.{request_for, AreFresh}
use Rattle.kernel.specs.Starts.{wanted_of, AreFirstOf, HasItsModules, IsUnknownFirst}
use Rattle.kernel.proofs.Behind.{needed_rise}
use Rattle.kernel.proofs.Rising.{Rise}
use Rattle.kernel.proofs.Waiting.{fresh_standing, wanted_next as first_left}
use Rattle.kernel_boxes.specs.Seats.{BoxAt, AreBelow, instance_of}
use Rattle.kernel_boxes.specs.Staying.{first_without}
use Rattle.checkpoint_runs.specs.Running.{first_wait, left_of_start, parts_in, wait_or, wanted_next, IsPaused, IsRefused}
use Rattle.checkpoint_runs.proofs.Filling.{below_instances, fresh_more, left_at, length_more, none_part, some_part, take_more, take_none, unknown_at, AreBelowPart}

-- ---- the modules that the next event starts

-- their ids rise
abbrev pub RisesIn : List Part → Type 0
RisesIn ps = (below : ℕ) × Rise 1 below ps

either_rises : (c : Bool) (ps : List Part) → RisesIn ps → RisesIn (if c then [] else ps)
either_rises true ps h = (1, tt)
either_rises false ps h = h

for_rises : (p : Pending) (what : Happening) (w : World) → RisesIn (wanted_for p what w)
for_rises p (Start last) w = (1 + length w.records, needed_rise (starting p.id last w) w)
for_rises p (Timer timer kind) w = (1, tt)
for_rises p (Arrival kind bits payload) w = (1, tt)
for_rises p (Delivery d) w = (1, tt)

by_rises : (m : Answers) (up : Upcoming) → RisesIn (wanted_by m up)
by_rises m (Nothing w) = (1, tt)
by_rises m (Comes w p rest) = either_rises (is_after_limit m w.records p) (wanted_for p p.what w) (for_rises p p.what w)

pub wanted_rises : (m : Answers) (w : World) → RisesIn (wanted m w)
wanted_rises m w = either_rises w.ended (wanted_by m (upcoming m w)) (by_rises m (upcoming m w))

-- ---- the boxes that wait are those of the first of them

first_parts : (b : Behaviour) (ps : List Part) (xs : List BoxAt) → AreFirstOf b ps xs → parts_in xs ≡ take (length xs) ps
first_parts b ps xs h = fresh_standing b (take (length xs) ps) xs h

-- so the one that is wanted is the next one
first_missing : (b : Behaviour) (ps : List Part) (xs : List BoxAt) → RisesIn ps → AreFirstOf b ps xs → first_without (parts_in xs) ps ≡ slice_get ps (length xs)
first_missing b ps xs r h = ap (λ boxes. first_without boxes ps) (first_parts b ps xs h) ∙ first_left r.0 (length xs) ps r.1

-- all boxes are there
pub first_ready : (b : Behaviour) (m : Answers) (w : World) (xs : List BoxAt) → AreFirstOf b (wanted m w) xs → wanted_of w (wanted m w) (parts_in xs) ≡ None → AreFresh b (wanted m w) xs
first_ready b m w xs h e =
    let ps : List Part = wanted m w in
    let none : slice_get ps (length xs) ≡ None = sym (first_missing b ps xs (wanted_rises m w) h) ∙ none_part (request_for w) (first_without (parts_in xs) ps) e in
    subst (λ qs. AreFresh b qs xs) (take_none ps (length xs) none) h

-- none waits
pub first_none : (b : Behaviour) (ps : List Part) (xs : List BoxAt) → xs ≡ [] → AreFirstOf b ps xs
first_none b ps xs e = subst (AreFirstOf b ps) (sym e) tt

-- ---- a box is supplied, or there is none

paused_at : (b : Behaviour) (m : Answers) (w : World) (xs : List BoxAt) (r : Request) → AreFirstOf b (wanted m w) xs → wanted_of w (wanted m w) (parts_in xs) ≡ Some r → (p : Part) × (slice_get (wanted m w) (length xs) ≡ Some p) × (r ≡ request_for w p)
paused_at b m w xs r h e =
    let q = some_part (request_for w) (first_without (parts_in xs) (wanted m w)) r e in
    (q.0, sym (first_missing b (wanted m w) xs (wanted_rises m w) h) ∙ q.1, q.2)

-- one more box
pub paused_next : (b : Behaviour) (m : Answers) (w : World) (xs ys : List BoxAt) (k : ℕ) (r : Request) (box : Module) → IsPaused b m w xs k → wanted_of w (wanted m w) (parts_in xs) ≡ Some r → IsFresh b r.kind box → ys ≡ xs ++ record { id = r.id; box = box } ∷ [] → IsPaused b m w ys k
paused_next b m w xs ys k r box h e fresh is =
    let ps : List Part = wanted m w in
    let q = paused_at b m w xs r h.first e in
    let s : BoxAt = record { id = r.id; box = box } in
    let id : r.id ≡ q.0.id = ap (λ (x : Request). x.id) q.2 in
    let kind : r.kind ≡ q.0.kind = ap (λ (x : Request). x.kind) q.2 in
    let more : AreFresh b (take (length xs) ps ++ q.0 ∷ []) (xs ++ s ∷ []) = fresh_more b (take (length xs) ps) xs q.0 s h.first id (subst (λ k. IsFresh b k box) kind fresh) in
    let all : take (length (xs ++ s ∷ [])) ps ≡ take (length xs) ps ++ q.0 ∷ [] = ap (λ n. take n ps) (length_more xs s) ∙ take_more ps (length xs) q.0 q.1 in
    record {
      count = h.count;
      going = h.going;
      room = h.room;
      first = subst (AreFirstOf b ps) (sym is) (subst (λ qs. AreFresh b qs (xs ++ s ∷ [])) (sym all) more);
    }

at_least_in : (from below n : ℕ) (ps : List Part) (p : Part) → Rise from below ps → slice_get ps n ≡ Some p → from ≤ p.id
at_least_in from below n [] p r e = cc
at_least_in from below zero (q ∷ ps) p r e = let same : q ≡ p = cc in subst (λ (x : Part). from ≤ x.id) same r.0
at_least_in from below (suc n) (q ∷ ps) p r e = let l = at_least_in (suc q.id) below n ps p r.2 e in let f = r.0 in omega (arith, l, f)

before_in : (from below n : ℕ) (ps : List Part) (p : Part) → Rise from below ps → slice_get ps n ≡ Some p → AreBelowPart p.id (take n ps)
before_in from below n [] p r e = cc
before_in from below zero (q ∷ ps) p r e = tt
before_in from below (suc n) (q ∷ ps) p r e = (let l = at_least_in (suc q.id) below n ps p r.2 e in omega (arith, l), before_in (suc q.id) below n ps p r.2 e)

-- it is of a greater id than those that wait
pub paused_above : (b : Behaviour) (m : Answers) (w : World) (xs : List BoxAt) (r : Request) → AreFirstOf b (wanted m w) xs → wanted_of w (wanted m w) (parts_in xs) ≡ Some r → AreBelow r.id (map instance_of xs)
paused_above b m w xs r h e =
    let ps : List Part = wanted m w in
    let rise = wanted_rises m w in
    let q = paused_at b m w xs r h e in
    below_instances r.id (map instance_of xs) (subst (AreBelowPart r.id) (sym (first_parts b ps xs h)) (subst (λ i. AreBelowPart i (take (length xs) ps)) (sym (ap (λ (x : Request). x.id) q.2)) (before_in 1 rise.0 (length xs) ps q.0 rise.1 q.1)))

-- there is none
pub paused_refused : (b : Behaviour) (m : Answers) (w : World) (xs : List BoxAt) (r : Request) → wanted_of w (wanted m w) (parts_in xs) ≡ Some r → b.known r.kind ≡ false → IsRefused b m w xs
paused_refused b m w xs r e unknown =
    let q = some_part (request_for w) (first_without (parts_in xs) (wanted m w)) r e in
    record {
      part = q.0;
      missing = q.1;
      unknown = ap (λ (x : Request). b.known x.kind) (sym q.2) ∙ unknown;
    }

-- ---- then the next event has that fault

refused_at : (b : Behaviour) (m : Answers) (w : World) (xs : List BoxAt) → AreFirstOf b (wanted m w) xs → (d : IsRefused b m w xs) → first_unknown b (wanted m w) ≡ Some d.part
refused_at b m w xs h d = unknown_at b (wanted m w) xs d.part h (sym (first_missing b (wanted m w) xs (wanted_rises m w) h) ∙ d.missing) d.unknown

-- the boxes that there are wait still
pub refused_boxes : (b : Behaviour) (m : Answers) (w : World) (xs : List BoxAt) → AreFirstOf b (wanted m w) xs → IsRefused b m w xs → parts_in xs ≡ left_of_start b (wanted m w)
refused_boxes b m w xs h d = first_parts b (wanted m w) xs h ∙ left_at b (wanted m w) xs d.part h (sym (first_missing b (wanted m w) xs (wanted_rises m w) h) ∙ d.missing) d.unknown

-- of that module it is asked
pub refused_first : (b : Behaviour) (m : Answers) (w : World) (xs : List BoxAt) (r : Request) → AreFirstOf b (wanted m w) xs → IsRefused b m w xs → wanted_of w (wanted m w) (parts_in xs) ≡ Some r → IsUnknownFirst b (wanted m w) r.id
refused_first b m w xs r h d e =
    let q = some_part (request_for w) (first_without (parts_in xs) (wanted m w)) r e in
    let same : q.0 ≡ d.part = let both : Some q.0 ≡ Some d.part = sym q.1 ∙ d.missing in cc in
    record { part = d.part; first = refused_at b m w xs h d; same = ap (λ (p : Part). p.id) (sym same) ∙ ap (λ (x : Request). x.id) (sym q.2) }

pub refused_some : (b : Behaviour) (m : Answers) (w : World) (xs : List BoxAt) → (d : IsRefused b m w xs) → wanted_of w (wanted m w) (parts_in xs) ≡ Some (request_for w d.part)
refused_some b m w xs d = ap (option_map (request_for w)) d.missing

abbrev pub EndsInFault : Stage → Type 0
EndsInFault (Running w) = ⊥
EndsInFault (Over w outcome) = is_fault outcome ≡ true

no_part : {A : Type 0} (b : Behaviour) (p : Part) → first_unknown b [] ≡ Some p → A
no_part b p e = cc

-- its modules can't have their boxes
pub start_ends : (b : Behaviour) (m : Answers) (ids : List ℕ) (first : ℕ) (w : World) (p : Part) → first_unknown b (needs_of ids w) ≡ Some p
    → EndsInFault (settled (unless_unknown b (needs_of ids w) w (first_unknown b (needs_of ids w)) >>= started b m ids (outer_first w.records ids first)))
start_ends b m ids first w p e = rw e refl

happens_ends : (b : Behaviour) (m : Answers) (p : Pending) (what : Happening) (rest : List Pending) (u : World) (q : Part) → first_unknown b (wanted_for p what u) ≡ Some q → EndsInFault (settled (happens b m p what (begun p rest u)))
happens_ends b m p (Start last) rest u q e = start_ends b m (starting p.id last (begun p rest u)) p.id (begun p rest u) q e
happens_ends b m p (Timer timer kind) rest u q e = no_part b q e
happens_ends b m p (Arrival kind bits payload) rest u q e = no_part b q e
happens_ends b m p (Delivery d) rest u q e = no_part b q e

went_ends : (b : Behaviour) (m : Answers) (w : World) (up : Upcoming) (q : Part) → first_unknown b (wanted_by m up) ≡ Some q → EndsInFault (went b m w up)
went_ends b m w (Nothing u) q e = no_part b q e
went_ends b m w (Comes u p rest) q e = by (is_after_limit m u.records p) e
  where
    by : (c : Bool) → first_unknown b (if c then [] else wanted_for p p.what u) ≡ Some q → EndsInFault (if c then Over w TimeLimit else settled (event b m p rest u))
    by true e = no_part b q e
    by false e = happens_ends b m p p.what rest u q e

pub unknown_ends : (b : Behaviour) (m : Answers) (w : World) (q : Part) → first_unknown b (wanted m w) ≡ Some q → EndsInFault (next_stage b m (Running w))
unknown_ends b m w q e = by w.ended e
  where
    by : (c : Bool) → first_unknown b (if c then [] else wanted_by m (upcoming m w)) ≡ Some q → EndsInFault (if c then Over w Ended else went b m w (upcoming m w))
    by true e = no_part b q e
    by false e = went_ends b m w (upcoming m w) q e

pub refused_ends : (b : Behaviour) (m : Answers) (w : World) (xs : List BoxAt) → AreFirstOf b (wanted m w) xs → IsRefused b m w xs → EndsInFault (next_stage b m (Running w))
refused_ends b m w xs h d = unknown_ends b m w d.part (refused_at b m w xs h d)

-- ---- the first event that needs a box

wait_step : (b : Behaviour) (m : Answers) (k limit : ℕ) (supplied : List Part) → k < limit → first_wait b m k (limit - k) supplied ≡ wait_or k (wanted_next m (after b m k) supplied) (first_wait b m (suc k) (limit - suc k) [])
wait_step b m k limit supplied l = let d : limit - k ≡ suc (limit - suc k) = omega (arith, l) in ap (λ n. first_wait b m k n supplied) d

wait_going : (b : Behaviour) (m : Answers) (k limit : ℕ) (w : World) (supplied : List Part) → k < limit → Running w ≡ after b m k → first_wait b m k (limit - k) supplied ≡ wait_or k (wanted_of w (wanted m w) supplied) (first_wait b m (suc k) (limit - suc k) [])
wait_going b m k limit w supplied l going = wait_step b m k limit supplied l ∙ ap (λ s. wait_or k (wanted_next m s supplied) (first_wait b m (suc k) (limit - suc k) [])) (sym going)

-- it needs none
pub wait_none : (b : Behaviour) (m : Answers) (k limit : ℕ) (w : World) (supplied : List Part) → k < limit → Running w ≡ after b m k → wanted_of w (wanted m w) supplied ≡ None → first_wait b m k (limit - k) supplied ≡ first_wait b m (suc k) (limit - suc k) []
wait_none b m k limit w supplied l going e = wait_going b m k limit w supplied l going ∙ ap (λ o. wait_or k o (first_wait b m (suc k) (limit - suc k) [])) e

-- it needs one
pub wait_some : (b : Behaviour) (m : Answers) (k limit : ℕ) (w : World) (supplied : List Part) (r : Request) → k < limit → Running w ≡ after b m k → wanted_of w (wanted m w) supplied ≡ Some r → first_wait b m k (limit - k) supplied ≡ Some (k, r)
wait_some b m k limit w supplied r l going e = wait_going b m k limit w supplied l going ∙ ap (λ o. wait_or k o (first_wait b m (suc k) (limit - suc k) [])) e

-- none up to its limit
pub wait_ends : (b : Behaviour) (m : Answers) (k limit : ℕ) (supplied : List Part) → limit ≤ k → first_wait b m k (limit - k) supplied ≡ None
wait_ends b m k limit supplied l = let z : limit - k ≡ 0 = omega (arith, l) in ap (λ n. first_wait b m k n supplied) z

-- the boxes that were supplied stay where it went on
unequal : (m n : ℕ) → m < n → (m == n) ≡ false
unequal m n h = grind (arith, nat_tests)

pub later : (from k : ℕ) (supplied : List Part) → from < k → (if from == k then supplied else []) ≡ []
later from k supplied l = ap (λ (c : Bool). if c then supplied else []) (unequal from k l)

-- ---- a world of a run

pub has_modules : (b : Behaviour) (m : Answers) (k : ℕ) (w : World) → Running w ≡ after b m k → HasItsModules w
has_modules b m k w e = subst (λ s. HasItsModules (world_at s)) (sym e) (record { few = (bounded_after b m k).live; stands = standing_after b m k })
