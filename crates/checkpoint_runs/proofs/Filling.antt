-- A run that gets its boxes, one after the other.
use Rattle.std.proofs.Common.{◌≡◌, ℕ, zero, suc, ◌≤◌, ◌<◌, ◌+◌, ◌-◌, true, false, List, [], ◌∷◌, ◌++◌, take, Option, Some, None, option_map, refl, sym, ap, ◌∙◌, subst, arith, append_assoc, slice_get, length, map}
use Rattle.module_api.specs.Behaviour.{Behaviour}
use Rattle.module_api.specs.Meaning.{Module, IsFresh}
use Rattle.model_questions.specs.Answers.{Answers}
use Rattle.model_questions.specs.declared.record.Record.{Record}
use Rattle.model_questions.specs.Records.{path_of}
use Rattle.run_semantics.specs.declared.outcome.RunFault.TheVariants.{UnknownClass}
use Rattle.run_semantics.specs.declared.outcome.Outcome.{Outcome}
use Rattle.run_semantics.specs.declared.outcome.Outcome.TheVariants as outcomes
use Rattle.run_semantics.specs.declared.traces.Instance.{Instance}
use Rattle.run_semantics.specs.World.{World}
use Rattle.run_semantics.specs.Perform.{Flow, On, Stopped, Broken, ◌>>=◌}
use Rattle.run_semantics.specs.Run.{Part, first_unknown, parts_from, parts_of, standing, unless_unknown, unstarted, with_class, prepared, start_all, started, start, Running, Over, after, next_stage, settled, is_fault}
use Rattle.run_semantics.specs.Ending.{ending}
use Rattle.run_semantics.proofs.Ends.{run_over}
use Rattle.run_semantics.proofs.Setting.{IsLasting, Stays, prepared_stays}
use Rattle.kernel.specs.declared.request.Request.{Request}
use Rattle.kernel_boxes.specs.Seats.{BoxAt, AreBelow, instance_of}
use Rattle.run_semantics.specs.Subtree.{outer_first}
use Rattle.kernel.specs.Seats.{AreFirst, AreFresh, missing_part, missing_of, needs, request_for}
use Rattle.kernel_boxes.specs.Staying.{first_without}
use Rattle.kernel.proofs.Behind.{parts_rise}
use Rattle.kernel.proofs.Waiting.{fresh_known, fresh_standing, wanted_next}
use Rattle.checkpoints.specs.Stored.{begun, Timeline}
use Rattle.checkpoint_runs.specs.declared.phases.AtSetup.{AtSetup}
use Rattle.checkpoint_runs.specs.declared.phases.Point.{Point}
use Rattle.checkpoint_runs.specs.declared.phases.Point.TheVariants.{Setup, Position, Start}
use Rattle.checkpoint_runs.specs.declared.phases.Progress.{Progress}
use Rattle.checkpoint_runs.specs.declared.phases.Progress.TheVariants as progress
use Rattle.checkpoint_runs.specs.Positions.{cut, first_behind, positions_begun, start_of}
use Rattle.checkpoint_runs.proofs.Counting.{setup_after}
use Rattle.checkpoint_runs.proofs.Unstarted.{IsBuilt, needs_all, prepared_built}
use Rattle.checkpoint_runs.specs.Running.{first_wait, known_first, left_of_start, left_unless, needed_by_setup, parts_in, positions_at, wait_anew, wait_before, wait_first, wait_or, wanted_after, wanted_by, wanted_next as wanted_before, whole_run, Advances, CanStart, IsDeclined, IsFilled}

-- the calls of the start, where the modules of that world are started
abbrev calls_of : Behaviour → Answers → World → World → Flow
calls_of b m w = started b m (unstarted w) (outer_first w.records (unstarted w) 1)

-- ---- setup goes on, or ends in a fault

-- it isn't stopped, and a world in which it goes on has no insertion yet
abbrev pub GoesOn : Flow → Type 0
GoesOn (On w) = w.next ≡ 0
GoesOn (Stopped w) = ⊥
GoesOn (Broken w path f) = Unit {0}

-- a setup inserts nothing
next_lasts : IsLasting (λ w. w.next ≡ 0)
next_lasts = record { asked = λ id w e l. e; created = λ parent bs w e l few. e }

stays_going : (fl : Flow) → Stays (λ w. w.next ≡ 0) fl → GoesOn fl
stays_going (On w) h = h
stays_going (Stopped w) h = h
stays_going (Broken w path f) h = tt

prepared_goes : (m : Answers) → GoesOn (prepared m)
prepared_goes m = stays_going (prepared m) (prepared_stays (λ w. w.next ≡ 0) m next_lasts refl (λ name. refl))

running_on : (fl : Flow) (w : World) → GoesOn fl → Running w ≡ settled fl → (fl ≡ On w) × (w.next ≡ 0)
running_on (On v) w h e = let s : v ≡ w = cc in (ap On s, ap (λ (u : World). u.next) (sym s) ∙ h)
running_on (Stopped v) w h e = absurd h
running_on (Broken v path f) w h e = cc

-- set up, without a box
pub filled_first : (b : Behaviour) (m : Answers) (w : World) (xs : List BoxAt) → xs ≡ [] → Running w ≡ settled (prepared m) → IsFilled b m w xs
filled_first b m w xs none e =
    let r = running_on (prepared m) w (prepared_goes m) e in
    let built : IsBuilt w = subst (Stays IsBuilt) r.0 (prepared_built m) in
    record {
      prepared_is = sym r.0;
      next = r.1;
      none = built.modules;
      unstarted = needs_all w built.dead built.started;
      first = subst (AreFirst b w) (sym none) tt;
    }

over_broken : (fl : Flow) (k : World → Flow) (w : World) (outcome : Outcome) → Over w outcome ≡ settled fl → Over w outcome ≡ settled (fl >>= k)
over_broken (On v) k w outcome e = cc
over_broken (Stopped v) k w outcome e = cc
over_broken (Broken v path f) k w outcome e = e

over_wants_none : (fl : Flow) (boxes : List Part) (w : World) (outcome : Outcome) → Over w outcome ≡ settled fl → wanted_after fl boxes ≡ None
over_wants_none (On v) boxes w outcome e = cc
over_wants_none (Stopped v) boxes w outcome e = cc
over_wants_none (Broken v path f) boxes w outcome e = refl

over_is_fault : (fl : Flow) (w : World) (outcome : Outcome) → Over w outcome ≡ settled fl → is_fault outcome ≡ true
over_is_fault (On v) w outcome e = cc
over_is_fault (Stopped v) w outcome e = cc
over_is_fault (Broken v path f) w outcome e = let s : outcome ≡ outcomes.Fault v.count path f = cc in rw s refl

-- a run that is over after event zero ended in a fault
pub start_is_fault : (b : Behaviour) (m : Answers) (w : World) (outcome : Outcome) → Over w outcome ≡ start b m → is_fault outcome ≡ true
start_is_fault b m w outcome e = over_is_fault (prepared m >>= start_all b m) w outcome e

-- a fault in setup is the start's
pub start_over : (b : Behaviour) (m : Answers) (w : World) (outcome : Outcome) → Over w outcome ≡ settled (prepared m) → Over w outcome ≡ start b m
start_over b m w outcome e = over_broken (prepared m) (start_all b m) w outcome e

pub setup_wants_none : (m : Answers) (boxes : List Part) (w : World) (outcome : Outcome) → Over w outcome ≡ settled (prepared m) → wanted_by m boxes ≡ None
setup_wants_none m boxes w outcome e = over_wants_none (prepared m) boxes w outcome e

-- no module has a state then, and there is no box
over_none : (fl : Flow) (w : World) (outcome : Outcome) → Stays IsBuilt fl → Over w outcome ≡ settled fl → w.modules ≡ []
over_none (On v) w outcome h e = cc
over_none (Stopped v) w outcome h e = cc
over_none (Broken v path f) w outcome h e = let s : w ≡ v = cc in ap (λ (u : World). u.modules) s ∙ h.modules

over_boxes : (b : Behaviour) (fl : Flow) (w : World) (outcome : Outcome) → Over w outcome ≡ settled fl → [] ≡ left_of_start b (needed_by_setup fl)
over_boxes b (On v) w outcome e = cc
over_boxes b (Stopped v) w outcome e = cc
over_boxes b (Broken v path f) w outcome e = refl

-- where setup has a fault no box was asked for
pub setup_boxes : (b : Behaviour) (m : Answers) (w : World) (xs : List BoxAt) (outcome : Outcome) → xs ≡ [] → Over w outcome ≡ settled (prepared m) → parts_in xs ≡ left_of_start b (needed_by_setup (prepared m))
setup_boxes b m w xs outcome none e = ap parts_in none ∙ over_boxes b (prepared m) w outcome e

pub setup_none : (m : Answers) (w : World) (outcome : Outcome) → Over w outcome ≡ settled (prepared m) → w.modules ≡ []
setup_none m w outcome e = over_none (prepared m) w outcome (prepared_built m) e

-- ---- what is wanted

pub filled_wants : (b : Behaviour) (m : Answers) (w : World) (xs : List BoxAt) → IsFilled b m w xs → missing_of w (parts_in xs) ≡ wanted_by m (parts_in xs)
filled_wants b m w xs filled = ap (λ (fl : Flow). wanted_after fl (parts_in xs)) filled.prepared_is

pub none_part : {A B : Type 0} (f : A → B) (o : Option A) → option_map f o ≡ None → o ≡ None
none_part f None e = refl
none_part f (Some p) e = cc

pub some_part : {A B : Type 0} (f : A → B) (o : Option A) (y : B) → option_map f o ≡ Some y → (x : A) × (o ≡ Some x) × (y ≡ f x)
some_part f None y e = cc
some_part f (Some x) y e = (x, refl, cc)

-- the boxes are of the first so many of the modules that need one
filled_parts : (b : Behaviour) (m : Answers) (w : World) (xs : List BoxAt) → IsFilled b m w xs → parts_in xs ≡ take (length xs) (needs w)
filled_parts b m w xs filled = fresh_standing b (take (length xs) (needs w)) xs filled.first

-- so the one that is wanted is the next one
filled_missing : (b : Behaviour) (m : Answers) (w : World) (xs : List BoxAt) → IsFilled b m w xs → missing_part w (parts_in xs) ≡ slice_get (needs w) (length xs)
filled_missing b m w xs filled =
    ap (λ boxes. first_without boxes (needs w)) (filled_parts b m w xs filled)
    ∙ subst (λ ps. first_without (take (length xs) ps) ps ≡ slice_get ps (length xs)) (sym filled.unstarted)
    (wanted_next (1 + length w.records) (length xs) (parts_of w) (parts_rise 1 (1 + length w.records) w.records (omega arith)))

pub take_none : (ps : List Part) (n : ℕ) → slice_get ps n ≡ None → take n ps ≡ ps
take_none [] zero e = refl
take_none [] (suc n) e = refl
take_none (p ∷ ps) zero e = cc
take_none (p ∷ ps) (suc n) e = ap (λ qs. p ∷ qs) (take_none ps n e)

-- all boxes are there
pub filled_ready : (b : Behaviour) (m : Answers) (w : World) (xs : List BoxAt) → IsFilled b m w xs → missing_of w (parts_in xs) ≡ None → CanStart b m w xs
filled_ready b m w xs filled e =
    let none : slice_get (needs w) (length xs) ≡ None = sym (filled_missing b m w xs filled) ∙ none_part (request_for w) (missing_part w (parts_in xs)) e in
    record {
      prepared_is = filled.prepared_is;
      next = filled.next;
      none = filled.none;
      fresh = subst (λ ps. AreFresh b ps xs) (take_none (needs w) (length xs) none) filled.first;
    }

-- ---- a run that can't begin

pub ended : (b : Behaviour) (m : Answers) (w : World) (outcome : Outcome) → is_fault outcome ≡ true → ending b m (record { world = w; outcome = outcome }) ≡ record { world = w; outcome = outcome }
ended b m w outcome t = rw t refl

pub whole_over : (b : Behaviour) (m : Answers) (limit : ℕ) (w : World) (outcome : Outcome) → Over w outcome ≡ start b m → whole_run b m limit w outcome
whole_over b m limit w outcome e =
    ap (ending b m) (run_over b m w outcome zero limit (omega arith) e)
    ∙ ended b m w outcome (over_is_fault (prepared m >>= start_all b m) w outcome e)

-- ---- a box is supplied, or there is none

-- the part that a request is for
requested : (w : World) (xs : List BoxAt) (r : Request) → missing_of w (parts_in xs) ≡ Some r → (p : Part) × (missing_part w (parts_in xs) ≡ Some p) × (r ≡ request_for w p)
requested w xs r e = some_part (request_for w) (missing_part w (parts_in xs)) r e

pub take_more : (ps : List Part) (n : ℕ) (p : Part) → slice_get ps n ≡ Some p → take (suc n) ps ≡ take n ps ++ p ∷ []
take_more [] n p e = cc
take_more (q ∷ ps) zero p e = let a : q ≡ p = cc in ap (λ r. r ∷ []) a
take_more (q ∷ ps) (suc n) p e = ap (λ (qs : List Part). q ∷ qs) (take_more ps n p e)

pub length_more : {X : Type 0} (xs : List X) (x : X) → length (xs ++ x ∷ []) ≡ suc (length xs)
length_more [] x = refl
length_more (y ∷ xs) x = ap suc (length_more xs x)

pub fresh_more : (b : Behaviour) (ps : List Part) (xs : List BoxAt) (p : Part) (s : BoxAt) → AreFresh b ps xs → s.id ≡ p.id → IsFresh b p.kind s.box → AreFresh b (ps ++ p ∷ []) (xs ++ s ∷ [])
fresh_more b [] [] p s h id fresh = (id, fresh, tt)
fresh_more b [] (x ∷ xs) p s h id fresh = absurd h
fresh_more b (q ∷ ps) [] p s h id fresh = absurd h
fresh_more b (q ∷ ps) (x ∷ xs) p s h id fresh = (h.0, h.1, fresh_more b ps xs p s h.2 id fresh)

-- one more box
pub filled_next : (b : Behaviour) (m : Answers) (w : World) (xs ys : List BoxAt) (r : Request) (box : Module) → IsFilled b m w xs → missing_of w (parts_in xs) ≡ Some r → IsFresh b r.kind box → ys ≡ xs ++ record { id = r.id; box = box } ∷ [] → IsFilled b m w ys
filled_next b m w xs ys r box filled wanted fresh e =
    let q = requested w xs r wanted in
    let s : BoxAt = record { id = r.id; box = box } in
    let at : slice_get (needs w) (length xs) ≡ Some q.0 = sym (filled_missing b m w xs filled) ∙ q.1 in
    let id : r.id ≡ q.0.id = ap (λ (x : Request). x.id) q.2 in
    let kind : r.kind ≡ q.0.kind = ap (λ (x : Request). x.kind) q.2 in
    let more : AreFresh b (take (length xs) (needs w) ++ q.0 ∷ []) (xs ++ s ∷ []) =
    fresh_more b (take (length xs) (needs w)) xs q.0 s filled.first id (subst (λ k. IsFresh b k box) kind fresh) in
    let all : take (length (xs ++ s ∷ [])) (needs w) ≡ take (length xs) (needs w) ++ q.0 ∷ [] =
    ap (λ n. take n (needs w)) (length_more xs s) ∙ take_more (needs w) (length xs) q.0 at in
    record {
      prepared_is = filled.prepared_is;
      next = filled.next;
      none = filled.none;
      unstarted = filled.unstarted;
      first = subst (AreFirst b w) (sym e) (subst (λ ps. AreFresh b ps (xs ++ s ∷ [])) (sym all) more);
    }

-- the modules of the boxes with one more
parts_more : (xs : List BoxAt) (s : BoxAt) → parts_in (xs ++ s ∷ []) ≡ parts_in xs ++ record { id = s.id; kind = s.box.kind } ∷ []
parts_more [] s = refl
parts_more (x ∷ xs) s = ap (λ (ps : List Part). record { id = x.id; kind = x.box.kind } ∷ ps) (parts_more xs s)

pub supplied_part : (is : List Instance) (xs ys : List BoxAt) (id : ℕ) (box : Module) → ys ≡ xs ++ record { id = id; box = box } ∷ [] → standing is ++ parts_in ys ≡ (standing is ++ parts_in xs) ++ record { id = id; kind = box.kind } ∷ []
supplied_part is xs ys id box e =
    ap (λ zs. standing is ++ parts_in zs) e
    ∙ ap (λ ps. standing is ++ ps) (parts_more xs (record { id = id; box = box }))
    ∙ sym (append_assoc (standing is) (parts_in xs) (record { id = id; kind = box.kind } ∷ []))

-- ---- boxes are given by rising ids

abbrev id_or : ℕ → Option Part → ℕ
id_or k None = k
id_or k (Some p) = p.id

abbrev pub AreBelowPart : ℕ → List Part → Type 0
AreBelowPart id [] = Unit {0}
AreBelowPart id (p ∷ ps) = (p.id < id) × AreBelowPart id ps

pub below_instances : (id : ℕ) (is : List Instance) → AreBelowPart id (standing is) → AreBelow id is
below_instances id [] h = tt
below_instances id (i ∷ is) h = (h.0, below_instances id is h.1)

at_least : (k : ℕ) (rs : List Record) (n : ℕ) (p : Part) → slice_get (parts_from k rs) n ≡ Some p → k ≤ p.id
at_least k [] n p e = cc
at_least k (r ∷ rs) n p e = by r.class n (λ n e. at_least (suc k) rs n p e) e
  where
    by : (class : Option (List ℕ)) (n : ℕ) → ((n : ℕ) → slice_get (parts_from (suc k) rs) n ≡ Some p → suc k ≤ p.id) → slice_get (with_class k class (parts_from (suc k) rs)) n ≡ Some p → k ≤ p.id
    by None n later e = let h = later n e in omega (arith, h)
    by (Some kind) zero later e = let same : k ≡ p.id = ap (λ (o : Option Part). id_or k o) e in omega (arith, same)
    by (Some kind) (suc n) later e = let h = later n e in omega (arith, h)

-- the parts before one are of smaller ids
before_part : (k : ℕ) (rs : List Record) (n : ℕ) (p : Part) → slice_get (parts_from k rs) n ≡ Some p → AreBelowPart p.id (take n (parts_from k rs))
before_part k [] n p e = cc
before_part k (r ∷ rs) n p e = by r.class n (λ n e. before_part (suc k) rs n p e) e
  where
    by : (class : Option (List ℕ)) (n : ℕ) → ((n : ℕ) → slice_get (parts_from (suc k) rs) n ≡ Some p → AreBelowPart p.id (take n (parts_from (suc k) rs))) → slice_get (with_class k class (parts_from (suc k) rs)) n ≡ Some p → AreBelowPart p.id (take n (with_class k class (parts_from (suc k) rs)))
    by None n later e = later n e
    by (Some kind) zero later e = tt
    by (Some kind) (suc n) later e = (at_least (suc k) rs n p e, later n e)

pub filled_above : (b : Behaviour) (m : Answers) (w : World) (xs : List BoxAt) (r : Request) → IsFilled b m w xs → missing_of w (parts_in xs) ≡ Some r → AreBelow r.id (map instance_of xs)
filled_above b m w xs r filled wanted =
    let q = requested w xs r wanted in
    let id : r.id ≡ q.0.id = ap (λ (x : Request). x.id) q.2 in
    let at : slice_get (parts_of w) (length xs) ≡ Some q.0 = ap (λ ps. slice_get ps (length xs)) (sym filled.unstarted) ∙ sym (filled_missing b m w xs filled) ∙ q.1 in
    let parts : parts_in xs ≡ take (length xs) (parts_of w) = filled_parts b m w xs filled ∙ ap (take (length xs)) filled.unstarted in
    below_instances r.id (map instance_of xs) (subst (AreBelowPart r.id) (sym parts) (subst (λ i. AreBelowPart i (take (length xs) (parts_of w))) (sym id) (before_part 1 w.records (length xs) q.0 at)))

-- there is none
pub filled_declined : (b : Behaviour) (m : Answers) (w : World) (xs : List BoxAt) (r : Request) → IsFilled b m w xs → missing_of w (parts_in xs) ≡ Some r → b.known r.kind ≡ false → IsDeclined b m w xs
filled_declined b m w xs r filled wanted unknown =
    let q = requested w xs r wanted in
    record {
      filled = filled;
      part = q.0;
      missing = q.1;
      unknown = ap (λ (x : Request). b.known x.kind) (sym q.2) ∙ unknown;
    }

-- after modules that have boxes comes one of a class that is not known
pub unknown_at : (b : Behaviour) (ps : List Part) (xs : List BoxAt) (p : Part) → AreFresh b (take (length xs) ps) xs → slice_get ps (length xs) ≡ Some p → b.known p.kind ≡ false → first_unknown b ps ≡ Some p
unknown_at b [] xs p h e u = cc
unknown_at b (q ∷ ps) [] p h e u =
    let same : q ≡ p = cc in
    rw (ap (λ (x : Part). b.known x.kind) same ∙ u) (ap Some same)
unknown_at b (q ∷ ps) (x ∷ xs) p h e u =
    let known : b.known q.kind ≡ true = ap b.known (sym h.1.kind) ∙ h.1.of_kind.known in
    rw known (unknown_at b ps xs p h.2 e u)

-- those before it have boxes
pub known_at : (b : Behaviour) (ps : List Part) (xs : List BoxAt) (p : Part) → AreFresh b (take (length xs) ps) xs → slice_get ps (length xs) ≡ Some p → b.known p.kind ≡ false → known_first b ps ≡ take (length xs) ps
known_at b [] xs p h e u = cc
known_at b (q ∷ ps) [] p h e u =
    let same : q ≡ p = cc in
    rw (ap (λ (x : Part). b.known x.kind) same ∙ u) refl
known_at b (q ∷ ps) (x ∷ xs) p h e u =
    let known : b.known q.kind ≡ true = ap b.known (sym h.1.kind) ∙ h.1.of_kind.known in
    rw known (ap (λ qs. q ∷ qs) (known_at b ps xs p h.2 e u))

-- so these are what is left of their start
pub left_at : (b : Behaviour) (ps : List Part) (xs : List BoxAt) (p : Part) → AreFresh b (take (length xs) ps) xs → slice_get ps (length xs) ≡ Some p → b.known p.kind ≡ false → take (length xs) ps ≡ left_of_start b ps
left_at b ps xs p h e u = sym (known_at b ps xs p h e u) ∙ ap (λ o. left_unless o (known_first b ps)) (sym (unknown_at b ps xs p h e u))

declined_at : (b : Behaviour) (m : Answers) (w : World) (xs : List BoxAt) → (d : IsDeclined b m w xs) → slice_get (needs w) (length xs) ≡ Some d.part
declined_at b m w xs d = sym (filled_missing b m w xs d.filled) ∙ d.missing

-- THE START CAN'T BE MADE where a box was declined
pub declined_over : (b : Behaviour) (m : Answers) (w : World) (xs : List BoxAt) → (d : IsDeclined b m w xs) → Over w (outcomes.Fault w.count (path_of w.records d.part.id) UnknownClass) ≡ start b m
declined_over b m w xs d =
    let at = unknown_at b (needs w) xs d.part d.filled.first (declined_at b m w xs d) d.unknown in
    ap (λ o. settled (unless_unknown b (needs w) w o >>= calls_of b m w)) (sym at)
    ∙ ap (λ (fl : Flow). settled (fl >>= start_all b m)) d.filled.prepared_is

-- the boxes that there are wait still
pub declined_boxes : (b : Behaviour) (m : Answers) (w : World) (xs : List BoxAt) → IsDeclined b m w xs → parts_in xs ≡ left_of_start b (needed_by_setup (prepared m))
declined_boxes b m w xs d =
    filled_parts b m w xs d.filled
    ∙ left_at b (needs w) xs d.part d.filled.first (declined_at b m w xs d) d.unknown
    ∙ ap (λ (fl : Flow). left_of_start b (needed_by_setup fl)) d.filled.prepared_is

-- the same, by the request that is missing
pub declined_request : (b : Behaviour) (m : Answers) (w : World) (xs : List BoxAt) (r : Request) → IsDeclined b m w xs → missing_of w (parts_in xs) ≡ Some r → Over w (outcomes.Fault w.count r.path UnknownClass) ≡ start b m
declined_request b m w xs r d e =
    let q = requested w xs r e in
    let same : q.0 ≡ d.part = let both : Some q.0 ≡ Some d.part = sym q.1 ∙ d.missing in cc in
    let path : r.path ≡ path_of w.records d.part.id = ap (λ (x : Request). x.path) q.2 ∙ ap (λ (p : Part). path_of w.records p.id) same in
    ap (λ p. Over w (outcomes.Fault w.count p UnknownClass)) path ∙ declined_over b m w xs d

-- there is a request
pub declined_some : (b : Behaviour) (m : Answers) (w : World) (xs : List BoxAt) → (d : IsDeclined b m w xs) → missing_of w (parts_in xs) ≡ Some (request_for w d.part)
declined_some b m w xs d = ap (option_map (request_for w)) d.missing

-- the start of the network has its boxes
pub ready_known : (b : Behaviour) (m : Answers) (w : World) (xs : List BoxAt) → CanStart b m w xs → first_unknown b (needed_by_setup (prepared m)) ≡ None
ready_known b m w xs h = ap (λ (fl : Flow). first_unknown b (needed_by_setup fl)) (sym h.prepared_is) ∙ fresh_known b (needs w) xs h.fresh

-- ---- a run that begins with setup

-- a run that is over needs none
pub wait_over : (b : Behaviour) (m : Answers) (k more : ℕ) (w : World) (outcome : Outcome) (supplied : List Part) → Over w outcome ≡ after b m k → first_wait b m k more supplied ≡ None
wait_over b m k zero w outcome supplied e = refl
wait_over b m k (suc more) w outcome supplied e =
    ap (λ s. wait_or k (wanted_before m s supplied) (first_wait b m (suc k) more [])) (sym e)
    ∙ wait_over b m (suc k) more w outcome [] (ap (next_stage b m) e)

-- it waits for no box where it can't begin
pub over_waits : (b : Behaviour) (m : Answers) (limit : ℕ) (w : World) (outcome : Outcome) (wanted : Option Request) → wanted ≡ None → Over w outcome ≡ start b m → wait_first None Setup wanted (first_wait b m 0 limit []) ≡ None
over_waits b m limit w outcome wanted none over = ap (λ o. wait_first None Setup o (first_wait b m 0 limit [])) none ∙ ap (option_map (wait_before None)) (wait_over b m 0 limit w outcome [] over)

-- where no position is up to the limit, what a run comes to with none is what it comes to
pub setup_advances : (b : Behaviour) (m : Answers) (limit : ℕ) (at : AtSetup) (boxes supplied : List Part) (old cleared : Timeline ℕ) (w : World) (waiting : List BoxAt) (new : Timeline ℕ) (a : Progress) → start_of limit old.stored ≡ None → cleared ≡ begun old.first
    → Advances b m limit at None boxes supplied cleared w waiting new a → Advances b m limit at None boxes supplied old w waiting new a
setup_advances b m limit at boxes supplied old cleared w waiting new a none is h = by a (subst (λ (t : Timeline ℕ). Advances b m limit at None boxes supplied t w waiting new a) is h)
  where
    places : (p : Point) → positions_at limit None p (begun old.first) ≡ positions_at limit None p old
    places Setup = refl
    places Position = sym (ap (λ o. cut o old) none)
    places (Start k id) = sym (ap (λ o. positions_begun old o (suc k - first_behind o)) none)

    by : (a : Progress) → Advances b m limit at None boxes supplied (begun old.first) w waiting new a → Advances b m limit at None boxes supplied old w waiting new a
    by (progress.Waits wait) h = record {
      is = ap (λ o. wait_anew b m limit at o boxes supplied) none ∙ h.is;
      live = h.live;
      boxes_are = h.boxes_are;
      supplied_are = h.supplied_are;
      positions = h.positions ∙ places wait.at;
      began = h.began ∙ sym none;
    }
    by (progress.Done ended) h = record {
      none = ap (λ o. wait_anew b m limit at o boxes supplied) none ∙ h.none;
      whole = h.whole;
      left = h.left;
      began = h.began ∙ sym none;
      within = h.within;
      positions = setup_after b m limit old (begun old.first) new none refl h.positions;
    }
