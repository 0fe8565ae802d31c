-- The boxes that stay where a run goes back, and the one that is wanted there.
use Rattle.std.proofs.Common.{◌≡◌, ℕ, ◌≤◌, ◌==◌, nat_le, nat_lt, bytes_eq, Bool, true, false, cond, List, [], ◌∷◌, Option, Some, None, option_map, refl, sym, ap, ◌∙◌, arith, subst}
use Rattle.std.proofs.lemmas.Bool.Decides.{nat_tests}
use Rattle.std.specs.List.{filter}
use Rattle.std.specs.Option.{is_some}
use Rattle.checkpoints.specs.Stored.{counts_of, last_of, left, Timeline}
use Rattle.kernel_actions.specs.declared.position.Position.{Position}
use Rattle.module_api.specs.Behaviour.{Behaviour}
use Rattle.module_api.specs.Laws.{IsLawful}
use Rattle.module_api.specs.Meaning.{IsOfKind}
use Rattle.model_questions.specs.Answers.{Answers}
use Rattle.run_semantics.specs.declared.traces.Instance.{Instance}
use Rattle.run_semantics.specs.Laws.{Each, GoesOn}
use Rattle.run_semantics.specs.Run.{Part, after, part_of, standing, world_at}
use Rattle.run_semantics.specs.World.{World}
use Rattle.run_semantics.proofs.States.{kinds_of_run}
use Rattle.kernel_boxes.specs.Seats.{BoxAt, instance_of, module_in, AreKept, AreOfKinds}
use Rattle.kernel_boxes.specs.Staying.{first_without, is_held, is_of, staying}
use Rattle.kernel_boxes.proofs.Going.{held_is}
use Rattle.kernel.specs.declared.request.Request.{Request}
use Rattle.kernel.specs.Seats.{lacking_of, request_for, with_seat}
use Rattle.checkpoint_runs.specs.Kept.{lacking_at, AreGood, IsGood}
use Rattle.checkpoint_runs.specs.Positions.{cut, last_count, start_of, up_to_event, CanGoOn}
use Rattle.checkpoint_runs.specs.Running.{is_one_of, kept_back, needed_back, parts_in, with_part}
use Rattle.checkpoint_runs.proofs.Counting.{again, last_count_is, left_stored, start_within}
use Rattle.checkpoint_runs.proofs.Good.{good_last}
use Rattle.checkpoint_runs.proofs.Standing.{wanted_grown, without_is}

-- ---- the boxes that stay

one_of : (saved : List Instance) (s : BoxAt) → is_of saved s ≡ is_one_of (standing saved) (part_of (instance_of s))
one_of [] s = refl
one_of (i ∷ is) s = ap (λ t. cond (i.id == s.id) (bytes_eq i.kind s.box.kind) t) (one_of is s)

parts_stay : (saved : List Instance) (ss : List BoxAt) → parts_in (staying saved ss) ≡ filter (is_one_of (standing saved)) (parts_in ss)
parts_stay saved [] = refl
parts_stay saved (s ∷ ss) = by (is_of saved s) (is_one_of (standing saved) (part_of (instance_of s))) (one_of saved s) (parts_stay saved ss)
  where
    rest : List Part
    rest = filter (is_one_of (standing saved)) (parts_in ss)

    by : (t u : Bool) → t ≡ u → parts_in (staying saved ss) ≡ rest → parts_in (cond t (s ∷ staying saved ss) (staying saved ss)) ≡ cond u (part_of (instance_of s) ∷ rest) rest
    by true true e later = ap (λ (ps : List Part). part_of (instance_of s) ∷ ps) later
    by true false e later = cc
    by false true e later = cc
    by false false e later = later

-- the modules of a position are those that stood there
good_modules : (b : Behaviour) (m : Answers) (w : World) (p : Position) → IsGood b m w p → p.modules ≡ (world_at (after b m p.count)).modules
good_modules b m w p h = ap (λ (q : Position). q.modules) h.position ∙ sym (ap (λ s. (world_at s).modules) h.stage)

-- THE BOXES after it has gone back
pub boxes_back : (b : Behaviour) (m : Answers) (w : World) (p : Position) (ss ts : List BoxAt) → IsGood b m w p → AreKept b (staying p.modules ss) ts → parts_in ts ≡ kept_back b m p.count (parts_in ss)
boxes_back b m w p ss ts h kept =
    kept.standing_is
    ∙ ap (λ is. parts_in (staying is ss)) (good_modules b m w p h)
    ∙ parts_stay (world_at (after b m p.count)).modules ss

-- THE BOX THAT IS WANTED
pub back_needs : (b : Behaviour) (m : Answers) (w : World) (p : Position) (ss : List BoxAt) → IsGood b m w p → lacking_of w p.modules ss ≡ needed_back b m p.count (kept_back b m p.count (parts_in ss))
back_needs b m w p ss h =
    let v : World = world_at (after b m p.count) in
    let here : v ≡ h.world = ap world_at h.stage in
    ap (λ is. lacking_of w is ss) (good_modules b m w p h)
    ∙ ap (λ boxes. option_map (request_for w) (first_without boxes (standing v.modules))) (parts_stay v.modules ss)
    ∙ wanted_grown b m p.count w (filter (is_one_of (standing v.modules)) (parts_in ss)) (subst (λ (x : World). GoesOn x.records w.records) (sym here) h.grown.records)

-- ---- one more box

pub kinds_with : (b : Behaviour) (s : BoxAt) (ss : List BoxAt) → IsOfKind b s.box → AreOfKinds b ss → AreOfKinds b (with_seat s ss)
kinds_with b s [] k h = (k, tt)
kinds_with b s (t ∷ ts) k h = by (nat_lt s.id t.id) (kinds_with b s ts k h.1)
  where
    by : (c : Bool) → AreOfKinds b (with_seat s ts) → AreOfKinds b (cond c (s ∷ t ∷ ts) (t ∷ with_seat s ts))
    by true later = (k, h)
    by false later = (h.0, later)

pub parts_with : (s : BoxAt) (ss : List BoxAt) → parts_in (with_seat s ss) ≡ with_part (part_of (instance_of s)) (parts_in ss)
parts_with s [] = refl
parts_with s (t ∷ ts) = by (nat_lt s.id t.id) (parts_with s ts)
  where
    one : Part
    one = part_of (instance_of s)

    by : (c : Bool) → parts_in (with_seat s ts) ≡ with_part one (parts_in ts) → parts_in (cond c (s ∷ t ∷ ts) (t ∷ with_seat s ts)) ≡ cond c (one ∷ part_of (instance_of t) ∷ parts_in ts) (part_of (instance_of t) ∷ with_part one (parts_in ts))
    by true later = refl
    by false later = ap (λ (ps : List Part). part_of (instance_of t) ∷ ps) later

-- ---- what is wanted at the last position

requested_ids : (w : World) (o : Option Part) → option_map (λ (r : Request). r.id) (option_map (request_for w) o) ≡ option_map (λ (p : Part). p.id) o
requested_ids w None = refl
requested_ids w (Some p) = refl

-- by its id
pub lacking_is : (b : Behaviour) (m : Answers) (w : World) (p : Position) (boxes : List Part) → IsGood b m w p → lacking_at (Some p) boxes ≡ option_map (λ (r : Request). r.id) (needed_back b m p.count boxes)
lacking_is b m w p boxes h =
    ap (λ is. option_map (λ (q : Part). q.id) (first_without boxes (standing is))) (good_modules b m w p h)
    ∙ sym (requested_ids (world_at (after b m p.count)) (first_without boxes (standing (world_at (after b m p.count)).modules)))

-- the module that is asked for
asked_for : (w : World) (o : Option Part) (r : Request) → option_map (request_for w) o ≡ Some r → (p : Part) × (o ≡ Some p) × (r ≡ request_for w p)
asked_for w None r e = cc
asked_for w (Some p) r e = (p, refl, cc)

parts_each : (P : Part → Type 0) (is : List Instance) → Each (λ i. P (part_of i)) is → Each P (standing is)
parts_each P [] h = tt
parts_each P (i ∷ is) h = (h.0, parts_each P is h.1)

-- it has no box, and its kind is known
pub back_wants : (b : Behaviour) → IsLawful b → (m : Answers) (k : ℕ) (boxes : List Part) (r : Request) → needed_back b m k boxes ≡ Some r → (b.known r.kind ≡ true) × (is_held r.id boxes ≡ false)
back_wants b law m k boxes r e =
    let v : World = world_at (after b m k) in
    let q = asked_for v (first_without boxes (standing v.modules)) r e in
    let h = without_is (λ (p : Part). b.known p.kind ≡ true) boxes (standing v.modules) q.0 (parts_each (λ (p : Part). b.known p.kind ≡ true) v.modules (kinds_of_run b law m k)) q.1 in
    (ap (λ (x : Request). b.known x.kind) q.2 ∙ h.0, ap (λ (x : Request). is_held x.id boxes) q.2 ∙ h.1)

none_is : {A : Type 0} (o : Option A) → is_some o ≡ false → o ≡ None
none_is None e = refl
none_is (Some x) e = cc

-- so there is room for it
pub not_held : (id : ℕ) (ss : List BoxAt) → is_held id (parts_in ss) ≡ false → module_in id ss ≡ None
not_held id ss e = none_is (module_in id ss) (sym (held_is id ss (module_in id ss) refl) ∙ e)

-- ---- the position where a run waits is the last

-- those up to a later one are all
pub less_up_to : (s limit : ℕ) (ns : List ℕ) → s ≤ limit → up_to_event (Some limit) (up_to_event (Some s) ns) ≡ up_to_event (Some s) ns
less_up_to s limit [] l = refl
less_up_to s limit (n ∷ ns) l = by (nat_le n s) refl (less_up_to s limit ns l)
  where
    passes : (n s limit : ℕ) → s ≤ limit → nat_le n s ≡ true → nat_le n limit ≡ true
    passes n s limit l e = grind (arith, nat_tests)

    by : (t : Bool) → nat_le n s ≡ t → up_to_event (Some limit) (up_to_event (Some s) ns) ≡ up_to_event (Some s) ns
        → up_to_event (Some limit) (cond t (n ∷ up_to_event (Some s) ns) (up_to_event (Some s) ns)) ≡ cond t (n ∷ up_to_event (Some s) ns) (up_to_event (Some s) ns)
    by true e later = rw (passes n s limit l e) (ap (λ (ks : List ℕ). n ∷ ks) later)
    by false e later = later

-- a run begins there again
begins_again : (limit : ℕ) (old : Timeline ℕ) (start : Option ℕ) → start_of limit old.stored ≡ start → start_of limit (cut start old).stored ≡ start
begins_again limit old None e = refl
begins_again limit old (Some s) e =
    let l : s ≤ limit = start_within limit old.stored s e in
    ap (start_of limit) (left_stored old (up_to_event (Some s) old.stored))
    ∙ ap last_count (less_up_to s limit old.stored l)
    ∙ again limit s old.stored l e

pub start_again : (limit : ℕ) (old : Timeline ℕ) → start_of limit (cut (start_of limit old.stored) old).stored ≡ start_of limit old.stored
start_again limit old = begins_again limit old (start_of limit old.stored) refl

filter_again : {X : Type 0} (f : X → Bool) (xs : List X) → filter f (filter f xs) ≡ filter f xs
filter_again f [] = refl
filter_again f (x ∷ xs) = by (f x) refl (filter_again f xs)
  where
    by : (t : Bool) → f x ≡ t → filter f (filter f xs) ≡ filter f xs → filter f (cond t (x ∷ filter f xs) (filter f xs)) ≡ cond t (x ∷ filter f xs) (filter f xs)
    by true e later = rw e (ap (λ ys. x ∷ ys) later)
    by false e later = later

left_again : {A : Type 0} (t : Timeline A) (f : A → Bool) (xs : List A) → left (left t (filter f xs)) (filter f (left t (filter f xs)).stored) ≡ left t (filter f xs)
left_again {A} t f xs = ap (λ ys. left (left t (filter f xs)) (filter f ys)) (left_stored t (filter f xs)) ∙ ap (left (left t (filter f xs))) (filter_again f xs) ∙ same (filter f xs)
  where
    same : (ys : List A) → left (left t ys) ys ≡ left t ys
    same [] = refl
    same (y ∷ ys) = refl

-- to cut them there once more changes nothing
pub cut_again : (k : ℕ) (old : Timeline ℕ) → cut (Some k) (cut (Some k) old) ≡ cut (Some k) old
cut_again k old = left_again old (λ n. nat_le n k) old.stored

pub kept_again : (b : Behaviour) (m : Answers) (k : ℕ) (boxes : List Part) → kept_back b m k (kept_back b m k boxes) ≡ kept_back b m k boxes
kept_again b m k boxes = filter_again (is_one_of (standing (world_at (after b m k)).modules)) boxes

-- there is one
pub last_there : (k : ℕ) (ps : List Position) → last_count (counts_of ps) ≡ Some k → (p : Position) × (last_of ps ≡ Some p) × (p.count ≡ k)
last_there k ps e = by (last_of ps) refl
  where
    by : (o : Option Position) → last_of ps ≡ o → (p : Position) × (last_of ps ≡ Some p) × (p.count ≡ k)
    by None f = let none : None ≡ Some k = sym (ap (option_map (λ (p : Position). p.count)) f) ∙ sym (last_count_is ps) ∙ e in cc
    by (Some p) f = let some : Some p.count ≡ Some k = sym (ap (option_map (λ (p : Position). p.count)) f) ∙ sym (last_count_is ps) ∙ e in (p, f, cc)

-- and the run goes on after it
pub last_goes_on : (b : Behaviour) (m : Answers) (w : World) (ps : List Position) (k : ℕ) → AreGood b m w ps → last_count (counts_of ps) ≡ Some k → CanGoOn b m k
last_goes_on b m w ps k good e =
    let q = last_there k ps e in
    let h : IsGood b m w q.0 = good_last b m w ps q.0 good q.1 in
    subst (CanGoOn b m) q.2 (h.world, sym h.stage)
