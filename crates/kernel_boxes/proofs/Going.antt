-- Boxes that stay, one id after the other.
use Rattle.std.proofs.Common.{◌≡◌, ℕ, suc, ◌+◌, ◌≤◌, ◌<◌, ◌==◌, ◌&&◌, ◌||◌, nat_lt, bytes_eq, Bool, true, false, cond, List, [], ◌∷◌, Option, None, Some, refl, sym, ap, ◌∙◌, subst, arith, map, length, drop, get_or, eqb-true, if◌then◌else◌}
use Rattle.std.proofs.Math.Seq.{drop-cons}
use Rattle.std.proofs.lemmas.Bool.Decides.{nat_tests}
use Rattle.std.proofs.lemmas.Slice.Eq.{bytes_eq-Decides}
use Rattle.std.specs.List.{filter}
use Rattle.std.specs.Option.{is_some}
use Rattle.module_api.specs.Behaviour.{Behaviour}
use Rattle.module_api.specs.Meaning.{Module}
use Rattle.module_tree.specs.Boxes.{Seated, without_box}
use Rattle.run_semantics.specs.declared.traces.Instance.{Instance}
use Rattle.run_semantics.specs.Run.{Part, part_of, standing}
use Rattle.kernel_boxes.specs.Seats.{BoxAt, instance_of, module_in, AreOfKinds}
use Rattle.kernel_boxes.specs.Staying.{is_of, is_held, first_without, staying, is_first, after_id, stays_at, IdsRise}
use Rattle.kernel_boxes.proofs.Saving.{Rise}
use Rattle.kernel_boxes.proofs.Seating.{seat}

-- those of smaller ids that stay, and all others
abbrev pub passed : ℕ → List Instance → BoxAt → Bool
passed n saved s = if nat_lt s.id n then is_of saved s else true

-- of these modules those from an id on
abbrev pub from_id : ℕ → List Instance → List Instance
from_id n [] = []
from_id n (i ∷ is) = if nat_lt i.id n then from_id n is else i ∷ is

less : (m n : ℕ) → m < n → nat_lt m n ≡ true
less m n h = grind (arith, nat_tests)

not_less : (m n : ℕ) → n ≤ m → nat_lt m n ≡ false
not_less m n h = grind (arith, nat_tests)

other : (m n : ℕ) → n < m → (m == n) ≡ false
other m n h = grind (arith, nat_tests)

other_below : (m n : ℕ) → m < n → (m == n) ≡ false
other_below m n h = grind (arith, nat_tests)

same_id : (m n : ℕ) → m ≡ n → (m == n) ≡ true
same_id m n h = grind (arith, nat_tests, h)

same_bytes : (xs ys : List ℕ) → xs ≡ ys → bytes_eq xs ys ≡ true
same_bytes xs ys e = (bytes_eq-Decides xs ys).1 e

is_less : (m n : ℕ) → nat_lt m n ≡ true → m < n
is_less m n h = grind (arith, nat_tests)

is_least : (m n : ℕ) → nat_lt m n ≡ false → n ≤ m
is_least m n h = grind (arith, nat_tests)

is_greater : (m n : ℕ) → n ≤ m → (m == n) ≡ false → n < m
is_greater m n h e = grind (arith, nat_tests)

-- ---- filters

-- all pass, one by one
pub all_pass : {X : Type 0} (p : X → Bool) (xs : List X) → ((x : X) → p x ≡ true) → filter p xs ≡ xs
all_pass p [] h = refl
all_pass p (x ∷ xs) h = rw (h x) (ap (λ ys. x ∷ ys) (all_pass p xs h))

-- one filter after the other
pub both_pass : {X : Type 0} (p q r : X → Bool) (xs : List X) → ((x : X) → r x ≡ cond (q x) (p x) false) → filter p (filter q xs) ≡ filter r xs
both_pass p q r [] h = refl
both_pass p q r (x ∷ xs) h = by (q x) (r x) (h x) (both_pass p q r xs h)
  where
    by : (t u : Bool) → u ≡ cond t (p x) false → filter p (filter q xs) ≡ filter r xs → filter p (cond t (x ∷ filter q xs) (filter q xs)) ≡ cond u (x ∷ filter r xs) (filter r xs)
    by true u e later = rw e (ap (λ ys. cond (p x) (x ∷ ys) ys) later)
    by false u e later = rw e later

-- ---- a box that is looked at

-- the boxes without the one of an id
abbrev pub without : ℕ → List BoxAt → List BoxAt
without id [] = []
without id (s ∷ ss) = if s.id == id then ss else s ∷ without id ss

module _ {A : Type 0} (means : A → Module) where
  pub out_of : (id : ℕ) (ss : List (Seated A)) → map (seat means) (without_box id ss) ≡ without id (map (seat means) ss)
  out_of id [] = refl
  out_of id (s ∷ ss) = by (s.id == id) (out_of id ss)
    where
      by : (t : Bool) → map (seat means) (without_box id ss) ≡ without id (map (seat means) ss) → map (seat means) (cond t ss (s ∷ without_box id ss)) ≡ cond t (map (seat means) ss) (seat means s ∷ without id (map (seat means) ss))
      by true later = refl
      by false later = ap (λ ts. seat means s ∷ ts) later

-- those of greater ids stay
greater_stay : (id : ℕ) (saved : List Instance) (from below : ℕ) (ss : List BoxAt) → Rise from below ss → id < from → filter (stays_at id saved) ss ≡ ss
greater_stay id saved from below [] r h = refl
greater_stay id saved from below (s ∷ ss) r h = rw (other s.id id (omega (arith, h, r.0))) (ap (λ ts. s ∷ ts) (greater_stay id saved (suc s.id) below ss r.2 (omega (arith, h, r.0))))

-- WHAT BECOMES of the boxes: where the one of the id is of the first module all stay, and else all
-- but that one
pub looked_at : (id : ℕ) (saved : List Instance) (from below : ℕ) (ss : List BoxAt) → Rise from below ss → filter (stays_at id saved) ss ≡ cond (is_first id saved (module_in id ss)) ss (without id ss)
looked_at id saved from below [] r = refl
looked_at id saved from below (s ∷ ss) r = by (s.id == id) refl (looked_at id saved (suc s.id) below ss r.2)
  where
    here : (t : Bool) → (s.id == id) ≡ true → cond t (s ∷ filter (stays_at id saved) ss) (filter (stays_at id saved) ss) ≡ cond t (s ∷ ss) ss
    here t e =
        let same : s.id ≡ id = eqb-true s.id id e in
        ap (λ ts. cond t (s ∷ ts) ts) (greater_stay id saved (suc s.id) below ss r.2 (omega (arith, same)))

    there : (t : Bool) → filter (stays_at id saved) ss ≡ cond t ss (without id ss) → s ∷ filter (stays_at id saved) ss ≡ cond t (s ∷ ss) (s ∷ without id ss)
    there true e = ap (λ ts. s ∷ ts) e
    there false e = ap (λ ts. s ∷ ts) e

    by : (t : Bool) → (s.id == id) ≡ t → filter (stays_at id saved) ss ≡ cond (is_first id saved (module_in id ss)) ss (without id ss)
        → cond (cond t (is_first id saved (Some s.box)) true) (s ∷ filter (stays_at id saved) ss) (filter (stays_at id saved) ss)
        ≡ cond (is_first id saved (cond t (Some s.box) (module_in id ss))) (s ∷ ss) (cond t ss (s ∷ without id ss))
    by true e later = here (is_first id saved (Some s.box)) e
    by false e later = there (is_first id saved (module_in id ss)) later

-- ---- one id more

-- none of these modules has a smaller id
none_of : (from : ℕ) (saved : List Instance) (s : BoxAt) → IdsRise from saved → s.id < from → is_of saved s ≡ false
none_of from [] s r h = refl
none_of from (i ∷ is) s r h = rw (other i.id s.id (omega (arith, h, r.0))) (none_of (suc i.id) is s r.1 (omega (arith, h, r.0)))

-- of the modules from an id on the first is the one of that id, where there is one
at_first : (from n : ℕ) (saved : List Instance) (s : BoxAt) → IdsRise from saved → s.id ≡ n → is_of saved s ≡ is_first n (from_id n saved) (Some s.box)
at_first from n [] s r e = refl
at_first from n (i ∷ is) s r e = by (nat_lt i.id n) refl (at_first (suc i.id) n is s r.1 e)
  where
    by : (t : Bool) → nat_lt i.id n ≡ t → is_of is s ≡ is_first n (from_id n is) (Some s.box)
        → cond (i.id == s.id) (bytes_eq i.kind s.box.kind) (is_of is s) ≡ is_first n (cond t (from_id n is) (i ∷ is)) (Some s.box)
    by true t later =
        let h = is_less i.id n t in
        rw (other_below i.id s.id (omega (arith, h, e))) later
    by false t later = at (i.id == n) refl
      where
        at : (u : Bool) → (i.id == n) ≡ u → cond (i.id == s.id) (bytes_eq i.kind s.box.kind) (is_of is s) ≡ (i.id == n) && bytes_eq i.kind s.box.kind
        at true u =
            let q = eqb-true i.id n u in
            ap (λ k. cond (i.id == k) (bytes_eq i.kind s.box.kind) (is_of is s)) e ∙ rw u refl
        at false u =
            let h = is_greater i.id n (is_least i.id n t) u in
            ap (λ k. cond (i.id == k) (bytes_eq i.kind s.box.kind) (is_of is s)) e ∙ rw u (none_of (suc i.id) is s r.1 (omega (arith, h, e)))

-- a box passes the next id where it passed those before and stays at this one
pub passes_on : (n : ℕ) (saved : List Instance) (s : BoxAt) → IdsRise 0 saved → passed (n + 1) saved s ≡ cond (passed n saved s) (stays_at n (from_id n saved) s) false
passes_on n saved s r = by (nat_lt s.id n) (s.id == n) refl refl
  where
    kept : (t : Bool) → t ≡ cond t true false
    kept true = refl
    kept false = refl

    by : (t e : Bool) → nat_lt s.id n ≡ t → (s.id == n) ≡ e
        → cond (nat_lt s.id (n + 1)) (is_of saved s) true ≡ cond (cond t (is_of saved s) true) (cond e (is_first n (from_id n saved) (Some s.box)) true) false
    by true true t e = let h = is_less s.id n t in let q = eqb-true s.id n e in absurd (omega (arith, h, q))
    by true false t e = let h = is_less s.id n t in rw (less s.id (n + 1) (omega (arith, h))) (kept (is_of saved s))
    by false true t e = let q = eqb-true s.id n e in rw (less s.id (n + 1) (omega (arith, q))) (at_first 0 n saved s r q)
    by false false t e = let h = is_greater s.id n (is_least s.id n t) e in rw (not_less s.id (n + 1) (omega (arith, h))) refl

-- of those from an id on the rest after it are those from the next one on
pub next_left : (from n : ℕ) (saved : List Instance) → IdsRise from saved → after_id n (from_id n saved) ≡ from_id (n + 1) saved
next_left from n [] r = refl
next_left from n (i ∷ is) r = by (nat_lt i.id n) (i.id == n) refl refl (next_left (suc i.id) n is r.1)
  where
    all_left : (low m : ℕ) (js : List Instance) → IdsRise low js → m ≤ low → from_id m js ≡ js
    all_left low m [] q h = refl
    all_left low m (j ∷ js) q h = rw (not_less j.id m (omega (arith, h, q.0))) refl

    by : (t e : Bool) → nat_lt i.id n ≡ t → (i.id == n) ≡ e → after_id n (from_id n is) ≡ from_id (n + 1) is
        → after_id n (cond t (from_id n is) (i ∷ is)) ≡ cond (nat_lt i.id (n + 1)) (from_id (n + 1) is) (i ∷ is)
    by true e t q later = let h = is_less i.id n t in rw (less i.id (n + 1) (omega (arith, h))) later
    by false true t e later =
        let q = eqb-true i.id n e in
        rw (e, less i.id (n + 1) (omega (arith, q))) (sym (all_left (suc i.id) (n + 1) is r.1 (omega (arith, q))))
    by false false t e later =
        let h = is_greater i.id n (is_least i.id n t) e in
        rw (e, not_less i.id (n + 1) (omega (arith, h))) refl

-- ---- the first and the last id

pub first_passed : (saved : List Instance) (ss : List BoxAt) → filter (passed 0 saved) ss ≡ ss
first_passed saved ss = all_pass (passed 0 saved) ss (λ s. rw (not_less s.id 0 (omega arith)) refl)

pub all_from : (saved : List Instance) → from_id 0 saved ≡ saved
all_from [] = refl
all_from (i ∷ is) = rw (not_less i.id 0 (omega arith)) refl

pub last_passed : (saved : List Instance) (from below : ℕ) (ss : List BoxAt) → Rise from below ss → filter (passed below saved) ss ≡ staying saved ss
last_passed saved from below [] r = refl
last_passed saved from below (s ∷ ss) r = rw (less s.id below r.1) (ap (λ ts. cond (is_of saved s) (s ∷ ts) ts) (last_passed saved (suc s.id) below ss r.2))

-- ---- where the boxes are those of the modules

-- the ids of modules that have boxes rise
pub ids_rise : (from below : ℕ) (ss : List BoxAt) (saved : List Instance) → Rise from below ss → standing (map instance_of ss) ≡ standing saved → IdsRise from saved
ids_rise from below [] [] r e = tt
ids_rise from below [] (i ∷ is) r e = cc
ids_rise from below (s ∷ ss) [] r e = cc
ids_rise from below (s ∷ ss) (i ∷ is) r e =
    let part : part_of (instance_of s) ≡ part_of i = cc in
    let id : s.id ≡ i.id = ap (λ (p : Part). p.id) part in
    let rest : standing (map instance_of ss) ≡ standing is = cc in
    (omega (arith, r.0, id), subst (λ n. IdsRise (suc n) is) id (ids_rise (suc s.id) below ss is r.2 rest))

-- a module of a smaller id says nothing of them
passed_over : (i : Instance) (from : ℕ) (ss : List BoxAt) (is : List Instance) → IdsRise from (map instance_of ss) → i.id < from → filter (is_of (i ∷ is)) ss ≡ filter (is_of is) ss
passed_over i from [] is r h = refl
passed_over i from (s ∷ ss) is r h =
    rw (other_below i.id s.id (omega (arith, h, r.0))) (ap (λ ts. cond (is_of is s) (s ∷ ts) ts) (passed_over i (suc s.id) ss is r.1 (omega (arith, h, r.0))))

-- ALL STAY
pub all_stay : (from : ℕ) (ss : List BoxAt) (saved : List Instance) → IdsRise from (map instance_of ss) → standing (map instance_of ss) ≡ standing saved → staying saved ss ≡ ss
all_stay from [] saved r e = refl
all_stay from (s ∷ ss) [] r e = cc
all_stay from (s ∷ ss) (i ∷ is) r e =
    let part : part_of (instance_of s) ≡ part_of i = cc in
    let id : i.id ≡ s.id = sym (ap (λ (p : Part). p.id) part) in
    let kind : i.kind ≡ s.box.kind = sym (ap (λ (p : Part). p.kind) part) in
    let rest : standing (map instance_of ss) ≡ standing is = cc in
    rw (same_id i.id s.id id, same_bytes i.kind s.box.kind kind)
    (ap (λ ts. s ∷ ts) (passed_over i (suc s.id) ss is r.1 (omega (arith, id)) ∙ all_stay (suc s.id) ss is r.1 rest))

-- the ids of the same modules rise
pub rise_alike : (from : ℕ) (xs ys : List Instance) → standing xs ≡ standing ys → IdsRise from xs → IdsRise from ys
rise_alike from [] [] e r = tt
rise_alike from [] (y ∷ ys) e r = cc
rise_alike from (x ∷ xs) [] e r = cc
rise_alike from (x ∷ xs) (y ∷ ys) e r =
    let part : part_of x ≡ part_of y = cc in
    let id : x.id ≡ y.id = ap (λ (p : Part). p.id) part in
    let rest : standing xs ≡ standing ys = cc in
    (omega (arith, r.0, id), subst (λ n. IdsRise (suc n) ys) id (rise_alike (suc x.id) xs ys rest r.1))

-- a module has a box, where it stands among those of boxes
pub held_is : (id : ℕ) (ss : List BoxAt) (found : Option Module) → module_in id ss ≡ found → is_held id (standing (map instance_of ss)) ≡ is_some found
held_is id [] found e = ap is_some e
held_is id (s ∷ ss) found e = by (s.id == id) (held_is id ss) e
  where
    by : (t : Bool) → ((found : Option Module) → module_in id ss ≡ found → is_held id (standing (map instance_of ss)) ≡ is_some found)
        → cond t (Some s.box) (module_in id ss) ≡ found → (t || is_held id (standing (map instance_of ss))) ≡ is_some found
    by true later e = ap is_some e
    by false later e = later found e

-- each of these modules has a box
abbrev AllHeld : List Part → List Part → Type 0
AllHeld [] boxes = Unit {0}
AllHeld (p ∷ ps) boxes = (is_held p.id boxes ≡ true) × AllHeld ps boxes

one_more : (ps : List Part) (q : Part) (boxes : List Part) → AllHeld ps boxes → AllHeld ps (q ∷ boxes)
one_more [] q boxes h = tt
one_more (p ∷ ps) q boxes h = (by (q.id == p.id), one_more ps q boxes h.1)
  where
    by : (t : Bool) → (t || is_held p.id boxes) ≡ true
    by true = refl
    by false = h.0

own_held : (ps : List Part) → AllHeld ps ps
own_held [] = tt
own_held (p ∷ ps) = (ap (λ t. t || is_held p.id ps) (same_id p.id p.id refl), one_more ps p ps (own_held ps))

none_without : (boxes ps : List Part) → AllHeld ps boxes → first_without boxes ps ≡ None
none_without boxes [] h = refl
none_without boxes (p ∷ ps) h = rw h.0 (none_without boxes ps h.1)

-- NONE IS LACKING
pub none_lacks : (boxes ps : List Part) → boxes ≡ ps → first_without boxes ps ≡ None
none_lacks boxes ps e = ap (λ held. first_without held ps) e ∙ none_without ps ps (own_held ps)

-- ---- one module after the other

split : (index : ℕ) (is : List Instance) (i : Instance) → index < length is → i ≡ get_or is index i → drop index is ≡ i ∷ drop (suc index) is
split index is i less e = drop-cons is index i less ∙ ap (λ x. x ∷ drop (suc index) is) (sym e)

-- the first of those that are left has none
pub lacks_first : (index : ℕ) (saved : List Instance) (i : Instance) (boxes : List Part) → index < length saved → i ≡ get_or saved index i → is_held i.id boxes ≡ false → first_without boxes (standing (drop index saved)) ≡ Some (part_of i)
lacks_first index saved i boxes less e none = ap (λ is. first_without boxes (standing is)) (split index saved i less e) ∙ rw none refl

-- it has one
pub lacks_next : (index : ℕ) (saved : List Instance) (i : Instance) (boxes : List Part) → index < length saved → i ≡ get_or saved index i → is_held i.id boxes ≡ true
    → first_without boxes (standing (drop (index + 1) saved)) ≡ first_without boxes (standing (drop index saved))
lacks_next index saved i boxes less e some =
    let next : index + 1 ≡ suc index = omega arith in
    ap (λ n. first_without boxes (standing (drop n saved))) next ∙ sym (ap (λ is. first_without boxes (standing is)) (split index saved i less e) ∙ rw some refl)

-- ---- where none is lacking

none_stay : (ss : List BoxAt) → staying [] ss ≡ []
none_stay [] = refl
none_stay (s ∷ ss) = none_stay ss

-- of boxes of greater ids none is that module's
not_among : (id from below : ℕ) (saved : List Instance) (ss : List BoxAt) → Rise from below ss → id < from → is_held id (standing (map instance_of (staying saved ss))) ≡ false
not_among id from below saved [] r h = refl
not_among id from below saved (s ∷ ss) r h = by (is_of saved s) (not_among id (suc s.id) below saved ss r.2 (omega (arith, h, r.0)))
  where
    by : (t : Bool) → is_held id (standing (map instance_of (staying saved ss))) ≡ false → is_held id (standing (map instance_of (cond t (s ∷ staying saved ss) (staying saved ss)))) ≡ false
    by true later = rw (other s.id id (omega (arith, h, r.0))) later
    by false later = later

-- the box of a smaller id is asked for by none of them
head_passed : (p : Part) (boxes : List Part) (from : ℕ) (saved : List Instance) → IdsRise from saved → p.id < from → first_without (p ∷ boxes) (standing saved) ≡ first_without boxes (standing saved)
head_passed p boxes from [] r h = refl
head_passed p boxes from (i ∷ is) r h =
    rw (other_below p.id i.id (omega (arith, h, r.0))) (ap (λ rest. cond (is_held i.id boxes) rest (Some (part_of i))) (head_passed p boxes (suc i.id) is r.1 (omega (arith, h, r.0))))

-- ALL ARE THERE: the boxes that stay are those of the modules
pub all_there : (from below : ℕ) (saved : List Instance) (ss : List BoxAt) → IdsRise from saved → Rise from below ss → first_without (standing (map instance_of (staying saved ss))) (standing saved) ≡ None
    → standing (map instance_of (staying saved ss)) ≡ standing saved
all_there from below [] ss q r e = ap (λ ts. standing (map instance_of ts)) (none_stay ss)
all_there from below (i ∷ is) [] q r e = cc
all_there from below (i ∷ is) (s ∷ ss) q r e =
    by (nat_lt s.id i.id) (s.id == i.id) refl refl (all_there (suc s.id) below (i ∷ is) ss) (all_there (suc s.id) below is ss)
  where
    Same : List Instance → Type 0
    Same saved = first_without (standing (map instance_of (staying saved ss))) (standing saved) ≡ None → standing (map instance_of (staying saved ss)) ≡ standing saved

    parts : List BoxAt → List Part
    parts ts = standing (map instance_of ts)

    -- the module has no box
    lost : is_held i.id (parts (staying (i ∷ is) (s ∷ ss))) ≡ false → parts (staying (i ∷ is) (s ∷ ss)) ≡ standing (i ∷ is)
    lost none = let some : Some (part_of i) ≡ None = sym (ap (λ t. cond t (first_without (parts (staying (i ∷ is) (s ∷ ss))) (standing is)) (Some (part_of i))) none) ∙ e in cc

    met : s.id ≡ i.id → (k : Bool) → bytes_eq i.kind s.box.kind ≡ k → (IdsRise (suc s.id) is → Rise (suc s.id) below ss → Same is) → parts (staying (i ∷ is) (s ∷ ss)) ≡ standing (i ∷ is)
    met id true k later =
        let stays : is_of (i ∷ is) s ≡ true = rw (same_id i.id s.id (sym id)) k in
        let same : staying (i ∷ is) (s ∷ ss) ≡ s ∷ staying is ss = ap (λ t. cond t (s ∷ staying (i ∷ is) ss) (staying (i ∷ is) ss)) stays ∙ ap (λ ts. s ∷ ts) (passed_over i (suc s.id) ss is (ids_rise (suc s.id) below ss (map instance_of ss) r.2 refl) (omega (arith, id))) in
        let kind : s.box.kind ≡ i.kind = sym ((bytes_eq-Decides i.kind s.box.kind).0 k) in
        let none : first_without (parts (s ∷ staying is ss)) (standing is) ≡ None =
        sym (ap (λ t. cond (t || is_held i.id (parts (staying is ss))) (first_without (parts (s ∷ staying is ss)) (standing is)) (Some (part_of i))) (same_id s.id i.id id))
        ∙ sym (ap (λ ts. first_without (parts ts) (standing (i ∷ is))) same) ∙ e in
        let rest = later (subst (λ n. IdsRise (suc n) is) (sym id) q.1) r.2 (sym (head_passed (part_of (instance_of s)) (parts (staying is ss)) (suc i.id) is q.1 (omega (arith, id))) ∙ none) in
        ap parts same ∙ ap (λ n. record { id = n; kind = s.box.kind } ∷ parts (staying is ss)) id ∙ ap (λ n. record { id = i.id; kind = n } ∷ parts (staying is ss)) kind ∙ ap (λ ps. part_of i ∷ ps) rest
    met id false k later =
        let goes : is_of (i ∷ is) s ≡ false = rw (same_id i.id s.id (sym id)) k in
        lost (ap (λ t. is_held i.id (parts (cond t (s ∷ staying (i ∷ is) ss) (staying (i ∷ is) ss)))) goes ∙ not_among i.id (suc s.id) below (i ∷ is) ss r.2 (omega (arith, id)))

    by : (t u : Bool) → nat_lt s.id i.id ≡ t → (s.id == i.id) ≡ u → (IdsRise (suc s.id) (i ∷ is) → Rise (suc s.id) below ss → Same (i ∷ is)) → (IdsRise (suc s.id) is → Rise (suc s.id) below ss → Same is)
        → parts (staying (i ∷ is) (s ∷ ss)) ≡ standing (i ∷ is)
    by true u t v later also =
        let h = is_less s.id i.id t in
        let goes : is_of (i ∷ is) s ≡ false = none_of i.id (i ∷ is) s (omega arith, q.1) h in
        let same : staying (i ∷ is) (s ∷ ss) ≡ staying (i ∷ is) ss = ap (λ t. cond t (s ∷ staying (i ∷ is) ss) (staying (i ∷ is) ss)) goes in
        ap parts same ∙ later (omega (arith, h), q.1) r.2 (sym (ap (λ ts. first_without (parts ts) (standing (i ∷ is))) same) ∙ e)
    by false true t v later also = met (eqb-true s.id i.id v) (bytes_eq i.kind s.box.kind) refl also
    by false false t v later also =
        let h = is_greater s.id i.id (is_least s.id i.id t) v in
        lost (not_among i.id s.id below (i ∷ is) (s ∷ ss) (omega arith, r.1, r.2) h)

-- those that stay are of their kinds
pub kinds_stay : (b : Behaviour) (saved : List Instance) (ss : List BoxAt) → AreOfKinds b ss → AreOfKinds b (staying saved ss)
kinds_stay b saved [] h = tt
kinds_stay b saved (s ∷ ss) h = by (is_of saved s) (kinds_stay b saved ss h.1)
  where
    by : (t : Bool) → AreOfKinds b (staying saved ss) → AreOfKinds b (cond t (s ∷ staying saved ss) (staying saved ss))
    by true later = (h.0, later)
    by false later = later
