-- Parts by rising ids, and those that are left from an id on.
use Rattle.std.proofs.Common.{◌≡◌, ℕ, suc, ◌+◌, ◌≤◌, ◌<◌, ◌==◌, nat_lt, Bool, true, false, cond, List, [], ◌∷◌, Option, Some, None, option_map, refl, sym, ap, ◌∙◌, arith, map, eqb-true, if◌then◌else◌}
use Rattle.std.proofs.lemmas.Bool.Decides.{nat_tests}
use Rattle.std.specs.List.{filter}
use Rattle.module_api.specs.Meaning.{Module}
use Rattle.module_tree.specs.Boxes.{Seated, AreRising}
use Rattle.run_semantics.specs.Run.{Part, standing}
use Rattle.kernel_boxes.specs.Seats.{BoxAt, instance_of, module_in}
use Rattle.kernel.specs.Parts.{part_in}
use Rattle.kernel_boxes.proofs.Seating.{seat}

-- the ids rise, from this number on, and all are below that one
abbrev pub Rise : ℕ → ℕ → List Part → Type 0
Rise from below [] = Unit {0}
Rise from below (p ∷ ps) = (from ≤ p.id) × (p.id < below) × Rise (suc p.id) below ps

-- those that are left from an id on
abbrev pub parts_left : ℕ → List Part → List Part
parts_left n [] = []
parts_left n (p ∷ ps) = if nat_lt p.id n then parts_left n ps else p ∷ ps

-- they rise from a smaller number on too
pub rise_later : (k from below : ℕ) (ps : List Part) → k ≤ from → Rise from below ps → Rise k below ps
rise_later k from below [] h r = tt
rise_later k from below (p ∷ ps) h r = (omega (arith, h, r.0), r.1, r.2)

-- so do those of them that pass a test
pub rise_filter : (f : Part → Bool) (from below : ℕ) (ps : List Part) → Rise from below ps → Rise from below (filter f ps)
rise_filter f from below [] r = tt
rise_filter f from below (p ∷ ps) r = by (f p) (rise_filter f (suc p.id) below ps r.2)
  where
    by : (t : Bool) → Rise (suc p.id) below (filter f ps) → Rise from below (cond t (p ∷ filter f ps) (filter f ps))
    by true later = (r.0, r.1, later)
    by false later = let first = r.0 in rise_later from (suc p.id) below (filter f ps) (omega (arith, first)) later

-- the parts of a tree's boxes rise
pub boxes_rise : {A : Type 0} (means : A → Module) (from below : ℕ) (ss : List (Seated A)) → AreRising from below ss → Rise from below (standing (map instance_of (map (seat means) ss)))
boxes_rise means from below [] r = tt
boxes_rise means from below (s ∷ ss) r = (r.0, r.1, boxes_rise means (suc s.id) below ss r.2)

-- ---- what is left

not_less : (m n : ℕ) → n ≤ m → nat_lt m n ≡ false
not_less m n h = grind (arith, nat_tests)

less : (m n : ℕ) → m < n → nat_lt m n ≡ true
less m n h = grind (arith, nat_tests)

-- all, at first
pub all_left : (ps : List Part) → parts_left 0 ps ≡ ps
all_left [] = refl
all_left (p ∷ ps) = rw (not_less p.id 0 (omega arith)) refl

-- none, at last
pub none_left : (from below : ℕ) (ps : List Part) → Rise from below ps → parts_left below ps ≡ []
none_left from below [] r = refl
none_left from below (p ∷ ps) r = rw (less p.id below r.1) (none_left (suc p.id) below ps r.2)

abbrev with_first : Option Part → List Part → List Part
with_first None ps = ps
with_first (Some p) ps = p ∷ ps

-- all are left that are greater
greater_left : (n from below : ℕ) (ps : List Part) → Rise from below ps → n ≤ from → parts_left n ps ≡ ps
greater_left n from below [] r h = refl
greater_left n from below (p ∷ ps) r h = rw (not_less p.id n (omega (arith, r.0))) refl

-- an id that is smaller is none of theirs
smaller_none : (n from below : ℕ) (ps : List Part) → Rise from below ps → n < from → part_in n ps ≡ None
smaller_none n from below [] r h = refl
smaller_none n from below (p ∷ ps) r h = rw (other p.id n (omega (arith, r.0))) (smaller_none n (suc p.id) below ps r.2 (omega (arith, r.0)))
  where
    other : (m n : ℕ) → n < m → (m == n) ≡ false
    other m n h = grind (arith, nat_tests)

-- one id more
left_step : (n from below : ℕ) (ps : List Part) → Rise from below ps → parts_left n ps ≡ with_first (part_in n ps) (parts_left (n + 1) ps)
left_step n from below [] r = refl
left_step n from below (p ∷ ps) r = by (nat_lt p.id n) (p.id == n) refl refl (left_step n (suc p.id) below ps r.2)
  where
    is_below : nat_lt p.id n ≡ true → p.id < n
    is_below t = grind (arith, nat_tests)

    is_not_below : nat_lt p.id n ≡ false → n ≤ p.id
    is_not_below t = grind (arith, nat_tests)

    is_other : (p.id == n) ≡ false → n ≤ p.id → n < p.id
    is_other t h = grind (arith, nat_tests)

    by : (t e : Bool) → nat_lt p.id n ≡ t → (p.id == n) ≡ e → parts_left n ps ≡ with_first (part_in n ps) (parts_left (n + 1) ps)
        → cond t (parts_left n ps) (p ∷ ps) ≡ with_first (cond e (Some p) (part_in n ps)) (cond (nat_lt p.id (n + 1)) (parts_left (n + 1) ps) (p ∷ ps))
    by true true t e later = let h = is_below t in let s = eqb-true p.id n e in absurd (omega (arith, h, s))
    by true false t e later = let h = is_below t in rw (less p.id (n + 1) (omega (arith, h))) later
    by false true t e later =
        let s = eqb-true p.id n e in
        rw (less p.id (n + 1) (omega (arith, s))) (ap (λ (qs : List Part). p ∷ qs) (sym (greater_left (n + 1) (suc p.id) below ps r.2 (omega (arith, s)))))
    by false false t e later =
        let h = is_other e (is_not_below t) in
        rw (not_less p.id (n + 1) (omega (arith, h)), smaller_none n (suc p.id) below ps r.2 (omega (arith, h))) refl

-- the same, by what stands there
pub left_none : (n from below : ℕ) (ps : List Part) → Rise from below ps → part_in n ps ≡ None → parts_left n ps ≡ parts_left (n + 1) ps
left_none n from below ps r e = left_step n from below ps r ∙ ap (λ (o : Option Part). with_first o (parts_left (n + 1) ps)) e

pub left_some : (n from below : ℕ) (ps : List Part) (p : Part) → Rise from below ps → part_in n ps ≡ Some p → parts_left n ps ≡ p ∷ parts_left (n + 1) ps
left_some n from below ps p r e = left_step n from below ps r ∙ ap (λ (o : Option Part). with_first o (parts_left (n + 1) ps)) e

-- ---- the part of a box

abbrev pub part_for : ℕ → Module → Part
part_for id box = record { id = id; kind = box.kind }

pub part_standing : (id : ℕ) (ss : List BoxAt) → part_in id (standing (map instance_of ss)) ≡ option_map (part_for id) (module_in id ss)
part_standing id [] = refl
part_standing id (s ∷ ss) = by (s.id == id) refl (part_standing id ss)
  where
    by : (t : Bool) → (s.id == id) ≡ t → part_in id (standing (map instance_of ss)) ≡ option_map (part_for id) (module_in id ss)
        → cond t (Some (record { id = s.id; kind = s.box.kind })) (part_in id (standing (map instance_of ss))) ≡ option_map (part_for id) (cond t (Some s.box) (module_in id ss))
    by true t later = ap (λ i. Some (record { id = i; kind = s.box.kind })) (eqb-true s.id id t)
    by false t later = later
