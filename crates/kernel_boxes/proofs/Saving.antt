-- The states of boxes, one id after the other.
use Rattle.std.proofs.Common.{◌≡◌, ℕ, suc, ◌+◌, ◌≤◌, ◌<◌, ◌==◌, nat_lt, Bool, true, false, cond, IsSome, List, [], ◌∷◌, ◌++◌, Option, Some, None, option_map, Result, Ok, Err, OnOk, refl, sym, ap, ◌∙◌, subst, arith, map, eqb-true, append_assoc, append-nil, if◌then◌else◌}
use Rattle.std.proofs.lemmas.Bool.Decides.{nat_tests}
use Rattle.module_api.specs.Behaviour.{State, Behaviour}
use Rattle.module_api.specs.Meaning.{Module}
use Rattle.module_tree.specs.Boxes.{Seated, AreRising}
use Rattle.run_semantics.specs.declared.traces.Instance.{Instance}
use Rattle.run_semantics.specs.Event.{with_state}
use Rattle.run_semantics.specs.Run.{standing}
use Rattle.kernel_boxes.specs.Seats.{BoxAt, instance_of, module_in, AreOfKinds, AreKept}
use Rattle.kernel_boxes.specs.Saved.{instance_at, listed, Takes, IsLoaded}
use Rattle.kernel_boxes.proofs.Keeping.{kind_in, kind_same, kinds_with, standing_with, states_with}
use Rattle.kernel_boxes.proofs.Seating.{seat}

-- those that are left from an id on
abbrev pub instances_left : ℕ → List BoxAt → List Instance
instances_left n [] = []
instances_left n (s ∷ ss) = if nat_lt s.id n then instances_left n ss else instance_of s ∷ map instance_of ss

-- the ids rise, from this number on, and all are below that one
abbrev pub Rise : ℕ → ℕ → List BoxAt → Type 0
Rise from below [] = Unit {0}
Rise from below (s ∷ ss) = (from ≤ s.id) × (s.id < below) × Rise (suc s.id) below ss

pub seats_rise : {A : Type 0} (means : A → Module) (from below : ℕ) (ss : List (Seated A)) → AreRising from below ss → Rise from below (map (seat means) ss)
seats_rise means from below [] r = tt
seats_rise means from below (s ∷ ss) r = (r.0, r.1, seats_rise means (suc s.id) below ss r.2)

not_less : (m n : ℕ) → n ≤ m → nat_lt m n ≡ false
not_less m n h = grind (arith, nat_tests)

less : (m n : ℕ) → m < n → nat_lt m n ≡ true
less m n h = grind (arith, nat_tests)

-- all, at first
pub all_left : (ss : List BoxAt) → instances_left 0 ss ≡ map instance_of ss
all_left [] = refl
all_left (s ∷ ss) = rw (not_less s.id 0 (omega arith)) refl

-- none, at last
pub none_left : (from below : ℕ) (ss : List BoxAt) → Rise from below ss → instances_left below ss ≡ []
none_left from below [] r = refl
none_left from below (s ∷ ss) r = rw (less s.id below r.1) (none_left (suc s.id) below ss r.2)

-- all are left that are greater
greater_left : (n from below : ℕ) (ss : List BoxAt) → Rise from below ss → n ≤ from → instances_left n ss ≡ map instance_of ss
greater_left n from below [] r h = refl
greater_left n from below (s ∷ ss) r h = rw (not_less s.id n (omega (arith, r.0))) refl

-- an id that is smaller is none of theirs
smaller_none : (n from below : ℕ) (ss : List BoxAt) → Rise from below ss → n < from → module_in n ss ≡ None
smaller_none n from below [] r h = refl
smaller_none n from below (s ∷ ss) r h = rw (other s.id n (omega (arith, r.0))) (smaller_none n (suc s.id) below ss r.2 (omega (arith, r.0)))
  where
    other : (m n : ℕ) → n < m → (m == n) ≡ false
    other m n h = grind (arith, nat_tests)

-- one id more
left_step : (n from below : ℕ) (ss : List BoxAt) → Rise from below ss → instances_left n ss ≡ listed (instance_at n (module_in n ss)) ++ instances_left (n + 1) ss
left_step n from below [] r = refl
left_step n from below (s ∷ ss) r = by (nat_lt s.id n) (s.id == n) refl refl (left_step n (suc s.id) below ss r.2)
  where
    is_below : nat_lt s.id n ≡ true → s.id < n
    is_below t = grind (arith, nat_tests)

    is_not_below : nat_lt s.id n ≡ false → n ≤ s.id
    is_not_below t = grind (arith, nat_tests)

    is_other : (s.id == n) ≡ false → n ≤ s.id → n < s.id
    is_other t h = grind (arith, nat_tests)

    by : (t e : Bool) → nat_lt s.id n ≡ t → (s.id == n) ≡ e → instances_left n ss ≡ listed (instance_at n (module_in n ss)) ++ instances_left (n + 1) ss
        → cond t (instances_left n ss) (instance_of s ∷ map instance_of ss) ≡ listed (instance_at n (cond e (Some s.box) (module_in n ss))) ++ cond (nat_lt s.id (n + 1)) (instances_left (n + 1) ss) (instance_of s ∷ map instance_of ss)
    by true true t e later = let h = is_below t in let q = eqb-true s.id n e in absurd (omega (arith, h, q))
    by true false t e later = let h = is_below t in rw (less s.id (n + 1) (omega (arith, h))) later
    by false true t e later =
        let q = eqb-true s.id n e in
        rw (less s.id (n + 1) (omega (arith, q)))
        (ap (λ i. record { id = i; kind = s.box.kind; state = s.box.state } ∷ map instance_of ss) q
        ∙ ap (λ (xs : List Instance). record { id = n; kind = s.box.kind; state = s.box.state } ∷ xs) (sym (greater_left (n + 1) (suc s.id) below ss r.2 (omega (arith, q)))))
    by false false t e later =
        let h = is_other e (is_not_below t) in
        rw (not_less s.id (n + 1) (omega (arith, h)), smaller_none n (suc s.id) below ss r.2 (omega (arith, h))) refl

-- a loop over the ids: what is saved, and what is left, are all
pub saved_more : (n below : ℕ) (ss : List BoxAt) (saved more whole : List Instance) → Rise 0 below ss → more ≡ saved ++ listed (instance_at n (module_in n ss)) → saved ++ instances_left n ss ≡ whole → more ++ instances_left (n + 1) ss ≡ whole
saved_more n below ss saved more whole r e h =
    ap (λ (xs : List Instance). xs ++ instances_left (n + 1) ss) e
    ∙ append_assoc saved (listed (instance_at n (module_in n ss))) (instances_left (n + 1) ss)
    ∙ sym (ap (λ (xs : List Instance). saved ++ xs) (left_step n 0 below ss r))
    ∙ h

pub saved_last : (n below : ℕ) (ss : List BoxAt) (saved whole : List Instance) → n ≡ below → Rise 0 below ss → saved ++ instances_left n ss ≡ whole → saved ≡ whole
saved_last n below ss saved whole e r h =
    sym (append-nil saved) ∙ sym (ap (λ (xs : List Instance). saved ++ xs) (ap (λ k. instances_left k ss) e ∙ none_left 0 below ss r)) ∙ h

-- ---- a state that is loaded

-- the box that takes a state
pub taken : {A : Type 0} (means : A → Module) (state : State) (found : Option A) → Takes state (option_map means found) → IsSome found
taken means state None h = absurd h
taken means state (Some x) h = refl

-- the box is still of its kind
pub loaded_kept : (b : Behaviour) (id : ℕ) (old new : List BoxAt) → IsLoaded id old new → AreOfKinds b old → AreKept b old new
loaded_kept b id old new s h = record {
  kinds = subst (AreOfKinds b) (sym s.seats) (kinds_with b id s.after old (kind_same b s.before s.after s.same (kind_in b id old s.before s.found h)) h);
  standing_is = ap (λ (ss : List BoxAt). standing (map instance_of ss)) s.seats ∙ standing_with id old s.before s.after s.found s.same.kind;
}

-- and in the state that was loaded
pub loaded_state : {U E : Type 0} (id : ℕ) (state : State) (old new : List BoxAt) (result : Result U E) → (s : IsLoaded id old new) → OnOk result (s.after.state ≡ state) → OnOk result (map instance_of new ≡ with_state id state (map instance_of old))
loaded_state id state old new (Ok x) s e = ap (map instance_of) s.seats ∙ states_with id old s.before s.after state s.found s.same.kind e
loaded_state id state old new (Err x) s e = tt
