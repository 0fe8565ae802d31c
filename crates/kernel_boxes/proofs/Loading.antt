-- Boxes that take the states of a position.
use Rattle.std.proofs.Common.{◌≡◌, ℕ, zero, suc, ◌+◌, ◌≤◌, ◌<◌, ◌==◌, true, false, cond, IsTrue, List, [], ◌∷◌, Some, length, drop, get_or, map, refl, sym, ap, ◌∙◌, subst, arith}
use Rattle.std.proofs.Math.Seq.{drop-cons}
use Rattle.std.proofs.lemmas.Bool.Decides.{nat_tests}
use Rattle.module_api.specs.Behaviour.{Behaviour}
use Rattle.run_semantics.specs.declared.traces.Instance.{Instance}
use Rattle.run_semantics.specs.Event.{with_state}
use Rattle.run_semantics.specs.Run.{Part, part_of, standing}
use Rattle.kernel_boxes.specs.Seats.{BoxAt, instance_of, module_in, AreOfKinds, AreKept}
use Rattle.kernel_boxes.specs.Saved.{Takes, CanTake, with_states}
use Rattle.run_semantics.specs.Laws.{AreStates}
use Rattle.kernel_boxes.proofs.Saving.{Rise}

-- the ids rise, from this number on
abbrev pub PartsRise : ℕ → List Part → Type 0
PartsRise from [] = Unit {0}
PartsRise from (p ∷ ps) = (from ≤ p.id) × PartsRise (suc p.id) ps

pub parts_rise : (from below : ℕ) (ss : List BoxAt) → Rise from below ss → PartsRise from (standing (map instance_of ss))
parts_rise from below [] r = tt
parts_rise from below (s ∷ ss) r = (r.0, parts_rise (suc s.id) below ss r.2)

other : (m n : ℕ) → n < m → (m == n) ≡ false
other m n h = grind (arith, nat_tests)

behind_other : (m n : ℕ) → m < n → (m == n) ≡ false
behind_other m n h = grind (arith, nat_tests)

same_id : (m n : ℕ) → m ≡ n → (m == n) ≡ true
same_id m n h = grind (arith, nat_tests, h)

later : (from id : ℕ) (ps : List Part) → suc id ≤ from → PartsRise from ps → PartsRise (suc id) ps
later from id [] h r = tt
later from id (p ∷ ps) h r = (omega (arith, h, r.0), r.1)

-- ---- what each box takes

-- each of these boxes takes its state
abbrev pub AllTake : List Instance → List BoxAt → Type 0
AllTake [] ss = Unit {0}
AllTake (i ∷ is) ss = Takes i.state (module_in i.id ss) × AllTake is ss

-- a box of a smaller id stands before them
before : (s : BoxAt) (ss : List BoxAt) (is : List Instance) → PartsRise (suc s.id) (standing is) → AllTake is ss → AllTake is (s ∷ ss)
before s ss [] r h = tt
before s ss (i ∷ is) r h = (
  subst (λ t. Takes i.state (cond t (Some s.box) (module_in i.id ss))) (sym (behind_other s.id i.id (omega (arith, r.0)))) h.0,
  before s ss is (later (suc i.id) s.id (standing is) (omega (arith, r.0)) r.1) h.1,
)

all_take : (b : Behaviour) (from : ℕ) (ss : List BoxAt) (is : List Instance) → PartsRise from (standing is) → AreOfKinds b ss → standing (map instance_of ss) ≡ standing is → AreStates b is → AllTake is ss
all_take b from [] [] r k e h = tt
all_take b from [] (i ∷ is) r k e h = cc
all_take b from (s ∷ ss) [] r k e h = cc
all_take b from (s ∷ ss) (i ∷ is) r k e h =
    let part : part_of (instance_of s) ≡ part_of i = cc in
    let id : s.id ≡ i.id = ap (λ (p : Part). p.id) part in
    let kind : s.box.kind ≡ i.kind = ap (λ (p : Part). p.kind) part in
    let rest : standing (map instance_of ss) ≡ standing is = cc in (
      subst (λ t. Takes i.state (cond t (Some s.box) (module_in i.id ss))) (sym (same_id s.id i.id id))
          (subst (λ n. IsTrue (n.is_state i.state)) (sym (k.0.named ∙ ap b.naming kind)) h.0),
      before s ss is (subst (λ n. PartsRise (suc n) (standing is)) (sym id) r.1) (all_take b (suc i.id) ss is r.1 k.1 rest h.1),
    )

-- a fact of the boxes of all, of one
one_takes : (index : ℕ) (is : List Instance) (i : Instance) (ss : List BoxAt) → AllTake (drop index is) ss → index < length is → i ≡ get_or is index i → Takes i.state (module_in i.id ss)
one_takes index is i ss h less e =
    let split : drop index is ≡ i ∷ drop (suc index) is = drop-cons is index i less ∙ ap (λ x. x ∷ drop (suc index) is) (sym e) in
    (subst (λ xs. AllTake xs ss) split h).0

drop_take : (index : ℕ) (is : List Instance) (ss : List BoxAt) → AllTake is ss → AllTake (drop index is) ss
drop_take zero is ss h = h
drop_take (suc n) [] ss h = tt
drop_take (suc n) (i ∷ is) ss h = drop_take n is ss h.1

-- ONE OF THE BOXES takes its state, whatever others took before it
pub next_takes : (b : Behaviour) (below index : ℕ) (saved : List Instance) (i : Instance) (old ss : List BoxAt) → Rise 0 below old → CanTake b saved old → AreKept b old ss → index < length saved → i ≡ get_or saved index i → Takes i.state (module_in i.id ss)
next_takes b below index saved i old ss r can kept less e =
    let rises = subst (PartsRise 0) can.same (parts_rise 0 below old r) in
    one_takes index saved i ss (drop_take index saved ss (all_take b 0 ss saved rises kept.kinds (kept.standing_is ∙ can.same) can.states)) less e

-- and what is left to load is what was, but for it
pub next_left : (index : ℕ) (saved is more : List Instance) (i : Instance) → index < length saved → i ≡ get_or saved index i → more ≡ with_state i.id i.state is → with_states (drop (index + 1) saved) more ≡ with_states (drop index saved) is
next_left index saved is more i less e m =
    let split : drop index saved ≡ i ∷ drop (suc index) saved = drop-cons saved index i less ∙ ap (λ x. x ∷ drop (suc index) saved) (sym e) in
    let next : index + 1 ≡ suc index = omega arith in
    ap (with_states (drop (index + 1) saved)) m ∙ ap (λ n. with_states (drop n saved) (with_state i.id i.state is)) next ∙ sym (ap (λ xs. with_states xs is) split)

-- ---- when all took theirs

-- one that is of a smaller id stays as it is
passes : (i : Instance) (ss is : List Instance) → PartsRise (suc i.id) (standing ss) → with_states ss (i ∷ is) ≡ i ∷ with_states ss is
passes i [] is r = refl
passes i (s ∷ ss) is r =
    ap (λ t. with_states ss (cond t (record i { state = s.state } ∷ is) (i ∷ with_state s.id s.state is))) (behind_other i.id s.id (omega (arith, r.0)))
    ∙ passes i ss (with_state s.id s.state is) (later (suc s.id) i.id (standing ss) (omega (arith, r.0)) r.1)

-- THE STATES ARE LOADED: the modules are those of the position
all_loaded : (from : ℕ) (ss is : List Instance) → PartsRise from (standing ss) → standing is ≡ standing ss → with_states ss is ≡ ss
all_loaded from [] [] r e = refl
all_loaded from [] (i ∷ is) r e = cc
all_loaded from (s ∷ ss) [] r e = cc
all_loaded from (s ∷ ss) (i ∷ is) r e =
    let part : part_of i ≡ part_of s = cc in
    let id : i.id ≡ s.id = ap (λ (p : Part). p.id) part in
    let kind : i.kind ≡ s.kind = ap (λ (p : Part). p.kind) part in
    let rest : standing is ≡ standing ss = cc in
    ap (λ t. with_states ss (cond t (record i { state = s.state } ∷ is) (i ∷ with_state s.id s.state is))) (same_id i.id s.id id)
    ∙ ap (λ n. with_states ss (record { id = n; kind = i.kind; state = s.state } ∷ is)) id
    ∙ ap (λ k. with_states ss (record { id = s.id; kind = k; state = s.state } ∷ is)) kind
    ∙ passes s ss is r.1
    ∙ ap (λ xs. s ∷ xs) (all_loaded (suc s.id) ss is r.1 rest)

pub modules_loaded : (b : Behaviour) (below : ℕ) (saved : List Instance) (old : List BoxAt) → Rise 0 below old → CanTake b saved old → with_states saved (map instance_of old) ≡ saved
modules_loaded b below saved old r can = all_loaded 0 saved (map instance_of old) (subst (PartsRise 0) can.same (parts_rise 0 below old r)) can.same

-- ---- what stays

-- boxes that are kept can take the states again
pub can_again : (b : Behaviour) (saved : List Instance) (old new : List BoxAt) → CanTake b saved old → AreKept b old new → CanTake b saved new
can_again b saved old new can kept = record {
  kinds = kept.kinds;
  same = kept.standing_is ∙ can.same;
  states = can.states;
}
