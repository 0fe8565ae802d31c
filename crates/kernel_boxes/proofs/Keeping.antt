-- Boxes whose states change are of their kinds and of the same modules still.
use Rattle.std.proofs.Common.{◌≡◌, ℕ, ◌==◌, Bool, true, false, cond, List, [], ◌∷◌, Some, refl, sym, ap, ◌∙◌, subst, map}
use Rattle.module_api.specs.Behaviour.{Behaviour}
use Rattle.module_api.specs.Meaning.{Module, IsSameModule, IsOfKind}
use Rattle.run_semantics.specs.declared.traces.Instance.{Instance}
use Rattle.run_semantics.specs.Event.{with_state}
use Rattle.run_semantics.specs.Run.{Part, part_of, standing}
use Rattle.kernel_boxes.specs.Seats.{BoxAt, instance_of, module_in, with_module, AreOfKinds, AreKept}

-- another of its kind
pub kind_same : (b : Behaviour) (old new : Module) → IsSameModule old new → IsOfKind b old → IsOfKind b new
kind_same b old new s k = record {
  known = rw (s.kind) k.known;
  named = s.naming ∙ k.named ∙ ap b.naming (sym s.kind);
}

-- the box that is called is of its kind
pub kind_in : (b : Behaviour) (id : ℕ) (ss : List BoxAt) (box : Module) → module_in id ss ≡ Some box → AreOfKinds b ss → IsOfKind b box
kind_in b id [] box e h = cc
kind_in b id (s ∷ ss) box e h = by (s.id == id) (kind_in b id ss box) e
  where
    by : (t : Bool) → (module_in id ss ≡ Some box → AreOfKinds b ss → IsOfKind b box) → cond t (Some s.box) (module_in id ss) ≡ Some box → IsOfKind b box
    by true later e = let same : s.box ≡ box = cc in subst (IsOfKind b) same h.0
    by false later e = later e h.1

-- another of its kind stands in its place
pub kinds_with : (b : Behaviour) (id : ℕ) (box : Module) (ss : List BoxAt) → IsOfKind b box → AreOfKinds b ss → AreOfKinds b (with_module id box ss)
kinds_with b id box [] k h = tt
kinds_with b id box (s ∷ ss) k h = by (s.id == id) (kinds_with b id box ss k h.1)
  where
    by : (t : Bool) → AreOfKinds b (with_module id box ss) → AreOfKinds b (cond t (record { id = s.id; box = box } ∷ ss) (s ∷ with_module id box ss))
    by true later = (k, h.1)
    by false later = (h.0, later)

abbrev part_of_seat : BoxAt → Part
part_of_seat s = part_of (instance_of s)

-- the same modules stand
pub standing_with : (id : ℕ) (ss : List BoxAt) (before after : Module) → module_in id ss ≡ Some before → after.kind ≡ before.kind → standing (map instance_of (with_module id after ss)) ≡ standing (map instance_of ss)
standing_with id [] before after e k = refl
standing_with id (s ∷ ss) before after e k = by (s.id == id) (λ h. standing_with id ss before after h k) e
  where
    by : (t : Bool) → (module_in id ss ≡ Some before → standing (map instance_of (with_module id after ss)) ≡ standing (map instance_of ss)) → cond t (Some s.box) (module_in id ss) ≡ Some before
        → standing (map instance_of (cond t (record { id = s.id; box = after } ∷ ss) (s ∷ with_module id after ss))) ≡ standing (map instance_of (s ∷ ss))
    by true later e =
        let same : before ≡ s.box = cc in
        let kind : after.kind ≡ s.box.kind = k ∙ ap (λ (x : Module). x.kind) same in
        ap (λ kind. record { id = s.id; kind = kind } ∷ standing (map instance_of ss)) kind
    by false later e = ap (λ (ps : List Part). part_of_seat s ∷ ps) (later e)

-- one after the other
pub still_kept : {b : Behaviour} {old mid new : List BoxAt} → AreKept b old mid → AreKept b mid new → AreKept b old new
still_kept first second = record { kinds = second.kinds; standing_is = second.standing_is ∙ first.standing_is }

-- the state that is left stands where the old one stood
pub states_with : (id : ℕ) (ss : List BoxAt) (before after : Module) (state : List ℕ) → module_in id ss ≡ Some before → after.kind ≡ before.kind → after.state ≡ state → map instance_of (with_module id after ss) ≡ with_state id state (map instance_of ss)
states_with id [] before after state e k t = refl
states_with id (s ∷ ss) before after state e k t = by (s.id == id) (λ h. states_with id ss before after state h k t) e
  where
    by : (c : Bool) → (module_in id ss ≡ Some before → map instance_of (with_module id after ss) ≡ with_state id state (map instance_of ss)) → cond c (Some s.box) (module_in id ss) ≡ Some before
        → map instance_of (cond c (record { id = s.id; box = after } ∷ ss) (s ∷ with_module id after ss)) ≡ cond c (record (instance_of s) { state = state } ∷ map instance_of ss) (instance_of s ∷ with_state id state (map instance_of ss))
    by true later e =
        let same : before ≡ s.box = cc in
        let kind : after.kind ≡ s.box.kind = k ∙ ap (λ (x : Module). x.kind) same in
        ap (λ x. record { id = s.id; kind = x; state = after.state } ∷ map instance_of ss) kind
        ∙ ap (λ x. record { id = s.id; kind = s.box.kind; state = x } ∷ map instance_of ss) t
    by false later e = ap (λ (is : List Instance). instance_of s ∷ is) (later e)
