-- Boxes in their places.
use Rattle.std.proofs.Common.{◌≡◌, ℕ, ◌<◌, ◌==◌, nat_lt, Bool, true, false, cond, List, [], ◌∷◌, ◌++◌, Some, None, option_map, Result, Ok, Err, OnOk, OnErr, refl, sym, ap, ◌∙◌, subst, arith, map}
use Rattle.std.proofs.lemmas.Bool.Decides.{nat_tests}
use Rattle.module_api.specs.Behaviour.{Behaviour}
use Rattle.module_api.specs.Meaning.{Module, IsOfKind}
use Rattle.module_tree.specs.Boxes.{Seated, box_of, with_box, without_box, AreRising}
use Rattle.module_tree.proofs.Seats.{another_in, same_found, put_again}
use Rattle.kernel_boxes.specs.Seats.{BoxAt, instance_of, module_in, with_module, AreBelow, AreOfKinds}

-- what the boxes of a tree are
module _ {A : Type 0} (means : A → Module) where
  abbrev pub seat : Seated A → BoxAt
  seat s = record { id = s.id; box = means s.box }

  -- the box of an id
  pub means_in : (id : ℕ) (ss : List (Seated A)) → module_in id (map seat ss) ≡ option_map means (box_of id ss)
  means_in id [] = refl
  means_in id (s ∷ ss) = by (s.id == id) (means_in id ss)
    where
      by : (t : Bool) → module_in id (map seat ss) ≡ option_map means (box_of id ss) → cond t (Some (means s.box)) (module_in id (map seat ss)) ≡ option_map means (cond t (Some s.box) (box_of id ss))
      by true later = refl
      by false later = later

  means_with : (id : ℕ) (y : A) (ss : List (Seated A)) → map seat (another_in id y ss) ≡ with_module id (means y) (map seat ss)
  means_with id y [] = refl
  means_with id y (s ∷ ss) = by (s.id == id) (means_with id y ss)
    where
      by : (t : Bool) → map seat (another_in id y ss) ≡ with_module id (means y) (map seat ss) → map seat (cond t (record { id = s.id; box = y } ∷ ss) (s ∷ another_in id y ss)) ≡ cond t (record { id = s.id; box = means y } ∷ map seat ss) (seat s ∷ with_module id (means y) (map seat ss))
      by true later = refl
      by false later = ap (λ ts. seat s ∷ ts) later

  -- a box that was taken out is put back
  pub put_back_in : (id below : ℕ) (x y : A) (ss : List (Seated A)) → AreRising 0 below ss → box_of id ss ≡ Some x → map seat (with_box id y (without_box id ss)) ≡ with_module id (means y) (map seat ss)
  put_back_in id below x y ss r e = ap (map seat) (put_again id below x y 0 ss r e) ∙ means_with id y ss

  -- none was there
  pub none_out_of : (id : ℕ) (ss : List (Seated A)) → box_of id ss ≡ None → map seat (without_box id ss) ≡ map seat ss
  none_out_of id ss e = ap (map seat) (same_found id ss e)

  -- ---- one more box

  last_in : (id : ℕ) (y : A) (ss : List (Seated A)) → AreBelow id (map instance_of (map seat ss)) → with_box id y ss ≡ ss ++ record { id = id; box = y } ∷ []
  last_in id y [] h = refl
  last_in id y (s ∷ ss) h = rw (less id s.id h.0) (ap (λ ts. s ∷ ts) (last_in id y ss h.1))
    where
      less : (m n : ℕ) → n < m → nat_lt m n ≡ false
      less m n h = grind (arith, nat_tests)

  pub none_below : (id : ℕ) (ss : List (Seated A)) → AreBelow id (map instance_of (map seat ss)) → box_of id ss ≡ None
  none_below id [] h = refl
  none_below id (s ∷ ss) h = rw (other id s.id h.0) (none_below id ss h.1)
    where
      other : (m n : ℕ) → n < m → (n == m) ≡ false
      other m n h = grind (arith, nat_tests)

  map_more : {B C : Type 0} (f : B → C) (xs : List B) (x : B) → map f (xs ++ x ∷ []) ≡ map f xs ++ f x ∷ []
  map_more f [] x = refl
  map_more f (y ∷ ys) x = ap (λ zs. f y ∷ zs) (map_more f ys x)

  pub supplied : (id : ℕ) (y : A) (ss : List (Seated A)) → AreBelow id (map instance_of (map seat ss)) → map seat (with_box id y ss) ≡ map seat ss ++ record { id = id; box = means y } ∷ []
  supplied id y ss h = ap (map seat) (last_in id y ss h) ∙ map_more seat ss (record { id = id; box = y })

  pub instances_supplied : (id : ℕ) (y : A) (ss : List (Seated A)) → AreBelow id (map instance_of (map seat ss)) → map instance_of (map seat (with_box id y ss)) ≡ map instance_of (map seat ss) ++ record { id = id; kind = (means y).kind; state = (means y).state } ∷ []
  instances_supplied id y ss h = ap (map instance_of) (supplied id y ss h) ∙ map_more instance_of (map seat ss) (record { id = id; box = means y })

kinds_more : (b : Behaviour) (ss : List BoxAt) (s : BoxAt) → AreOfKinds b ss → IsOfKind b s.box → AreOfKinds b (ss ++ s ∷ [])
kinds_more b [] s h k = (k, tt)
kinds_more b (t ∷ ts) s h k = (h.0, kinds_more b ts s h.1 k)

-- by whether the box was placed
pub on_ok : {A E P Q : Type 0} (result : Result A E) → OnOk result P → (P → Q) → OnOk result Q
on_ok (Ok x) p step = step p
on_ok (Err e) p step = tt

pub kinds_supplied : {A : Type 0} (means : A → Module) (b : Behaviour) (id : ℕ) (y : A) (ss : List (Seated A)) → AreBelow id (map instance_of (map (seat means) ss)) → AreOfKinds b (map (seat means) ss) → IsOfKind b (means y) → AreOfKinds b (map (seat means) (with_box id y ss))
kinds_supplied means b id y ss below h k = rw (supplied means id y ss below) (kinds_more b (map (seat means) ss) (record { id = id; box = means y }) h k)

pub kinds_placed : {A U E : Type 0} (means : A → Module) (b : Behaviour) (id : ℕ) (y : A) (old new : List (Seated A)) (result : Result U E) → AreBelow id (map instance_of (map (seat means) old)) → AreOfKinds b (map (seat means) old) → IsOfKind b (means y)
    → OnOk result (new ≡ with_box id y old) → OnErr result (new ≡ old) → AreOfKinds b (map (seat means) new)
kinds_placed means b id y old new (Ok x) below h k ok err = subst (λ ss. AreOfKinds b (map (seat means) ss)) (sym ok) (kinds_supplied means b id y old below h k)
kinds_placed means b id y old new (Err e) below h k ok err = subst (λ ss. AreOfKinds b (map (seat means) ss)) (sym err) h
