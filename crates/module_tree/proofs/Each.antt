-- What holds of each box of a list, where one is looked for, taken out or put in.
use Rattle.std.proofs.Common.{◌≡◌, ℕ, ◌==◌, nat_lt, cond, Bool, true, false, List, [], ◌∷◌, Some, Result, Ok, Err, OnOk, OnErr, refl, sym, subst, eqb-true}
use Rattle.module_tree.specs.Boxes.{Seated, EachBox, box_of, with_box, without_box}

module _ {X : Type 0} (P : ℕ → X → Type 0) where
  -- the one of an id
  pub each_of : (id : ℕ) (ss : List (Seated X)) (box : X) → EachBox P ss → box_of id ss ≡ Some box → P id box
  each_of id [] box h e = cc
  each_of id (s ∷ ss) box h e = by (s.id == id) refl (each_of id ss box h.1) e
    where
      by : (t : Bool) → (s.id == id) ≡ t → (box_of id ss ≡ Some box → P id box) → cond t (Some s.box) (box_of id ss) ≡ Some box → P id box
      by true t later e =
          let same : s.box ≡ box = cc in
          subst (P id) same (subst (λ i. P i s.box) (eqb-true s.id id t) h.0)
      by false t later e = later e

  -- without it
  pub each_without : (id : ℕ) (ss : List (Seated X)) → EachBox P ss → EachBox P (without_box id ss)
  each_without id [] h = tt
  each_without id (s ∷ ss) h = by (s.id == id) (each_without id ss h.1)
    where
      by : (t : Bool) → EachBox P (without_box id ss) → EachBox P (cond t ss (s ∷ without_box id ss))
      by true later = h.1
      by false later = (h.0, later)

  -- with one more
  pub each_with : (id : ℕ) (box : X) (ss : List (Seated X)) → P id box → EachBox P ss → EachBox P (with_box id box ss)
  each_with id box [] k h = (k, tt)
  each_with id box (s ∷ ss) k h = by (nat_lt id s.id) (each_with id box ss k h.1)
    where
      by : (t : Bool) → EachBox P (with_box id box ss) → EachBox P (cond t (record { id = id; box = box } ∷ s ∷ ss) (s ∷ with_box id box ss))
      by true later = (k, h)
      by false later = (h.0, later)

  -- with one more, where there was memory for it
  pub each_placed : {A E : Type 0} (id : ℕ) (box : X) (before after : List (Seated X)) (placed : Result A E) → OnOk placed (after ≡ with_box id box before) → OnErr placed (after ≡ before) → P id box → EachBox P before → EachBox P after
  each_placed id box before after (Ok x) ok err k h = subst (EachBox P) (sym ok) (each_with id box before k h)
  each_placed id box before after (Err e) ok err k h = subst (EachBox P) (sym err) h

-- what follows of each
pub each_so : {X : Type 0} (P Q : ℕ → X → Type 0) (ss : List (Seated X)) → ((id : ℕ) (box : X) → P id box → Q id box) → EachBox P ss → EachBox Q ss
each_so P Q [] step h = tt
each_so P Q (s ∷ ss) step h = (step s.id s.box h.0, each_so P Q ss step h.1)
