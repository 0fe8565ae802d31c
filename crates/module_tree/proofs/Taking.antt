-- All boxes of one tree are taken into another one, by falling ids.
use Rattle.std.proofs.Common.{◌≡◌, ℕ, suc, ◌≤◌, ◌<◌, ◌==◌, nat_lt, Bool, true, false, cond, List, [], ◌∷◌, Some, None, refl, sym, subst, ap, ◌∙◌, arith, eqb-true, length}
use Rattle.std.proofs.lemmas.Bool.Decides.{nat_tests}
use Rattle.module_tree.specs.Boxes.{Seated, box_of, last_after, last_id, with_box, without_box, with_boxes, AreFree, AreRising}
use Rattle.module_tree.proofs.Seats.{same_found}

other : (m n : ℕ) → m < n → (m == n) ≡ false
other m n h = grind (arith, nat_tests)

another : (m n : ℕ) → n < m → (m == n) ≡ false
another m n h = grind (arith, nat_tests)

module _ {X : Type 0} where
  -- ---- all are below the last one

  below_last : (last from below : ℕ) (s : Seated X) (ss : List (Seated X)) → AreRising from below (s ∷ ss) → last_after (Some s.id) ss ≡ Some last → AreRising from (suc last) (s ∷ ss)
  below_last last from below s [] r e = let same : s.id ≡ last = cc in (r.0, omega (arith, same), tt)
  below_last last from below s (t ∷ ss) r e =
      let later = below_last last (suc s.id) below t ss r.2 e in
      let first = later.0 in
      let second = later.1 in
      (r.0, omega (arith, first, second), later)

  pub all_below : (last below : ℕ) (ss : List (Seated X)) → AreRising 0 below ss → last_id ss ≡ Some last → AreRising 0 (suc last) ss
  all_below last below [] r e = cc
  all_below last below (s ∷ ss) r e = below_last last 0 below s ss r e

  -- where there is no last one there is none
  some_last : (n : ℕ) (ts : List (Seated X)) → last_after (Some n) ts ≡ None → ⊥
  some_last n [] e = cc
  some_last n (t ∷ ts) e = some_last t.id ts e

  pub none_last : (ss : List (Seated X)) → last_id ss ≡ None → ss ≡ []
  none_last [] e = refl
  none_last (s ∷ ss) e = absurd (some_last s.id ss e)

  -- ---- the one below the bound

  -- none is left at the bound
  none_at : (k from : ℕ) (ss : List (Seated X)) → AreRising from k ss → k ≤ from → ss ≡ []
  none_at k from [] r l = refl
  none_at k from (s ∷ ss) r l = let low = r.0 in let high = r.1 in absurd (omega (arith, low, high, l))

  -- where the one below it is taken out, or is not there, all are below that
  pub rest_below : (k from : ℕ) (ss : List (Seated X)) → AreRising from (suc k) ss → AreRising from k (without_box k ss)
  rest_below k from [] r = tt
  rest_below k from (s ∷ ss) r = by (s.id == k) refl (rest_below k (suc s.id) ss r.2)
    where
      is_other : (s.id == k) ≡ false → s.id < suc k → s.id < k
      is_other t h = grind (arith, nat_tests)

      by : (t : Bool) → (s.id == k) ≡ t → AreRising (suc s.id) k (without_box k ss) → AreRising from k (cond t ss (s ∷ without_box k ss))
      by true t later =
          let same = eqb-true s.id k t in
          rw (none_at (suc k) (suc s.id) ss r.2 (omega (arith, same))) tt
      by false t later = (r.0, is_other t r.1, later)

  -- the last one goes in first
  pub one_in : (k from : ℕ) (x : X) (ss ts : List (Seated X)) → AreRising from (suc k) ss → box_of k ss ≡ Some x → with_boxes (without_box k ss) (with_box k x ts) ≡ with_boxes ss ts
  one_in k from x [] ts r e = cc
  one_in k from x (s ∷ ss) ts r e = by (s.id == k) refl (one_in k (suc s.id) x ss ts r.2) e
    where
      by : (t : Bool) → (s.id == k) ≡ t → (box_of k ss ≡ Some x → with_boxes (without_box k ss) (with_box k x ts) ≡ with_boxes ss ts) → cond t (Some s.box) (box_of k ss) ≡ Some x
          → with_boxes (cond t ss (s ∷ without_box k ss)) (with_box k x ts) ≡ with_box s.id s.box (with_boxes ss ts)
      by true t later e =
          let same = eqb-true s.id k t in
          let it : s.box ≡ x = cc in
          let none = none_at (suc k) (suc s.id) ss r.2 (omega (arith, same)) in
          ap (λ us. with_boxes us (with_box k x ts)) none
          ∙ (ap (λ n. with_box n x ts) (sym same)
          ∙ (ap (λ y. with_box s.id y ts) (sym it) ∙ ap (λ us. with_box s.id s.box (with_boxes us ts)) (sym none)))
      by false t later e = ap (with_box s.id s.box) (later e)

  -- it is free there
  pub one_free : (k : ℕ) (x : X) (ss ts : List (Seated X)) → AreFree ss ts → box_of k ss ≡ Some x → box_of k ts ≡ None
  one_free k x [] ts h e = cc
  one_free k x (s ∷ ss) ts h e = by (s.id == k) refl (one_free k x ss ts h.1) e
    where
      by : (t : Bool) → (s.id == k) ≡ t → (box_of k ss ≡ Some x → box_of k ts ≡ None) → cond t (Some s.box) (box_of k ss) ≡ Some x → box_of k ts ≡ None
      by true t later e = ap (λ n. box_of n ts) (sym (eqb-true s.id k t)) ∙ h.0
      by false t later e = later e

  -- the others stay free
  not_found : (n k : ℕ) (x : X) (ts : List (Seated X)) → n < k → box_of n ts ≡ None → box_of n (with_box k x ts) ≡ None
  not_found n k x [] l e = rw (another k n l) refl
  not_found n k x (t ∷ ts) l e = by (nat_lt k t.id) (within (t.id == n) (not_found n k x ts l) e)
    where
      within : (c : Bool) → (box_of n ts ≡ None → box_of n (with_box k x ts) ≡ None) → cond c (Some t.box) (box_of n ts) ≡ None → cond c (Some t.box) (box_of n (with_box k x ts)) ≡ None
      within true later e = cc
      within false later e = later e

      by : (b : Bool) → box_of n (t ∷ with_box k x ts) ≡ None → box_of n (cond b (record { id = k; box = x } ∷ t ∷ ts) (t ∷ with_box k x ts)) ≡ None
      by true later = rw (another k n l) e
      by false later = later

  below_free : (k from : ℕ) (x : X) (ss ts : List (Seated X)) → AreRising from k ss → AreFree ss ts → AreFree ss (with_box k x ts)
  below_free k from x [] ts r h = tt
  below_free k from x (s ∷ ss) ts r h = (not_found s.id k x ts r.1 h.0, below_free k (suc s.id) x ss ts r.2 h.1)

  without_free : (k : ℕ) (ss ts : List (Seated X)) → AreFree ss ts → AreFree (without_box k ss) ts
  without_free k [] ts h = tt
  without_free k (s ∷ ss) ts h = by (s.id == k) (without_free k ss ts h.1)
    where
      by : (t : Bool) → AreFree (without_box k ss) ts → AreFree (cond t ss (s ∷ without_box k ss)) ts
      by true later = h.1
      by false later = (h.0, later)

  pub rest_free : (k from : ℕ) (x : X) (ss ts : List (Seated X)) → AreRising from (suc k) ss → AreFree ss ts → AreFree (without_box k ss) (with_box k x ts)
  rest_free k from x ss ts r h = below_free k from x (without_box k ss) ts (rest_below k from ss r) (without_free k ss ts h)

  -- ---- in the loop

  pub some_below : (k from : ℕ) (ss : List (Seated X)) → AreRising from k ss → 0 < length ss → 1 ≤ k
  some_below k from [] r l = absurd (omega (arith, l))
  some_below k from (s ∷ ss) r l = let high = r.1 in omega (arith, high)

  -- What is so after the number of one id.
  pub record IsTaken (n : ℕ) (ss ts whole : List (Seated X)) : Type 0 where
    pub rising : AreRising 0 n ss
    pub free : AreFree ss ts
    pub whole_is : with_boxes ss ts ≡ whole

  pub taken_in : (n left : ℕ) (x : X) (ss ts ss' ts' whole : List (Seated X)) → left ≡ suc n → AreRising 0 left ss → AreFree ss ts → box_of n ss ≡ Some x → ss' ≡ without_box n ss → ts' ≡ with_box n x ts → with_boxes ss ts ≡ whole → IsTaken n ss' ts' whole
  taken_in n left x ss ts ss' ts' whole l r h e out in_ is =
      let rise : AreRising 0 (suc n) ss = subst (λ k. AreRising 0 k ss) l r in
      rw (out, in_) (record { rising = rest_below n 0 ss rise; free = rest_free n 0 x ss ts rise h; whole_is = one_in n 0 x ss ts rise e ∙ is })

  pub none_taken : (n left : ℕ) (ss ts ss' whole : List (Seated X)) → left ≡ suc n → AreRising 0 left ss → AreFree ss ts → box_of n ss ≡ None → ss' ≡ without_box n ss → with_boxes ss ts ≡ whole → IsTaken n ss' ts whole
  none_taken n left ss ts ss' whole l r h e out is =
      let rise : AreRising 0 (suc n) ss = subst (λ k. AreRising 0 k ss) l r in
      rw out (record { rising = rest_below n 0 ss rise; free = without_free n ss ts h; whole_is = ap (λ us. with_boxes us ts) (same_found n ss e) ∙ is })
