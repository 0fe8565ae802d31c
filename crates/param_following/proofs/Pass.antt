-- One pass over a table keeps what it may, and all that it may.
use Rattle.std.proofs.Common.{◌≡◌, refl, sym, ◌∙◌, ap, subst, Bool, true, false, cond, true≢false, ◌⊎◌, inl, inr, List, [], ◌∷◌}
use Rattle.param_following.specs.Following.{Rules, is_on}
use Rattle.param_following.specs.Edits.{IsAsked, RestsOnChanged, itself, asks, all_on, stays, kept_keys, IsInOrder, KeepsSound, GivesUpOnlyAffected, AllKept, asked_by, EditKeeps}
use Rattle.param_following.proofs.Edits.{keeps_right}

module _ {K : Type 0} (same : K → K → Bool) where
  -- one place further
  on_next : (s k : K) (keys : List K) → is_on same s keys ≡ true → is_on same s (k ∷ keys) ≡ true
  on_next s k keys h = by (same s k)
    where
      by : (b : Bool) → cond b true (is_on same s keys) ≡ true
      by true = refl
      by false = h

  all_next : (js : List K) (k : K) (keys : List K) → all_on same js keys ≡ true → all_on same js (k ∷ keys) ≡ true
  all_next [] k keys h = refl
  all_next (j ∷ js) k keys h = by (is_on same j keys) refl h (all_next js k keys)
    where
      by : (b : Bool) → is_on same j keys ≡ b → cond b (all_on same js keys) false ≡ true → (all_on same js keys ≡ true → all_on same js (k ∷ keys) ≡ true)
          → cond (is_on same j (k ∷ keys)) (all_on same js (k ∷ keys)) false ≡ true
      by true e h next = ap (λ b. cond b (all_on same js (k ∷ keys)) false) (on_next j k keys e) ∙ next h
      by false e h next = absurd (true≢false (sym h))

  -- one that isn't on the list
  not_all : (js kept : List K) → all_on same js kept ≡ false → (j : K) × IsAsked j js × (is_on same j kept ≡ false)
  not_all [] kept h = absurd (true≢false h)
  not_all (j ∷ js) kept h = by (is_on same j kept) refl h (not_all js kept)
    where
      by : (b : Bool) → is_on same j kept ≡ b → cond b (all_on same js kept) false ≡ false
          → (all_on same js kept ≡ false → (i : K) × IsAsked i js × (is_on same i kept ≡ false)) → (i : K) × IsAsked i (j ∷ js) × (is_on same i kept ≡ false)
      by true e h next = let r = next h in (r.0, inr r.1, r.2)
      by false e h next = (j, inl refl, e)

  of_all : (js before : List K) (j : K) → all_on same js before ≡ true → IsAsked j js → is_on same j before ≡ true
  of_all [] before j h a = absurd a
  of_all (i ∷ js) before j h a = by (is_on same i before) refl h a (of_all js before j)
    where
      by : (b : Bool) → is_on same i before ≡ b → cond b (all_on same js before) false ≡ true → (j ≡ i) ⊎ IsAsked j js
          → (all_on same js before ≡ true → IsAsked j js → is_on same j before ≡ true) → is_on same j before ≡ true
      by true e h (inl q) next = ap (λ z. is_on same z before) q ∙ e
      by true e h (inr a) next = next h a
      by false e h a next = absurd (true≢false (sym h))

module _ {K : Type 0} (same : K → K → Bool) (exact : (a b : K) → same a b ≡ true → a ≡ b) (asked : K → List K) (changed : K → Bool) where
  IsGood : List K → Type 0
  IsGood kept = (k : K) → is_on same k kept ≡ true → (changed k ≡ false) × (all_on same (asked k) kept ≡ true)

  good_next : (k : K) (kept : List K) → IsGood kept → stays same asked changed kept k ≡ true → IsGood (k ∷ kept)
  unfolding IsGood
  good_next k kept good h s on = by (same s k) refl on
    where
      here : (b : Bool) → changed k ≡ b → cond b false (all_on same (asked k) kept) ≡ true → (changed k ≡ false) × (all_on same (asked k) (k ∷ kept) ≡ true)
      here true e h = absurd (true≢false (sym h))
      here false e h = (e, all_next same (asked k) k kept h)

      by : (b : Bool) → same s k ≡ b → cond b true (is_on same s kept) ≡ true → (changed s ≡ false) × (all_on same (asked s) (k ∷ kept) ≡ true)
      by true e on = subst (λ z. (changed z ≡ false) × (all_on same (asked z) (k ∷ kept) ≡ true)) (sym (exact s k e)) (here (changed k) refl h)
      by false e on = let g = good s on in (g.0, all_next same (asked s) k kept g.1)

  good_all : (ks kept : List K) → IsGood kept → IsGood (kept_keys same asked changed ks kept)
  good_all [] kept good = good
  good_all (k ∷ ks) kept good = good_all ks (cond (stays same asked changed kept k) (k ∷ kept) kept) (by (stays same asked changed kept k) refl)
    where
      by : (b : Bool) → stays same asked changed kept k ≡ b → IsGood (cond b (k ∷ kept) kept)
      by true e = good_next k kept good e
      by false e = good

  pub keeps_sound : KeepsSound same asked changed
  unfolding IsGood
  keeps_sound ks = good_all ks [] (λ k on. absurd (true≢false (sym on)))

  -- each of these is kept, or rests on a changed key
  IsSorted : List K → List K → Type 0
  IsSorted before kept = (k : K) → is_on same k before ≡ true → (is_on same k kept ≡ true) ⊎ RestsOnChanged asked changed k

  sorted_next : (k : K) (before kept : List K) → all_on same (asked k) before ≡ true → IsSorted before kept
      → IsSorted (k ∷ before) (cond (stays same asked changed kept k) (k ∷ kept) kept)
  unfolding IsSorted
  sorted_next k before kept order sorted s on = by (same s k) refl on
    where
      new : List K
      new = cond (stays same asked changed kept k) (k ∷ kept) kept

      more : (b : Bool) → is_on same s kept ≡ true → is_on same s (cond b (k ∷ kept) kept) ≡ true
      more true h = on_next same s k kept h
      more false h = h

      rests : (b : Bool) → changed k ≡ b → cond b false (all_on same (asked k) kept) ≡ false → RestsOnChanged asked changed k
      rests true e h = itself k e
      rests false e h =
          let r = not_all same (asked k) kept h in
          let below = sorted r.0 (of_all same (asked k) before r.0 order r.1) in
          asks k r.0 r.1 (elim below [ inl on ↦ absurd (true≢false (sym on ∙ r.2)) | inr h ↦ h ])

      here : (b : Bool) → stays same asked changed kept k ≡ b → same s k ≡ true → (is_on same s (cond b (k ∷ kept) kept) ≡ true) ⊎ RestsOnChanged asked changed s
      here true e q = inl (ap (λ b. cond b true (is_on same s kept)) q)
      here false e q = inr (subst (RestsOnChanged asked changed) (sym (exact s k q)) (rests (changed k) refl e))

      there : (is_on same s kept ≡ true) ⊎ RestsOnChanged asked changed s
          → (is_on same s (cond (stays same asked changed kept k) (k ∷ kept) kept) ≡ true) ⊎ RestsOnChanged asked changed s
      there (inl h) = inl (more (stays same asked changed kept k) h)
      there (inr h) = inr h

      by : (b : Bool) → same s k ≡ b → cond b true (is_on same s before) ≡ true
          → (is_on same s (cond (stays same asked changed kept k) (k ∷ kept) kept) ≡ true) ⊎ RestsOnChanged asked changed s
      by true e on = here (stays same asked changed kept k) refl e
      by false e on = there (sorted s on)

  -- all keys of a list in reverse, before the others
  grows : (ks kept : List K) (s : K) → is_on same s kept ≡ true → is_on same s (kept_keys same asked changed ks kept) ≡ true
  grows [] kept s h = h
  grows (k ∷ ks) kept s h = grows ks (cond (stays same asked changed kept k) (k ∷ kept) kept) s (by (stays same asked changed kept k))
    where
      by : (b : Bool) → is_on same s (cond b (k ∷ kept) kept) ≡ true
      by true = on_next same s k kept h
      by false = h

  sorted_all : (ks before kept : List K) → IsInOrder same asked ks before → IsSorted before kept → (s : K)
      → (is_on same s ks ≡ true) ⊎ (is_on same s before ≡ true) → (is_on same s (kept_keys same asked changed ks kept) ≡ true) ⊎ RestsOnChanged asked changed s
  unfolding IsSorted
  sorted_all [] before kept order sorted s (inl on) = absurd (true≢false (sym on))
  sorted_all [] before kept order sorted s (inr on) = sorted s on
  sorted_all (k ∷ ks) before kept order sorted s on =
      sorted_all ks (k ∷ before) (cond (stays same asked changed kept k) (k ∷ kept) kept) order.1 (sorted_next k before kept order.0 sorted) s (either on)
    where
      split : (b : Bool) → cond b true (is_on same s ks) ≡ true → (is_on same s ks ≡ true) ⊎ (cond b true (is_on same s before) ≡ true)
      split true h = inr refl
      split false h = inl h

      either : (is_on same s (k ∷ ks) ≡ true) ⊎ (is_on same s before ≡ true) → (is_on same s ks ≡ true) ⊎ (is_on same s (k ∷ before) ≡ true)
      either (inl h) = split (same s k) h
      either (inr h) = inr (on_next same s k before h)

  pub only_affected : GivesUpOnlyAffected same asked changed
  unfolding IsSorted
  only_affected ks k order on gone = by (sorted_all ks [] [] order (λ s h. absurd (true≢false (sym h))) k (inl on))
    where
      by : (is_on same k (kept_keys same asked changed ks []) ≡ true) ⊎ RestsOnChanged asked changed k → RestsOnChanged asked changed k
      by (inl h) = absurd (true≢false (sym h ∙ gone))
      by (inr h) = h

all_kept : {K : Type 0} (same : K → K → Bool) (js keys : List K) → all_on same js keys ≡ true → AllKept (λ j. is_on same j keys) js
all_kept same [] keys h = tt
all_kept same (j ∷ js) keys h = by (is_on same j keys) refl h (all_kept same js keys)
  where
    by : (b : Bool) → is_on same j keys ≡ b → cond b (all_on same js keys) false ≡ true → (all_on same js keys ≡ true → AllKept (λ j. is_on same j keys) js)
        → AllKept (λ j. is_on same j keys) (j ∷ js)
    by true e h next = (e, next h)
    by false e h next = absurd (true≢false (sym h))

pub edit_keeps : {K V F : Type 0} (old new : Rules K V F) → ((a b : K) → old.same a b ≡ true → a ≡ b) → EditKeeps old new
edit_keeps {K} {V} old new exact n known changed ks right shut as_before order =
    let asked : K → List K = λ k. asked_by known (old.asking k) in
    let final : List K = kept_keys old.same asked changed ks [] in
    let r = keeps_right old new n known (λ k. is_on old.same k final) right shut (λ k v kept e.
    let s = keeps_sound old.same exact asked changed ks k kept in
    (as_before k s.0, all_kept old.same (asked k) final s.1)) in
    (r.0, r.1, λ k on gone. only_affected old.same exact asked changed ks k order on gone)
