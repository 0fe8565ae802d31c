-- Room for one place more.
use Rattle.std.proofs.Common.{ℕ, zero, suc, ◌≡◌, ◌≤◌, refl, sym, ◌∙◌, ap, subst, Bool, false, ◌⊎◌, inl, inr, List, [], ◌∷◌, ◌++◌, length, arith}
use Rattle.std.proofs.lemmas.List.{length-append}
use Rattle.rest_index.specs.declared.row.Row.{Row}
use Rattle.rest_index.specs.Rests.{asked_of, is_among, is_live, users_of}
use Rattle.param_keeping.specs.Stores.{Store, HasOnePlace, IsShaped}

past_asked : (rows : List Row) (r : Row) → r.asked ≡ [] → (p : ℕ) → asked_of (rows ++ r ∷ []) p ≡ asked_of rows p
past_asked [] r e zero = e
past_asked [] r e (suc p) = refl
past_asked (x ∷ rows) r e zero = refl
past_asked (x ∷ rows) r e (suc p) = past_asked rows r e p

past_users : (rows : List Row) (r : Row) → r.users ≡ [] → (p : ℕ) → users_of (rows ++ r ∷ []) p ≡ users_of rows p
past_users [] r e zero = e
past_users [] r e (suc p) = refl
past_users (x ∷ rows) r e zero = refl
past_users (x ∷ rows) r e (suc p) = past_users rows r e p

past_live : (live : List Bool) (p : ℕ) → is_live (live ++ false ∷ []) p ≡ is_live live p
past_live [] zero = refl
past_live [] (suc p) = refl
past_live (b ∷ live) zero = refl
past_live (b ∷ live) (suc p) = past_live live p

module _ {K V : Type 0} (same : K → K → Bool) (s t : Store K V) (r : Row) (shaped : IsShaped same s) (nothing : r.asked ≡ []) (none : r.users ≡ [])
    (entries : t.entries ≡ s.entries) (rows : (t.rows ≡ s.rows) ⊎ (t.rows ≡ s.rows ++ r ∷ [])) (live : (t.live ≡ s.live) ⊎ (t.live ≡ s.live ++ false ∷ [])) where
  asked_same : (p : ℕ) → asked_of t.rows p ≡ asked_of s.rows p
  asked_same p = by rows
    where
      by : (t.rows ≡ s.rows) ⊎ (t.rows ≡ s.rows ++ r ∷ []) → asked_of t.rows p ≡ asked_of s.rows p
      by (inl e) = ap (λ l. asked_of l p) e
      by (inr e) = ap (λ l. asked_of l p) e ∙ past_asked s.rows r nothing p

  users_same : (p : ℕ) → users_of t.rows p ≡ users_of s.rows p
  users_same p = by rows
    where
      by : (t.rows ≡ s.rows) ⊎ (t.rows ≡ s.rows ++ r ∷ []) → users_of t.rows p ≡ users_of s.rows p
      by (inl e) = ap (λ l. users_of l p) e
      by (inr e) = ap (λ l. users_of l p) e ∙ past_users s.rows r none p

  live_same : (p : ℕ) → is_live t.live p ≡ is_live s.live p
  live_same p = by live
    where
      by : (t.live ≡ s.live) ⊎ (t.live ≡ s.live ++ false ∷ []) → is_live t.live p ≡ is_live s.live p
      by (inl e) = ap (λ l. is_live l p) e
      by (inr e) = ap (λ l. is_live l p) e ∙ past_live s.live p

  pub alike : (p : ℕ) → (asked_of t.rows p ≡ asked_of s.rows p) × (is_live t.live p ≡ is_live s.live p)
  alike p = (asked_same p, live_same p)

  longer : length s.live ≤ length t.live
  longer = by live
    where
      by : (t.live ≡ s.live) ⊎ (t.live ≡ s.live ++ false ∷ []) → length s.live ≤ length t.live
      by (inl e) = let h = ap length e in omega (arith, h)
      by (inr e) = let h = ap length e in let l = length-append s.live (false ∷ []) in omega (arith, h, l)

  pub still_shaped : length t.live ≤ length t.rows → IsShaped same t
  still_shaped fits = record {
    closed = λ u p l a. live_same p ∙ shaped.closed u p (sym (live_same u) ∙ l) (ap (is_among p) (sym (asked_same u)) ∙ a);
    indexed = λ u p a. ap (is_among u) (users_same p) ∙ shaped.indexed u p (ap (is_among p) (sym (asked_same u)) ∙ a);
    apart = subst (HasOnePlace same) (sym entries) shaped.apart;
    within = λ p l. let w = shaped.within p (sym (live_same p) ∙ l) in let e = ap length entries in omega (arith, w, e);
    users_within = λ p u h. let w = shaped.users_within p u (ap (is_among u) (sym (users_same p)) ∙ h) in let e = ap length entries in omega (arith, w, e);
    as_many = (let a = shaped.as_many.0 in let l = longer in let e = ap length entries in omega (arith, a, l, e), fits);
  }

-- ---- what the code has

abbrev pub row_of : List ℕ → List ℕ → Row
row_of a u = record { asked = a; users = u }

pub pushed : (rows inside after : List Row) (a u : List ℕ) → inside ≡ rows → a ≡ [] → u ≡ [] → after ≡ inside ++ row_of a u ∷ [] → after ≡ rows ++ row_of [] [] ∷ []
pushed rows inside after a u same nothing none e =
    e ∙ ap (λ (z : List Row). z ++ row_of a u ∷ []) same ∙ ap (λ (z : List ℕ). rows ++ row_of z u ∷ []) nothing ∙ ap (λ (z : List ℕ). rows ++ row_of [] z ∷ []) none

pub one_longer : {A : Type 0} (xs after : List A) (x : A) → after ≡ xs ++ x ∷ [] → length after ≡ suc (length xs)
one_longer xs after x e = let h = ap length e in let l = length-append xs (x ∷ []) in omega (arith, h, l)

pub no_fewer : {A : Type 0} (xs after : List A) (x : A) → (after ≡ xs) ⊎ (after ≡ xs ++ x ∷ []) → length xs ≤ length after
no_fewer xs after x (inl e) = let h = ap length e in omega (arith, h)
no_fewer xs after x (inr e) = let h = one_longer xs after x e in omega (arith, h)
