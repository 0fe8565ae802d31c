-- Keys and their places.
use Rattle.std.proofs.Common.{ℕ, zero, suc, ◌≡◌, refl, sym, ◌∙◌, ap, Bool, true, false, true≢false, cond, List, [], ◌∷◌, Option, Some, None, arith}
use Rattle.std.specs.Prelude.{slice_get}
use Rattle.param_following.specs.Following.{Rules}
use Rattle.param_following.specs.Laws.{IsExact}
use Rattle.param_following.proofs.Outcomes.{none_some}
use Rattle.rest_index.specs.Rests.{is_live}
use Rattle.param_keeping.specs.Stores.{if_live, value_among, key_in, key_at, HasOnePlace}

module _ {K V F : Type 0} (rules : Rules K V F) (exact : IsExact rules) where
  -- a value that is known stands at a place, and counts
  pub found : (es : List (K × V)) (bs : List Bool) (k : K) (v : V) → value_among rules.same es bs k ≡ Some v
      → (p : ℕ) × (slice_get es p ≡ Some (k, v)) × (is_live bs p ≡ true)
  found [] bs k v h = absurd (none_some h)
  found (e ∷ es) [] k v h = absurd (none_some h)
  found (e ∷ es) (b ∷ bs) k v h = by (rules.same k e.0) refl b h (found es bs k v)
    where
      by : (c : Bool) → rules.same k e.0 ≡ c → (d : Bool) → cond c (if_live d e.1) (value_among rules.same es bs k) ≡ Some v
          → (value_among rules.same es bs k ≡ Some v → (p : ℕ) × (slice_get es p ≡ Some (k, v)) × (is_live bs p ≡ true))
          → (p : ℕ) × (slice_get (e ∷ es) p ≡ Some (k, v)) × (is_live (d ∷ bs) p ≡ true)
      by true s true h next = let w : e.1 ≡ v = cc in let z = exact.same k e.0 s in
          (0, ap (λ (x : K × V). Some x) (λ j. (sym z j, w j)), refl)
      by true s false h next = absurd (none_some h)
      by false s d h next = let r = next h in (suc r.0, r.1, r.2)

  tail : (e : K × V) (es : List (K × V)) → HasOnePlace rules.same (e ∷ es) → HasOnePlace rules.same es
  tail e es one p q k j a b s = let h : suc p ≡ suc q = one (suc p) (suc q) k j a b s in omega (arith, h)

  -- and what stands at a place, and counts, is known
  pub stands : (es : List (K × V)) (bs : List Bool) (k : K) (v : V) (p : ℕ) → HasOnePlace rules.same es → slice_get es p ≡ Some (k, v) → is_live bs p ≡ true
      → value_among rules.same es bs k ≡ Some v
  stands [] bs k v p one h l = absurd (none_some h)
  stands (e ∷ es) [] k v p one h l = absurd (true≢false (sym l))
  stands (e ∷ es) (b ∷ bs) k v zero one h l =
      let x : e ≡ (k, v) = cc in
      ap (λ (y : K × V). cond (rules.same k y.0) (if_live b y.1) (value_among rules.same es bs k)) x
      ∙ ap (λ c. cond c (if_live b v) (value_among rules.same es bs k)) (exact.self k) ∙ ap (λ d. if_live d v) l
  stands (e ∷ es) (b ∷ bs) k v (suc p) one h l = by (rules.same k e.0) refl (stands es bs k v p (tail e es one) h l)
    where
      by : (c : Bool) → rules.same k e.0 ≡ c → value_among rules.same es bs k ≡ Some v → cond c (if_live b e.1) (value_among rules.same es bs k) ≡ Some v
      by true s r =
          let z = exact.same k e.0 s in
          let t : rules.same e.0 k ≡ true = ap (rules.same e.0) z ∙ exact.self e.0 in
          let u : 0 ≡ suc p = one 0 (suc p) e.0 k refl (ap key_in h) t in
          absurd (omega (arith, u))
      by false s r = r

-- a key that stands at a place has a value there
pub with_key : {K V : Type 0} (es : List (K × V)) (p : ℕ) (k : K) → key_at es p ≡ Some k → (v : V) × (slice_get es p ≡ Some (k, v))
with_key {K} {V} es p k h = by (slice_get es p) refl h
  where
    by : (o : Option (K × V)) → slice_get es p ≡ o → key_in o ≡ Some k → (v : V) × (slice_get es p ≡ Some (k, v))
    by None e h = absurd (none_some h)
    by (Some x) e h = let z : x.0 ≡ k = cc in (x.1, e ∙ ap (λ (y : K). let r : Option (K × V) = Some (y, x.1) in r) z)
