-- A key is looked for.
use Rattle.std.proofs.Common.{ℕ, ◌≡◌, refl, sym, ◌∙◌, ap, Bool, true, false, true≢false, cond, List, [], ◌∷◌, Option, Some, None, Err}
use Rattle.std.specs.Map.{lookup, lookup_key}
use Rattle.std.specs.Prelude.{slice_get}
use Rattle.param_following.specs.Asking.{Done}
use Rattle.param_following.specs.Following.{Rules}
use Rattle.param_following.specs.Laws.{IsExact}
use Rattle.param_following.proofs.Outcomes.{none_some}
use Rattle.rest_index.specs.Rests.{is_live}
use Rattle.param_keeping.specs.Stores.{if_live, key_in, value_among, AreOne, HasOnePlace}
use Rattle.param_keeping.proofs.Places.{found, stands}

module _ {K V : Type 0} (same : K → K → Bool) where
  pub among_none : (es : List (K × V)) (bs : List Bool) (k : K) → lookup (same k) es ≡ None → value_among same es bs k ≡ None
  among_none [] bs k h = refl
  among_none (e ∷ es) [] k h = refl
  among_none (e ∷ es) (b ∷ bs) k h = by (same k e.0) h (among_none es bs k)
    where
      by : (c : Bool) → cond c (Some e.1) (lookup (same k) es) ≡ None → (lookup (same k) es ≡ None → value_among same es bs k ≡ None)
          → cond c (if_live b e.1) (value_among same es bs k) ≡ None
      by true h next = absurd (none_some (sym h))
      by false h next = next h

  pub key_same : (es : List (K × V)) (k x : K) → lookup_key (same k) es ≡ Some x → same k x ≡ true
  key_same [] k x h = absurd (none_some h)
  key_same (e ∷ es) k x h = by (same k e.0) refl h (key_same es k x)
    where
      by : (b : Bool) → same k e.0 ≡ b → cond b (Some e.0) (lookup_key (same k) es) ≡ Some x → (lookup_key (same k) es ≡ Some x → same k x ≡ true) → same k x ≡ true
      by true e h next = ap (same k) (let c : x ≡ _ = cc in c) ∙ e
      by false e h next = next h

  -- rules of these keys, which ask for nothing
  rules : Rules K V (Unit {0})
  rules = record { same = same; asking = λ k. Done (Err tt); circle = tt }

  exactly : AreOne same → ((a : K) → same a a ≡ true) → (let r : Rules K V (Unit {0}) = record { same = same; asking = λ k. Done (Err tt); circle = tt } in IsExact r)
  exactly one self = record { same = one; self = self }

  pub found_there : (one : AreOne same) (self : (a : K) → same a a ≡ true) (es : List (K × V)) (bs : List Bool) (k : K) (v : V) → value_among same es bs k ≡ Some v
      → (p : ℕ) × (slice_get es p ≡ Some (k, v)) × (is_live bs p ≡ true)
  found_there one self es bs k v h = found (record { same = same; asking = λ k. Done (Err tt); circle = tt }) (exactly one self) es bs k v h

  module _ (one : AreOne same) (self : (a : K) → same a a ≡ true) (es : List (K × V)) (bs : List Bool) (apart : HasOnePlace same es) (k : K) (v : V) (p : ℕ)
      (at : slice_get es p ≡ Some (k, v)) where
    pub known_there : is_live bs p ≡ true → value_among same es bs k ≡ Some v
    known_there l = stands (record { same = same; asking = λ k. Done (Err tt); circle = tt }) (exactly one self) es bs k v p apart at l

    pub not_known : is_live bs p ≡ false → value_among same es bs k ≡ None
    not_known l = by (value_among same es bs k) refl
      where
        by : (o : Option V) → value_among same es bs k ≡ o → o ≡ None
        by None e = refl
        by (Some w) e =
            let r = found (record { same = same; asking = λ k. Done (Err tt); circle = tt }) (exactly one self) es bs k w e in
            let q = apart r.0 p k k (ap key_in r.1) (ap key_in at) (self k) in
            absurd (true≢false (sym r.2 ∙ ap (is_live bs) q ∙ l))
