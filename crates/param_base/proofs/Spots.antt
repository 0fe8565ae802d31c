-- What is found over a base is the value.
use Rattle.std.proofs.Common.{ℕ, ◌+◌, ◌^◌, ◌≡◌, ◌≤◌, refl, sym, ◌∙◌, ap, Bool, true≢false, List, [], length, Result, Ok, Err, Option, Some, None, arith}
use Rattle.std.specs.Prelude.{slice_get}
use Rattle.param_following.specs.Asking.{outcome}
use Rattle.param_following.specs.Following.{Rules, value_of, followed}
use Rattle.param_following.specs.Laws.{IsExact}
use Rattle.param_following.proofs.Circles.{no_circle}
use Rattle.param_following.proofs.Outcomes.{none_some}
use Rattle.param_engine.specs.Tables.{Entries, IsKept, known, said, found_in, value_at}
use Rattle.param_engine.proofs.Going.{value_followed}
use Rattle.param_keeping.specs.Stores.{Keeping}
use Rattle.param_base.specs.Asking.{known_by}
use Rattle.param_base.specs.Over.{IsWithin, known_or}
use Rattle.param_base.specs.Spots.{IsBase, OwnIsValue, over_base, second_of}
use Rattle.param_base.proofs.Over.{over_a_base}

module _ {K V F : Type 0} (rules : Rules K V F) (exact : IsExact rules) (kept : Keeping K V) (live : List Bool) (base : IsBase rules kept live) where
  pub exact_over : IsExact (over_base rules kept live)
  exact_over = record { same = exact.same; self = exact.self }

  -- what the base knows is a value
  pub base_value : (key : K) (v : V) (p : ℕ) → length live ≤ 2 ^ 64 → known_by rules.same kept live key ≡ Some v → slice_get kept.entries p ≡ Some (key, v)
      → said (second_of (slice_get kept.entries p)) ≡ Some (value_of rules key)
  base_value key v p le e at = ap (λ o. said (second_of o)) at
      ∙ ap Some (sym (value_followed rules exact (length kept.entries) key (Ok v) (omega (arith, le, base.shaped.as_many.0)) (base.right key v e)))

  -- by the rules over the base too
  pub base_over : (key : K) (v : V) (p : ℕ) → known_by rules.same kept live key ≡ Some v → slice_get kept.entries p ≡ Some (key, v)
      → said (second_of (slice_get kept.entries p)) ≡ Some (value_of (over_base rules kept live) key)
  base_over key v p e at = ap (λ o. said (second_of o)) at
      ∙ ap Some (sym (value_followed (over_base rules kept live) exact_over 1 key (Ok v) (omega arith)
      (ap (λ o. outcome (followed (over_base rules kept live) 0) (known_or o (rules.asking key))) e)))

  -- and so is what is found over it, wherever the bound is enough
  pub over_value : (key : K) → IsWithin rules key → value_of (over_base rules kept live) key ≡ value_of rules key
  over_value key within = (over_a_base rules (known_by rules.same kept live) (length kept.entries) exact base.right base.shut).same key within

  pub over_fault : (key : K) (es : Entries K V) (found : Result ℕ F) (f : F) → found ≡ Err f → found_in es found ≡ Some (value_of (over_base rules kept live) key) → IsWithin rules key
      → value_of rules key ≡ Err f
  over_fault key es found f e h within =
      let c : Some (Err f) ≡ Some (value_of (over_base rules kept live) key) = ap (found_in es) (sym e) ∙ h in
      let d : value_of (over_base rules kept live) key ≡ Err f = cc in
      sym (over_value key within) ∙ d

  -- what a table over it knows is the value too
  pub own_value : (es : Entries K V) (k : K) (v : V) → IsKept (over_base rules kept live) es → length es + length kept.entries ≤ 2 ^ 64 → known rules.same es k ≡ Some v
      → value_of rules k ≡ Ok v
  own_value es k v own le e = (over_a_base rules (known_by rules.same kept live) (length kept.entries) exact base.right base.shut).found (length es) k (Ok v) le
      (no_circle (over_base rules kept live) exact_over (length es) [] k (Ok v) (λ s on. absurd (true≢false (sym on))) (own.right k v e))

  -- and so is what is found there
  pub own_found : (es : Entries K V) (key : K) (place : ℕ) → IsKept (over_base rules kept live) es → length es + length kept.entries ≤ 2 ^ 64
      → known rules.same es key ≡ value_at es place → found_in es (Ok place) ≡ Some (value_of (over_base rules kept live) key)
      → found_in es (Ok place) ≡ Some (value_of rules key)
  own_found es key place own le same h = by (value_at es place) refl
    where
      by : (o : Option V) → value_at es place ≡ o → found_in es (Ok place) ≡ Some (value_of rules key)
      by None e = absurd (none_some (sym (ap said e) ∙ h))
      by (Some v) e = ap said e ∙ ap Some (sym (own_value es key v own le (same ∙ e)))

pub own_is_value : {K V F : Type 0} (rules : Rules K V F) → OwnIsValue rules
own_is_value rules kept live es k v exact base own le e = own_value rules exact kept live base es k v own le e
