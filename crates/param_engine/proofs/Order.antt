-- A table stands in the order in which its values were found.
use Rattle.std.proofs.Common.{ℕ, zero, suc, ◌≡◌, refl, sym, ◌∙◌, ap, Bool, true, false, cond, ◌⊎◌, inl, inr, List, [], ◌∷◌, ◌++◌, length, map, Option, Some}
use Rattle.param_following.specs.Edits.{asked_by, all_on, IsInOrder, IsClosed}
use Rattle.param_following.specs.Following.{Rules, is_on}
use Rattle.param_following.specs.Laws.{IsExact}
use Rattle.param_following.proofs.Outcomes.{none_some}
use Rattle.param_following.proofs.Pass.{edit_keeps}
use Rattle.param_engine.specs.declared.finished.Finished.{Finished}
use Rattle.param_engine.specs.Edits.{entry_keys, IsSorted, AfterEdit}
use Rattle.param_engine.specs.Tables.{Entries, key_at, keys_at, known, AreNoted, IsKept}
use Rattle.param_engine.proofs.Noting.{closed_from}

key_at_push : {K V : Type 0} (es : Entries K V) (e : K × Finished V) (p : ℕ) (j : K) → key_at (es ++ e ∷ []) p ≡ Some j → (key_at es p ≡ Some j) ⊎ (j ≡ e.0)
key_at_push [] e zero j h = inr (cc)
key_at_push [] e (suc p) j h = absurd (none_some h)
key_at_push (x ∷ es) e zero j h = inl h
key_at_push (x ∷ es) e (suc p) j h = key_at_push es e p j h

module _ {K V F : Type 0} (rules : Rules K V F) (exact : IsExact rules) where
  all_before : (es : Entries K V) (keys : List K) → ((j : K) (p : ℕ) → key_at es p ≡ Some j → is_on rules.same j keys ≡ true)
      → (places : List ℕ) (js : List K) → keys_at es places ≡ map Some js → all_on rules.same js keys ≡ true
  all_before es keys on places [] h = refl
  all_before es keys on [] (j ∷ js) h = absurd (cc)
  all_before es keys on (p ∷ ps) (j ∷ js) h =
      let first : key_at es p ≡ Some j = cc in
      let rest : keys_at es ps ≡ map Some js = cc in
      ap (λ b. cond b (all_on rules.same js keys) false) (on j p first) ∙ all_before es keys on ps js rest

  module _ (knows : K → Option V) where
    in_order : (before es : Entries K V) (keys : List K) → ((j : K) (p : ℕ) → key_at before p ≡ Some j → is_on rules.same j keys ≡ true)
        → AreNoted rules knows before es → IsInOrder rules.same (λ k. asked_by knows (rules.asking k)) (entry_keys es) keys
    in_order before [] keys on h = tt
    in_order before (e ∷ es) keys on h = (
      all_before before keys on e.1.asked (asked_by knows (rules.asking e.0)) h.0.places,
      in_order (before ++ e ∷ []) es (e.0 ∷ keys) (λ j p f. by j p (key_at_push before e p j f) (on j p)) h.1,
    )
      where
        next : (j : K) (b : Bool) → is_on rules.same j keys ≡ true → cond b true (is_on rules.same j keys) ≡ true
        next j true h = refl
        next j false h = h

        by : (j : K) (p : ℕ) → (key_at before p ≡ Some j) ⊎ (j ≡ e.0) → (key_at before p ≡ Some j → is_on rules.same j keys ≡ true)
            → cond (rules.same j e.0) true (is_on rules.same j keys) ≡ true
        by j p (inl f) on = next j (rules.same j e.0) (on f)
        by j p (inr f) on = ap (λ b. cond b true (is_on rules.same j keys)) (ap (rules.same j) (sym f) ∙ exact.self j)

  pub sorted : (es : Entries K V) → IsKept rules es → IsSorted rules es
  sorted es h = in_order (known rules.same es) [] es [] (λ j p f. absurd (none_some f)) h.noted

  pub closed : (es : Entries K V) → IsKept rules es → IsClosed rules (known rules.same es)
  closed es h k v e = closed_from rules (known rules.same es) exact [] es h.noted k v e

pub edited : {K V F : Type 0} (before after : Rules K V F) (es : Entries K V) → IsExact before → IsKept before es → AfterEdit before after es
edited before after es exact h changed as_before =
    edit_keeps before after exact.same (length es) (known before.same es) changed (entry_keys es) h.right (closed before exact es h) as_before (sorted before exact es h)
