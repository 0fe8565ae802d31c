-- Values over a base.
use Rattle.std.proofs.Common.{ℕ, zero, suc, ◌+◌, ◌^◌, ◌≡◌, refl, sym, ◌∙◌, ap, subst, Bool, true, false, true≢false, cond, ◌⊎◌, inl, inr, List, [], ◌∷◌, Result, Ok, Err, Option, Some, None, arith}
use Rattle.param_following.specs.Asking.{Asking, Done, Ask, outcome, with_value}
use Rattle.param_following.specs.Edits.{answer_of, IsClosed}
use Rattle.param_following.specs.Following.{Rules, is_on, value_within, followed, value_of}
use Rattle.param_following.specs.Laws.{IsExact}
use Rattle.param_following.specs.Waiting.{IsRight}
use Rattle.param_following.proofs.Circles.{count, followed_stays, on_more, still_none, within_more}
use Rattle.param_following.proofs.Outcomes.{none_some, outcome_stays}
use Rattle.param_engine.proofs.Going.{value_found}
use Rattle.param_base.specs.Over.{known_or, over, IsWithin, OverIsSame, OverABase}

module _ {K V F : Type 0} (rules : Rules K V F) (known : K → Option V) (n : ℕ) (exact : IsExact rules) (right : IsRight rules n known) (shut : IsClosed rules known) where
  -- what is known is all that following finds
  only_known : (m : ℕ) (k : K) (v : V) (r : Result V F) → known k ≡ Some v → followed rules m k ≡ Some r → r ≡ Ok v
  only_known m k v r e h =
      let a : followed rules (m + n) k ≡ Some r = followed_stays rules m (m + n) k r (omega arith) h in
      let b : followed rules (m + n) k ≡ Some (Ok v) = followed_stays rules n (m + n) k (Ok v) (omega arith) (right k v e) in
      let c : Some r ≡ Some (Ok v) = sym a ∙ b in cc

  -- of the keys that are being evaluated none is known, or following from it comes to no end
  abbrev NoneIn : ℕ → List K → Type 0
  NoneIn m stack = (s : K) → is_on rules.same s stack ≡ true → (known s ≡ None) ⊎ (followed rules m s ≡ None)

  none_still : (m : ℕ) (stack : List K) → NoneIn (suc m) stack → NoneIn m stack
  none_still m stack none s on = by (none s on)
    where
      by : (known s ≡ None) ⊎ (followed rules (suc m) s ≡ None) → (known s ≡ None) ⊎ (followed rules m s ≡ None)
      by (inl h) = inl h
      by (inr h) = inr (still_none rules m s h)

  -- along an asking of which all is known
  along : (m : ℕ) (stack : List K) → ((j : K) (u : V) → known j ≡ Some u → followed rules m j ≡ Some (Ok u) → value_within rules m stack j ≡ Some (Ok u))
      → (t : Asking K V F V) (v : V) → outcome (λ j. answer_of (known j)) t ≡ Some (Ok v) → outcome (followed rules m) t ≡ Some (Ok v)
      → outcome (value_within rules m stack) t ≡ Some (Ok v)
  along m stack below (Done r) v closed h = h
  along m stack below (Ask j rest) v closed h = by (known j) refl closed (followed rules m j) refl h (λ u. along m stack below (rest u) v)
    where
      goes : (u : V) → known j ≡ Some u → followed rules m j ≡ Some (Ok u) → outcome (value_within rules m stack) (rest u) ≡ Some (Ok v)
          → outcome (value_within rules m stack) (Ask j rest) ≡ Some (Ok v)
      goes u e f next = ap (λ a. with_value a (λ x. outcome (value_within rules m stack) (rest x))) (below j u e f) ∙ next

      by : (o : Option V) → known j ≡ o → with_value (answer_of o) (λ u. outcome (λ i. answer_of (known i)) (rest u)) ≡ Some (Ok v)
          → (a : Option (Result V F)) → followed rules m j ≡ a → with_value a (λ u. outcome (followed rules m) (rest u)) ≡ Some (Ok v)
          → ((u : V) → outcome (λ i. answer_of (known i)) (rest u) ≡ Some (Ok v) → outcome (followed rules m) (rest u) ≡ Some (Ok v)
          → outcome (value_within rules m stack) (rest u) ≡ Some (Ok v))
          → outcome (value_within rules m stack) (Ask j rest) ≡ Some (Ok v)
      by None e closed a f h next = absurd (none_some closed)
      by (Some u) e closed None f h next = absurd (none_some h)
      by (Some u) e closed (Some r) f h next =
          let q = only_known m j u r e f in
          goes u e (f ∙ ap (λ z. Some z) q) (next u closed (sym (ap (λ z. with_value (Some z) (λ x. outcome (followed rules m) (rest x))) q) ∙ h))

  -- the value of a key that is known is found under keys that are not
  found_under : (m : ℕ) (stack : List K) (k : K) (v : V) → known k ≡ Some v → NoneIn m stack → followed rules m k ≡ Some (Ok v) → value_within rules m stack k ≡ Some (Ok v)
  found_under zero stack k v e none h = absurd (none_some h)
  found_under (suc m) stack k v e none h = by (followed rules m k) refl (found_under m)
    where
      off : (b : Bool) → is_on rules.same k stack ≡ b → cond b (Some (Err rules.circle)) (outcome (value_within rules m (k ∷ stack)) (rules.asking k)) ≡ outcome (value_within rules m (k ∷ stack)) (rules.asking k)
      off false on = refl
      off true on = both (none k on)
        where
          both : (known k ≡ None) ⊎ (followed rules (suc m) k ≡ None) → Some (Err rules.circle) ≡ outcome (value_within rules m (k ∷ stack)) (rules.asking k)
          both (inl g) = absurd (none_some (sym g ∙ e))
          both (inr g) = absurd (none_some (sym g ∙ h))

      by : (a : Option (Result V F)) → followed rules m k ≡ a
          → ((stack : List K) (k : K) (v : V) → known k ≡ Some v → NoneIn m stack → followed rules m k ≡ Some (Ok v) → value_within rules m stack k ≡ Some (Ok v))
          → value_within rules (suc m) stack k ≡ Some (Ok v)
      by (Some r) f before =
          within_more rules m stack k (Ok v) (before stack k v e (none_still m stack none) (f ∙ ap (λ z. Some z) (only_known m k v r e f)))
      by None f before = off (is_on rules.same k stack) refl
          ∙ along m (k ∷ stack) (λ j u g i. before (k ∷ stack) j u g
          (on_more rules exact (λ s. (known s ≡ None) ⊎ (followed rules m s ≡ None)) k stack (inr f) (none_still m stack none)) i) (rules.asking k) v (shut k v e) h

  -- ---- keys that are being evaluated, of which none is known

  abbrev Unknown : List K → Type 0
  Unknown stack = (s : K) → is_on rules.same s stack ≡ true → known s ≡ None

  found_here : (stack : List K) (k : K) (v : V) → known k ≡ Some v → Unknown stack → value_within rules n stack k ≡ Some (Ok v)
  found_here stack k v e none = found_under n stack k v e (λ s on. inl (none s on)) (right k v e)

  off_stack : (stack : List K) (k : K) (v : V) → known k ≡ Some v → Unknown stack → is_on rules.same k stack ≡ false
  off_stack stack k v e none = by (is_on rules.same k stack) refl
    where
      by : (b : Bool) → is_on rules.same k stack ≡ b → b ≡ false
      by true on = absurd (none_some (sym (none k on) ∙ e))
      by false on = refl

  -- over the base it is found at once
  over_here : (m : ℕ) (stack : List K) (k : K) (v : V) → known k ≡ Some v → Unknown stack → value_within (over known rules) (suc m) stack k ≡ Some (Ok v)
  over_here m stack k v e none =
      ap (λ b. cond b (Some (Err rules.circle)) (outcome (value_within (over known rules) m (k ∷ stack)) (known_or (known k) (rules.asking k)))) (off_stack stack k v e none)
      ∙ ap (λ o. outcome (value_within (over known rules) m (k ∷ stack)) (known_or o (rules.asking k))) e

  pub fewer_over : (m : ℕ) (stack : List K) (k : K) (r : Result V F) → Unknown stack → value_within rules m stack k ≡ Some r → value_within (over known rules) m stack k ≡ Some r
  fewer_over zero stack k r none h = absurd (none_some h)
  fewer_over (suc m) stack k r none h = by (known k) refl (fewer_over m (k ∷ stack))
    where
      further : known k ≡ None → ((j : K) (q : Result V F) → Unknown (k ∷ stack) → value_within rules m (k ∷ stack) j ≡ Some q → value_within (over known rules) m (k ∷ stack) j ≡ Some q)
          → (b : Bool) → cond b (Some (Err rules.circle)) (outcome (value_within rules m (k ∷ stack)) (rules.asking k)) ≡ Some r
          → cond b (Some (Err rules.circle)) (outcome (value_within (over known rules) m (k ∷ stack)) (rules.asking k)) ≡ Some r
      further e next true h = h
      further e next false h = outcome_stays (value_within rules m (k ∷ stack)) (value_within (over known rules) m (k ∷ stack))
          (λ j q. next j q (on_more rules exact (λ s. known s ≡ None) k stack e none)) (rules.asking k) r h

      by : (o : Option V) → known k ≡ o → ((j : K) (q : Result V F) → Unknown (k ∷ stack) → value_within rules m (k ∷ stack) j ≡ Some q → value_within (over known rules) m (k ∷ stack) j ≡ Some q)
          → value_within (over known rules) (suc m) stack k ≡ Some r
      by None e next =
          ap (λ o. cond (is_on rules.same k stack) (Some (Err rules.circle)) (outcome (value_within (over known rules) m (k ∷ stack)) (known_or o (rules.asking k)))) e
          ∙ further e next (is_on rules.same k stack) h
      by (Some v) e next =
          let a : value_within rules (suc m + n) stack k ≡ Some r = count rules (suc m) (suc m + n) stack k r (omega arith) h in
          let b : value_within rules (suc m + n) stack k ≡ Some (Ok v) = count rules n (suc m + n) stack k (Ok v) (omega arith) (found_here stack k v e none) in
          over_here m stack k v e none ∙ sym b ∙ a

  pub more_over : (m : ℕ) (stack : List K) (k : K) (r : Result V F) → Unknown stack → value_within (over known rules) m stack k ≡ Some r → value_within rules (m + n) stack k ≡ Some r
  more_over zero stack k r none h = absurd (none_some h)
  more_over (suc m) stack k r none h = by (known k) refl (more_over m (k ∷ stack))
    where
      further : known k ≡ None → ((j : K) (q : Result V F) → Unknown (k ∷ stack) → value_within (over known rules) m (k ∷ stack) j ≡ Some q → value_within rules (m + n) (k ∷ stack) j ≡ Some q)
          → (b : Bool) → cond b (Some (Err rules.circle)) (outcome (value_within (over known rules) m (k ∷ stack)) (rules.asking k)) ≡ Some r
          → cond b (Some (Err rules.circle)) (outcome (value_within rules (m + n) (k ∷ stack)) (rules.asking k)) ≡ Some r
      further e next true h = h
      further e next false h = outcome_stays (value_within (over known rules) m (k ∷ stack)) (value_within rules (m + n) (k ∷ stack))
          (λ j q. next j q (on_more rules exact (λ s. known s ≡ None) k stack e none)) (rules.asking k) r h

      by : (o : Option V) → known k ≡ o → ((j : K) (q : Result V F) → Unknown (k ∷ stack) → value_within (over known rules) m (k ∷ stack) j ≡ Some q → value_within rules (m + n) (k ∷ stack) j ≡ Some q)
          → value_within rules (suc m + n) stack k ≡ Some r
      by None e next = subst (λ i. value_within rules i stack k ≡ Some r) (let q : suc (m + n) ≡ suc m + n = omega arith in q) (further e next (is_on rules.same k stack)
          (sym (ap (λ o. cond (is_on rules.same k stack) (Some (Err rules.circle)) (outcome (value_within (over known rules) m (k ∷ stack)) (known_or o (rules.asking k)))) e) ∙ h))
      by (Some v) e next =
          count rules n (suc m + n) stack k (Ok v) (omega arith) (found_here stack k v e none) ∙ sym (over_here m stack k v e none) ∙ h

  -- ---- the values

  none_at_first : Unknown []
  none_at_first s on = absurd (true≢false (sym on))

  pub same_over : (k : K) → IsWithin rules k → value_of (over known rules) k ≡ value_of rules k
  same_over k within = by (value_within rules (2 ^ 64) [] k) refl
    where
      by : (a : Option (Result V F)) → value_within rules (2 ^ 64) [] k ≡ a → value_of (over known rules) k ≡ value_of rules k
      by None e = absurd (within e)
      by (Some r) e =
          value_found (over known rules) exact_over (2 ^ 64) k r (omega arith) (fewer_over (2 ^ 64) [] k r none_at_first e)
          ∙ sym (value_found rules exact (2 ^ 64) k r (omega arith) e)
        where
          exact_over : IsExact (over known rules)
          exact_over = record { same = exact.same; self = exact.self }

  pub is_same : OverIsSame rules known n
  is_same = record {
    same = same_over;
    found = λ m k r le h. value_found rules exact (m + n) k r le (more_over m [] k r none_at_first h);
    fewer = λ m k r. fewer_over m [] k r none_at_first;
    more = λ m k r. more_over m [] k r none_at_first;
  }

pub over_a_base : {K V F : Type 0} (rules : Rules K V F) → OverABase rules
over_a_base rules known n exact right shut = is_same rules known n exact right shut
