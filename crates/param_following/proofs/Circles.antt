-- Following references, with and without the list of keys being evaluated.
use Rattle.std.proofs.Common.{ℕ, zero, suc, ◌≡◌, ◌≤◌, refl, sym, ◌∙◌, subst, Bool, true, false, cond, ◌⊎◌, inr, List, ◌∷◌, Result, Err, Option, Some, None, arith}
use native.Mathlib.Decide.{dec_le}
use Rattle.param_following.specs.Asking.{outcome}
use Rattle.param_following.specs.Following.{Rules, is_on, value_within, followed}
use Rattle.param_following.specs.Laws.{IsExact, CountIsNoMatter, EndsWithoutCircle, IsFollowedOrCircle}
use Rattle.param_following.proofs.Outcomes.{none_some, outcome_stays, outcome_or_circle}

-- a fact of one number more holds of every greater one
pub upwards : (P : ℕ → Type 0) → ((n : ℕ) → P n → P (suc n)) → (m n : ℕ) → m ≤ n → P m → P n
upwards P more m zero le h = subst P (let e : m ≡ 0 = omega arith in e) h
upwards P more m (suc n) le h = by (dec_le m n) (λ l. more n (upwards P more m n l h))
  where
    by : Dec (m ≤ n) → (m ≤ n → P (suc n)) → P (suc n)
    by (yes l) rest = rest l
    by (no l) rest = subst P (let e : m ≡ suc n = omega arith in e) h

module _ {K V F : Type 0} (rules : Rules K V F) where
  -- one step more changes nothing
  pub within_more : (n : ℕ) (stack : List K) (k : K) (r : Result V F) →
      value_within rules n stack k ≡ Some r → value_within rules (suc n) stack k ≡ Some r
  within_more zero stack k r h = absurd (none_some h)
  within_more (suc n) stack k r h = by (is_on rules.same k stack) (outcome_stays _ _ (within_more n (k ∷ stack)) (rules.asking k) r) h
    where
      by : (b : Bool) → (outcome (value_within rules n (k ∷ stack)) (rules.asking k) ≡ Some r → outcome (value_within rules (suc n) (k ∷ stack)) (rules.asking k) ≡ Some r)
          → cond b (Some (Err rules.circle)) (outcome (value_within rules n (k ∷ stack)) (rules.asking k)) ≡ Some r
          → cond b (Some (Err rules.circle)) (outcome (value_within rules (suc n) (k ∷ stack)) (rules.asking k)) ≡ Some r
      by true more h = h
      by false more h = more h

  pub followed_more : (n : ℕ) (k : K) (r : Result V F) → followed rules n k ≡ Some r → followed rules (suc n) k ≡ Some r
  followed_more zero k r h = absurd (none_some h)
  followed_more (suc n) k r h = outcome_stays (followed rules n) (followed rules (suc n)) (followed_more n) (rules.asking k) r h

  -- and so for any number of steps more
  pub followed_stays : (m n : ℕ) (k : K) (r : Result V F) → m ≤ n → followed rules m k ≡ Some r → followed rules n k ≡ Some r
  followed_stays m n k r le = upwards (λ i. followed rules i k ≡ Some r) (λ i. followed_more i k r) m n le

  pub count : CountIsNoMatter rules
  count m n stack k r le = upwards (λ i. value_within rules i stack k ≡ Some r) (λ i. within_more i stack k r) m n le

  -- where more steps come to no end, fewer don't
  pub still_none : (n : ℕ) (k : K) → followed rules (suc n) k ≡ None → followed rules n k ≡ None
  still_none n k h = by (followed rules n k) refl
    where
      by : (a : Option (Result V F)) → followed rules n k ≡ a → followed rules n k ≡ None
      by None e = e
      by (Some r) e = absurd (none_some (sym h ∙ followed_more n k r e))

module _ {K V F : Type 0} (rules : Rules K V F) (exact : IsExact rules) where
  -- what holds of a key and of each on the list holds of each on the longer list
  pub on_more : (P : K → Type 0) (k : K) (stack : List K) → P k → ((s : K) → is_on rules.same s stack ≡ true → P s)
      → (s : K) → is_on rules.same s (k ∷ stack) ≡ true → P s
  on_more P k stack here rest s h = by (rules.same s k) refl h
    where
      by : (b : Bool) → rules.same s k ≡ b → cond b true (is_on rules.same s stack) ≡ true → P s
      by true e h = subst P (sym (exact.same s k e)) here
      by false e h = rest s h

  pub no_circle : EndsWithoutCircle rules
  no_circle zero stack k r none h = absurd (none_some h)
  no_circle (suc n) stack k r none h = by (followed rules n k) refl (no_circle n)
    where
      fewer : (s : K) → is_on rules.same s stack ≡ true → followed rules n s ≡ None
      fewer s on = still_none rules n s (none s on)

      off : (b : Bool) → is_on rules.same k stack ≡ b → cond b (Some (Err rules.circle)) (outcome (value_within rules n (k ∷ stack)) (rules.asking k)) ≡ outcome (value_within rules n (k ∷ stack)) (rules.asking k)
      off true e = absurd (none_some (sym (none k e) ∙ h))
      off false e = refl

      by : (a : Option (Result V F)) → followed rules n k ≡ a
          → ((stack : List K) (k : K) (r : Result V F) → ((s : K) → is_on rules.same s stack ≡ true → followed rules n s ≡ None)
          → followed rules n k ≡ Some r → value_within rules n stack k ≡ Some r)
          → value_within rules (suc n) stack k ≡ Some r
      by (Some q) e before =
          let c : Some q ≡ Some r = sym (followed_more rules n k q e) ∙ h in
          within_more rules n stack k r (before stack k r fewer (e ∙ c))
      by None e before = off (is_on rules.same k stack) refl
          ∙ outcome_stays (followed rules n) (value_within rules n (k ∷ stack)) (λ j q. before (k ∷ stack) j q (on_more (λ s. followed rules n s ≡ None) k stack e fewer)) (rules.asking k) r h

module _ {K V F : Type 0} (rules : Rules K V F) where
  pub followed_or_circle : IsFollowedOrCircle rules
  followed_or_circle zero stack k r h = absurd (none_some h)
  followed_or_circle (suc n) stack k r h = by (is_on rules.same k stack) h
      (outcome_or_circle rules.circle (value_within rules n (k ∷ stack)) (followed rules n) (followed_or_circle n (k ∷ stack)) (rules.asking k) r)
    where
      by : (b : Bool) → cond b (Some (Err rules.circle)) (outcome (value_within rules n (k ∷ stack)) (rules.asking k)) ≡ Some r
          → (outcome (value_within rules n (k ∷ stack)) (rules.asking k) ≡ Some r → (outcome (followed rules n) (rules.asking k) ≡ Some r) ⊎ (r ≡ Err rules.circle))
          → (outcome (followed rules n) (rules.asking k) ≡ Some r) ⊎ (r ≡ Err rules.circle)
      by true h next = inr (cc)
      by false h next = next h
