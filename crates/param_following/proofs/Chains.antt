-- Keys that are being evaluated: what the fault or the circle of the last one means for the first.
use Rattle.std.proofs.Common.{ℕ, zero, suc, ◌+◌, ◌≡◌, ◌≤◌, refl, sym, ◌∙◌, ap, subst, Bool, true, false, cond, List, [], ◌∷◌, length, Result, Ok, Err, Option, Some, None, arith}
use Rattle.param_following.specs.Asking.{Asking, Done, Ask, outcome, with_value}
use Rattle.param_following.specs.Following.{Rules, is_on, value_within, followed}
use Rattle.param_following.specs.Waiting.{Agrees, ComesTo, IsRight, Waiter, keys_of, AreWaiting, bottom_of}
use Rattle.param_following.proofs.Outcomes.{none_some, outcome_stays}
use Rattle.param_following.specs.Laws.{IsExact}
use Rattle.param_following.proofs.Circles.{followed_stays, no_circle, count, on_more}

module _ {K V F : Type 0} (rules : Rules K V F) where
  -- more steps, and more that is known
  pub right_stays : (known : K → Option V) (m n : ℕ) → m ≤ n → IsRight rules m known → IsRight rules n known
  right_stays known m n le h k v e = followed_stays rules m n k (Ok v) le (h k v e)

  pub comes_more : (known more : K → Option V) → ((k : K) (v : V) → known k ≡ Some v → more k ≡ Some v)
      → (s t : Asking K V F V) → ComesTo known s t → ComesTo more s t
  comes_more known more grows s t h answers agrees = h answers (λ k v e. agrees k v (grows k v e))

  pub waiting_more : (known more : K → Option V) → ((k : K) (v : V) → known k ≡ Some v → more k ≡ Some v)
      → (k : K) (ws : List (Waiter K V F)) → AreWaiting rules known k ws → AreWaiting rules more k ws
  waiting_more known more grows k [] h = tt
  waiting_more known more grows k (w ∷ ws) h = (comes_more known more grows (rules.asking w.key) (Ask k w.rest) h.0, waiting_more known more grows w.key ws h.1)

  -- an asking that waits for a value that is known goes on with it
  pub goes_on : (known : K → Option V) (s : Asking K V F V) (k : K) (rest : V → Asking K V F V) (v : V)
      → known k ≡ Some v → ComesTo known s (Ask k rest) → ComesTo known s (rest v)
  goes_on known s k rest v e h answers agrees =
      h answers agrees ∙ ap (λ a. with_value a (λ x. outcome answers (rest x))) (agrees k v e)

  -- the result that a key comes to is its value or its fault
  pub comes_to_end : (known : K → Option V) (n : ℕ) (k : K) (r : Result V F)
      → IsRight rules n known → ComesTo known (rules.asking k) (Done r) → followed rules (suc n) k ≡ Some r
  comes_to_end known n k r right h = h (followed rules n) right

  -- the fault of a key is that of each that waits for it
  pub fault_below : (known : K → Option V) (n : ℕ) (k : K) (ws : List (Waiter K V F)) (f : F)
      → IsRight rules n known → AreWaiting rules known k ws → followed rules n k ≡ Some (Err f)
      → followed rules (n + length ws) (bottom_of k ws) ≡ Some (Err f)
  fault_below known n k [] f right h e = subst (λ i. followed rules i k ≡ Some (Err f)) (let q : n ≡ n + 0 = omega arith in q) e
  fault_below known n k (w ∷ ws) f right h e =
      let step : followed rules (suc n) w.key ≡ Some (Err f) = h.0 (followed rules n) right ∙ ap (λ a. with_value a (λ x. outcome (followed rules n) (w.rest x))) e in
      subst (λ i. followed rules i (bottom_of w.key ws) ≡ Some (Err f)) (let q : suc n + length ws ≡ n + suc (length ws) = omega arith in q)
      (fault_below known (suc n) w.key ws f (right_stays known n (suc n) (omega arith) right) h.1 step)

module _ {V F : Type 0} where
  -- what following finds, or else what is known
  or_known : Option (Result V F) → Option V → Option (Result V F)
  or_known (Some r) w = Some r
  or_known None (Some v) = Some (Ok v)
  or_known None None = None

  or_known_agrees : (found : Option (Result V F)) (v : V) → ((r : Result V F) → found ≡ Some r → r ≡ Ok v) → or_known found (Some v) ≡ Some (Ok v)
  unfolding or_known
  or_known_agrees None v h = refl
  or_known_agrees (Some r) v h = ap Some (h r refl)

  or_known_first : (found : Option (Result V F)) (w : Option V) (r : Result V F) → found ≡ Some r → or_known found w ≡ Some r
  unfolding or_known
  or_known_first None w r h = absurd (none_some h)
  or_known_first (Some q) w r h = h

  or_known_none : (found : Option (Result V F)) (w : Option V) → found ≡ None → w ≡ None → or_known found w ≡ None
  unfolding or_known
  or_known_none None None h g = refl
  or_known_none None (Some v) h g = absurd (none_some (sym g))
  or_known_none (Some q) w h g = absurd (none_some (sym h))

abbrev both : {K V F : Type 0} → Rules K V F → (K → Option V) → ℕ → K → Option (Result V F)
both rules known m j = or_known (followed rules m j) (known j)

module _ {K V F : Type 0} (rules : Rules K V F) where
  -- one that waits for a key from which following comes to no end comes to none either
  stuck : (known : K → Option V) (n m : ℕ) (x k : K) (rest : V → Asking K V F V) → IsRight rules n known
      → ComesTo known (rules.asking k) (Ask x rest) → followed rules m x ≡ None → known x ≡ None → followed rules (suc m) k ≡ None
  stuck known n m x k rest right waits none unknown = by (followed rules (suc m) k) refl
    where
      agrees : Agrees known (both rules known m)
      agrees j v e = ap (or_known (followed rules m j)) e ∙ or_known_agrees (followed rules m j) v (λ r h.
          let a : followed rules (m + n) j ≡ Some r = followed_stays rules m (m + n) j r (omega arith) h in
          let b : followed rules (m + n) j ≡ Some (Ok v) = followed_stays rules n (m + n) j (Ok v) (omega arith) (right j v e) in
          let c : Some r ≡ Some (Ok v) = sym a ∙ b in cc)

      wider : (j : K) (r : Result V F) → followed rules m j ≡ Some r → both rules known m j ≡ Some r
      wider j r h = or_known_first (followed rules m j) (known j) r h

      nothing : both rules known m x ≡ None
      nothing = or_known_none (followed rules m x) (known x) none unknown

      by : (a : Option (Result V F)) → followed rules (suc m) k ≡ a → followed rules (suc m) k ≡ None
      by None e = e
      by (Some r) e = absurd (none_some (sym (ap (λ a. with_value a (λ v. outcome (both rules known m) (rest v))) nothing) ∙ sym (waits (both rules known m) agrees)
          ∙ outcome_stays (followed rules m) (both rules known m) wider (rules.asking k) r e))

module _ {K V F : Type 0} (rules : Rules K V F) (exact : IsExact rules) (known : K → Option V) (n : ℕ) (right : IsRight rules n known) where
  on_tail : (k s : K) (keys : List K) → is_on rules.same s keys ≡ true → is_on rules.same s (k ∷ keys) ≡ true
  on_tail k s keys h = by (rules.same s k)
    where
      by : (b : Bool) → cond b true (is_on rules.same s keys) ≡ true
      by true = refl
      by false = h

  on_head : (k : K) (keys : List K) → is_on rules.same k (k ∷ keys) ≡ true
  on_head k keys = ap (λ b. cond b true (is_on rules.same k keys)) (exact.self k)

  stuck_below : (m : ℕ) (k : K) (ws : List (Waiter K V F)) → AreWaiting rules known k ws
      → ((s : K) → is_on rules.same s (k ∷ keys_of ws) ≡ true → known s ≡ None)
      → ((s : K) → is_on rules.same s (k ∷ keys_of ws) ≡ true → followed rules m s ≡ None)
      → (s : K) → is_on rules.same s (keys_of ws) ≡ true → followed rules (suc m) s ≡ None
  stuck_below m k [] h unknown none = λ s on. absurd (let e : false ≡ true = on in cc)
  stuck_below m k (w ∷ ws) h unknown none =
      on_more rules exact (λ s. followed rules (suc m) s ≡ None) w.key (keys_of ws)
      (stuck rules known n m k w.key w.rest right h.0 (none k (on_head k (w.key ∷ keys_of ws))) (unknown k (on_head k (w.key ∷ keys_of ws))))
      (stuck_below m w.key ws h.1 (λ s on. unknown s (on_tail k s (w.key ∷ keys_of ws) on)) (λ s on. none s (on_tail k s (w.key ∷ keys_of ws) on)))

  module _ (k j : K) (rest : V → Asking K V F V) (ws : List (Waiter K V F))
      (waits : ComesTo known (rules.asking k) (Ask j rest)) (below : AreWaiting rules known k ws)
      (on : is_on rules.same j (k ∷ keys_of ws) ≡ true)
      (unknown : (s : K) → is_on rules.same s (k ∷ keys_of ws) ≡ true → known s ≡ None) where
    -- from a circle following comes to no end
    never : (m : ℕ) (s : K) → is_on rules.same s (k ∷ keys_of ws) ≡ true → followed rules m s ≡ None
    never zero = λ s h. refl
    never (suc m) = on_more rules exact (λ s. followed rules (suc m) s ≡ None) k (keys_of ws)
        (stuck rules known n m j k rest right waits (never m j on) (unknown j on))
        (stuck_below m k ws below unknown (never m))

  -- under keys that never end the values that are known are still the values
  agrees_under : (m : ℕ) (keys : List K) → n ≤ m → ((s : K) → is_on rules.same s keys ≡ true → followed rules n s ≡ None)
      → Agrees known (value_within rules m keys)
  agrees_under m keys le none k v e = count rules n m keys k (Ok v) le (no_circle rules exact n keys k (Ok v) none (right k v e))

  -- where a key waits for one that is a circle, it is one
  circle_below : (m : ℕ) (k : K) (ws : List (Waiter K V F)) → n ≤ m → AreWaiting rules known k ws
      → ((s : K) → is_on rules.same s (keys_of ws) ≡ true → followed rules n s ≡ None)
      → value_within rules m (keys_of ws) k ≡ Some (Err rules.circle)
      → value_within rules (m + length ws) [] (bottom_of k ws) ≡ Some (Err rules.circle)
  circle_below m k [] le h none e = subst (λ i. value_within rules i [] k ≡ Some (Err rules.circle)) (let q : m ≡ m + 0 = omega arith in q) e
  circle_below m k (w ∷ ws) le h none e =
      subst (λ i. value_within rules i [] (bottom_of w.key ws) ≡ Some (Err rules.circle)) (let q : suc m + length ws ≡ m + suc (length ws) = omega arith in q)
      (circle_below (suc m) w.key ws (omega arith) h.1 (λ s on. none s (on_tail w.key s (keys_of ws) on)) (by (is_on rules.same w.key (keys_of ws))))
    where
      by : (b : Bool) → cond b (Some (Err rules.circle)) (outcome (value_within rules m (w.key ∷ keys_of ws)) (rules.asking w.key)) ≡ Some (Err rules.circle)
      by true = refl
      by false = h.0 (value_within rules m (w.key ∷ keys_of ws)) (agrees_under m (w.key ∷ keys_of ws) le none)
          ∙ ap (λ a. with_value a (λ v. outcome (value_within rules m (w.key ∷ keys_of ws)) (w.rest v))) e

  -- A KEY THAT WAITS FOR ONE THAT IS BEING EVALUATED: the one that was asked first is a circle
  pub circle_found : (k j : K) (rest : V → Asking K V F V) (ws : List (Waiter K V F))
      → ComesTo known (rules.asking k) (Ask j rest) → AreWaiting rules known k ws
      → is_on rules.same j (k ∷ keys_of ws) ≡ true
      → ((s : K) → is_on rules.same s (k ∷ keys_of ws) ≡ true → known s ≡ None)
      → value_within rules (suc (suc n) + length ws) [] (bottom_of k ws) ≡ Some (Err rules.circle)
  circle_found k j rest ws waits below on unknown =
      circle_below (suc (suc n)) k ws (omega arith) below (λ s h. none s (on_tail k s (keys_of ws) h)) (by (is_on rules.same k (keys_of ws)))
    where
      none : (s : K) → is_on rules.same s (k ∷ keys_of ws) ≡ true → followed rules n s ≡ None
      none = never k j rest ws waits below on unknown n

      by : (b : Bool) → cond b (Some (Err rules.circle)) (outcome (value_within rules (suc n) (k ∷ keys_of ws)) (rules.asking k)) ≡ Some (Err rules.circle)
      by true = refl
      by false = waits (value_within rules (suc n) (k ∷ keys_of ws)) (agrees_under (suc n) (k ∷ keys_of ws) (omega arith) none)
          ∙ ap (λ a. with_value a (λ v. outcome (value_within rules (suc n) (k ∷ keys_of ws)) (rest v)))
          (ap (λ b. cond b (Some (Err rules.circle)) (outcome (value_within rules n (j ∷ k ∷ keys_of ws)) (rules.asking j))) on)
