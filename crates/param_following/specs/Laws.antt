-- What holds of values found by following references, by whatever rules.
use Rattle.std.specs.Prelude.{ℕ, suc, ◌≡◌, ◌≤◌, ◌<◌, ◌⊎◌, true, List, [], Result, Err, Option, Some}
use Rattle.std.specs.Prelude.{None}
use Rattle.param_following.specs.Asking.{Asking, Done, Ask, ◌>>=◌, with_value, outcome}
use Rattle.param_following.specs.Following.{Rules, is_on, value_within, followed}

-- IN TURN: of askings one after the other it doesn't matter how they are grouped, and what comes of
-- the first decides what comes of both.
pub record IsInTurn (K V F R S T : Type 0) : Type 0 where
  pub grouped : (t : Asking K V F R) (f : R → Asking K V F S) (g : S → Asking K V F T)
      → t >>= f >>= g ≡ t >>= (λ r. f r >>= g)
  pub comes : (answers : K → Option (Result V F)) (t : Asking K V F R) (f : R → Asking K V F S)
      → outcome answers (t >>= f) ≡ with_value (outcome answers t) (λ r. outcome answers (f r))

-- The keys that are the same are one.
pub record IsExact {K V F : Type 0} (rules : Rules K V F) : Type 0 where
  pub same : (a b : K) → rules.same a b ≡ true → a ≡ b
  pub self : (a : K) → rules.same a a ≡ true

module _ {K V F : Type 0} (rules : Rules K V F) where
  -- COUNT: a greater bound changes nothing
  abbrev pub CountIsNoMatter : Type 0
  CountIsNoMatter = (m n : ℕ) (evaluated : List K) (k : K) (r : Result V F) → m ≤ n →
      value_within rules m evaluated k ≡ Some r → value_within rules n evaluated k ≡ Some r

  -- NO CIRCLE: what following alone finds is the value, whatever keys are being evaluated, as long
  -- as following from none of these comes to an end in so many steps
  abbrev pub EndsWithoutCircle : Type 0
  EndsWithoutCircle = (n : ℕ) (evaluated : List K) (k : K) (r : Result V F) →
      ((s : K) → is_on rules.same s evaluated ≡ true → followed rules n s ≡ None) →
      followed rules n k ≡ Some r → value_within rules n evaluated k ≡ Some r

  -- and each value or fault but a circle is what following alone finds
  abbrev pub IsFollowedOrCircle : Type 0
  IsFollowedOrCircle = (n : ℕ) (evaluated : List K) (k : K) (r : Result V F) →
      value_within rules n evaluated k ≡ Some r → (followed rules n k ≡ Some r)
      ⊎ (r ≡ Err rules.circle)

-- an asking asks for keys of this kind alone, whatever the answers are
abbrev pub AsksOnly : {K V F R : Type 0} → (K → Type 0) → Asking K V F R → Type 0
AsksOnly IsIn (Done r) = Unit {0}
AsksOnly {K} {V} IsIn (Ask k rest) = IsIn k × ((v : V) → AsksOnly IsIn (rest v))

-- ENOUGH: of keys that ask for one another alone, and have different numbers below `bound`, there
-- are no longer lists without one that comes twice; so the bound of the definition is never reached
abbrev pub IsEnough : {K V F : Type 0} → Rules K V F → (K → Type 0) → Type 0
IsEnough {K} rules IsIn = (number : K → ℕ) (bound : ℕ)
    → ((k : K) → IsIn k → AsksOnly IsIn (rules.asking k)) →
    ((k : K) → IsIn k → number k < bound)
    → ((a b : K) → IsIn a → IsIn b → number a ≡ number b → rules.same a b ≡ true) →
    (k : K) → IsIn k → value_within rules (suc bound) [] k ≡ None → ⊥
