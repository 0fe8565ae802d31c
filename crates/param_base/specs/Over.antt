-- Rules over a base of values that are known.
use Rattle.std.specs.Prelude.{ℕ, ◌+◌, ◌≤◌, ◌^◌, ◌≡◌, [], Result, Ok, Option, Some, None}
use Rattle.param_following.specs.Asking.{Asking, Done}
use Rattle.param_following.specs.Edits.{IsClosed}
use Rattle.param_following.specs.Following.{Rules, value_of, value_within}
use Rattle.param_following.specs.Laws.{IsExact}
use Rattle.param_following.specs.Waiting.{IsRight}

-- what is known is the whole answer; else this is asked
abbrev pub known_or : {K V F : Type 0} → Option V → Asking K V F V → Asking K V F V
known_or None t = t
known_or (Some v) t = Done (Ok v)

-- RULES OVER A BASE: a key that the base knows asks for nothing, as its value is known; any other
-- asks as before.
abbrev pub over : {K V F : Type 0} → (K → Option V) → Rules K V F → Rules K V F
over known rules = record rules { asking = λ k. known_or (known k) (rules.asking k) }

-- the value of a key, or its fault, is found within the bound of the definition
abbrev pub IsWithin : {K V F : Type 0} → Rules K V F → K → Type 0
IsWithin rules k = value_within rules (2 ^ 64) [] k ≡ None → ⊥

-- THE VALUES OVER A BASE ARE THE VALUES. Let the base be right, in so many steps, and closed. What is
-- found without it is found over it in as many steps, and what is found over it is found without it
-- in as many steps more as the base took. So over the base each key has the value or the fault that
-- it has without it, unless the bound of the definition is too low for the longer way.
pub record OverIsSame {K V F : Type 0} (rules : Rules K V F) (known : K → Option V) (n : ℕ)
    : Type 0 where
  pub same : (k : K) → IsWithin rules k → value_of (over known rules) k ≡ value_of rules k
  pub found : (m : ℕ) (k : K) (r : Result V F) → m + n ≤ 2 ^ 64
      → value_within (over known rules) m [] k ≡ Some r → value_of rules k ≡ r
  pub fewer : (m : ℕ) (k : K) (r : Result V F) → value_within rules m [] k ≡ Some r
      → value_within (over known rules) m [] k ≡ Some r
  pub more : (m : ℕ) (k : K) (r : Result V F) → value_within (over known rules) m [] k ≡ Some r
      → value_within rules (m + n) [] k ≡ Some r

abbrev pub OverABase : {K V F : Type 0} → Rules K V F → Type 0
OverABase {K} {V} rules = (known : K → Option V) (n : ℕ) → IsExact rules → IsRight rules n known
    → IsClosed rules known → OverIsSame rules known n
