-- Values found by following references.
use Rattle.std.specs.Prelude.{ℕ, zero, suc, ◌^◌, Bool, true, false, if◌then◌else◌, List, [], ◌∷◌}
use Rattle.std.specs.Prelude.{Result, Err, Option, Some, None}
use Rattle.param_following.specs.Asking.{Asking, outcome}

-- whether a key is on the list
abbrev pub is_on : {K : Type 0} → (K → K → Bool) → K → List K → Bool
is_on same k [] = false
is_on same k (s ∷ keys) = if same k s then true else is_on same k keys

-- What each key asks, which keys are the same, and the fault of a circle.
pub record Rules (K V F : Type 0) : Type 0 where
  pub same : K → K → Bool
  pub asking : K → Asking K V F V
  pub circle : F

-- THE VALUE OF A KEY, found by following references with the list of the keys that are being
-- evaluated. A key that is on it already is a circle. The number bounds the length of the list, so
-- that the recursion ends; none where it is reached. It decides nothing else: see `CountIsNoMatter`
-- in Laws.
abbrev pub value_within : {K V F : Type 0} → Rules K V F → ℕ → List K → K → Option (Result V F)
value_within rules zero evaluated k = None
value_within rules (suc n) evaluated k =
    if is_on rules.same k evaluated then Some (Err rules.circle)
    else outcome (value_within rules n (k ∷ evaluated)) (rules.asking k)

-- The same without the list, which knows no circle: one is followed until the number is reached.
abbrev pub followed : {K V F : Type 0} → Rules K V F → ℕ → K → Option (Result V F)
followed rules zero k = None
followed rules (suc n) k = outcome (followed rules n) (rules.asking k)

abbrev pub or_circle : {V F : Type 0} → F → Option (Result V F) → Result V F
or_circle circle None = Err circle
or_circle circle (Some r) = r

-- the value of a key, or its fault. No memory holds a list of 2 ^ 64 different keys
unfoldable pub value_of : {K V F : Type 0} → Rules K V F → K → Result V F
value_of rules k = or_circle rules.circle (value_within rules (2 ^ 64) [] k)
