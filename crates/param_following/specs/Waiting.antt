-- Keys that are being evaluated, each waiting for the value of the next, over a table of values
-- that are known.
use Rattle.std.specs.Prelude.{ℕ, ◌≡◌, List, [], ◌∷◌, Result, Ok, Option, Some}
use Rattle.param_following.specs.Asking.{Asking, Ask, outcome}
use Rattle.param_following.specs.Following.{Rules, followed}

-- the answers agree with the values that are known
abbrev pub Agrees : {K V F : Type 0} → (K → Option V) → (K → Option (Result V F)) → Type 0
Agrees {K} {V} {F} known answers = (k : K) (v : V) → known k ≡ Some v → answers k ≡ Some (Ok v)

-- by the values that are known the one asking comes to the other
abbrev pub ComesTo : {K V F R : Type 0} → (K → Option V) → Asking K V F R → Asking K V F R → Type 0
ComesTo {K} {V} {F} known s t = (answers : K → Option (Result V F)) → Agrees known answers
    → outcome answers s ≡ outcome answers t

-- each value that is known is what following finds in n steps
abbrev pub IsRight : {K V F : Type 0} → Rules K V F → ℕ → (K → Option V) → Type 0
IsRight rules n known = Agrees known (followed rules n)

-- a key that is being evaluated, and how it goes on with the value that it waits for
pub record Waiter (K V F : Type 0) : Type 0 where
  pub key : K
  pub rest : V → Asking K V F V

abbrev pub keys_of : {K V F : Type 0} → List (Waiter K V F) → List K
keys_of [] = []
keys_of (w ∷ ws) = w.key ∷ keys_of ws

-- the first waits for k, and each of the others for the one before
abbrev pub AreWaiting : {K V F : Type 0} → Rules K V F → (K → Option V) → K
    → List (Waiter K V F) → Type 0
AreWaiting rules known k [] = Unit {0}
AreWaiting rules known k (w ∷ ws) =
    ComesTo known (rules.asking w.key) (Ask k w.rest) × AreWaiting rules known w.key ws

-- the key at the bottom: the one that was asked first
abbrev pub bottom_of : {K V F : Type 0} → K → List (Waiter K V F) → K
bottom_of k [] = k
bottom_of k (w ∷ ws) = bottom_of w.key ws
