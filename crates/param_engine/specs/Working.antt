-- Keys that are being evaluated over a table.
use Rattle.std.specs.Prelude.{ℕ, ◌+◌, ◌≡◌, Bool, true, false, List, [], ◌∷◌, ◌++◌, length, map}
use Rattle.std.specs.Prelude.{Result, Option, Some, None, IfOk, OnOk}
use Rattle.param_following.specs.Asking.{Asking, Ask}
use Rattle.param_following.specs.Edits.{asked_by}
use Rattle.param_following.specs.Following.{Rules, is_on, value_of}
use Rattle.param_following.specs.Waiting.{ComesTo, Waiter, keys_of, AreWaiting, bottom_of}
use Rattle.param_engine.specs.declared.frame.Frame.{Frame}
use Rattle.param_engine.specs.declared.turn.EngineStep.{EngineStep}
use Rattle.param_engine.specs.declared.turn.EngineStep.TheVariants as turn
use Rattle.param_engine.specs.Tables.{Begins, Entries, IsFoundAt, IsKept, found_in, keys_at, known}

-- what each key asks, and which keys are the same
abbrev pub ruled : {K V F : Type 0} → (K → K → Bool) → (K → Asking K V F V) → F → Rules K V F
ruled same asking circle = record { same = same; asking = asking; circle = circle }

-- more is known, and nothing else of what was known
abbrev pub Grows : {K V : Type 0} → (K → Option V) → (K → Option V) → Type 0
Grows {K} {V} before after = (k : K) (v : V) → before k ≡ Some v → after k ≡ Some v

-- An asking has come from s to t, and asked on its way for the keys at these places.
pub record HasAsked {K V F : Type 0} (es : Entries K V) (known : K → Option V) (s : Asking K V F V)
    (places : List ℕ) (t : Asking K V F V) : Type 0 where
  pub keys : List K
  pub places_are : keys_at es places ≡ map Some keys
  pub asks : (more : K → Option V) → Grows known more → asked_by more s ≡ keys ++ asked_by more t

-- By what is known an asking goes on from t to u, and asks for the keys at the further places.
pub record GoesOn {K V F : Type 0} (es : Entries K V) (known : K → Option V) (places : List ℕ)
    (t : Asking K V F V) (further : List ℕ) (u : Asking K V F V) : Type 0 where
  pub comes : ComesTo known t u
  pub asked : (s : Asking K V F V) → HasAsked es known s places t → HasAsked es known s further u

-- where it asks, it asks for a key whose value isn't known
abbrev pub IsHeldUp : {K V F : Type 0} → (K → Option V) → EngineStep K V F → Type 0
IsHeldUp known (turn.Ask k) = known k ≡ None
IsHeldUp known (turn.Done v) = Unit {0}
IsHeldUp known (turn.Fault f) = Unit {0}

-- a key that waits, with where its evaluation is
abbrev pub Opened : Type 0 → Type 0 → Type 0
Opened K E = K × Frame E

-- The keys that are being evaluated, the one asked first first, and how those that wait go on: k is
-- the last, and the others are those that wait, the last first.
abbrev pub Stand : {K E : Type 0} → List K → List (Frame E) → K → List (Opened K E) → Type 0
Stand keys frames k [] = (keys ≡ k ∷ []) × (frames ≡ [])
Stand {K} {E} keys frames k (o ∷ os) = (ks : List K) × (fs : List (Frame E)) × (keys ≡ ks ++ k ∷ [])
    × (frames ≡ fs ++ o.1 ∷ []) × Stand ks fs o.0 os

module _ {K V F E : Type 0} (resumed : E → V → Asking K V F V) where
  abbrev pub waiters : List (Opened K E) → List (Waiter K V F)
  waiters [] = []
  waiters (o ∷ os) = record { key = o.0; rest = resumed o.1.evaluation } ∷ waiters os

  -- each of those that wait has asked for the keys at its places
  abbrev pub HaveAsked : Rules K V F → Entries K V → K → List (Opened K E) → Type 0
  HaveAsked rules es k [] = Unit {0}
  HaveAsked rules es k (o ∷ os) = HasAsked es (known rules.same es) (rules.asking o.0) o.1.asked
      (Ask k (resumed o.1.evaluation))
      × HaveAsked rules es o.0 os

abbrev pub AreDistinct : {K : Type 0} → (K → K → Bool) → List K → Type 0
AreDistinct same [] = Unit {0}
AreDistinct same (k ∷ ks) = (is_on same k ks ≡ false) × AreDistinct same ks

-- The key `asked` is being evaluated over a table that began as `start`: now k, the last of the
-- keys, whose asking has come to t and asked for the keys at these places, and those that wait,
-- each for the one after it.
pub record IsGoingAt {K V F E : Type 0} (rules : Rules K V F) (resumed : E → V → Asking K V F V)
    (start : Entries K V) (asked : K) (es : Entries K V) (begun : ℕ) (keys : List K)
    (frames : List (Frame E)) (places : List ℕ) (t : Asking K V F V) (k : K)
    (os : List (Opened K E)) : Type 0 where
  pub stand : Stand keys frames k os
  pub kept : IsKept rules es
  pub comes : ComesTo (known rules.same es) (rules.asking k) t
  pub noting : HasAsked es (known rules.same es) (rules.asking k) places t
  pub waiting : AreWaiting rules (known rules.same es) k (waiters resumed os)
  pub notings : HaveAsked resumed rules es k os
  pub bottom : bottom_of k (waiters resumed os) ≡ asked
  pub unknown : (s : K) → is_on rules.same s (k ∷ keys_of (waiters resumed os)) ≡ true
      → known rules.same es s ≡ None
  pub distinct : AreDistinct rules.same (k ∷ keys_of (waiters resumed os))
  pub begins : Begins start es
  pub count : begun + length start ≡ length es + length keys

abbrev pub IsGoing : {K V F E : Type 0} → Rules K V F → (E → V → Asking K V F V) → Entries K V → K
    → Entries K V → ℕ → List K → List (Frame E) → List ℕ → Asking K V F V → Type 0
IsGoing {K} {V} {F} {E} rules resumed start asked es begun keys frames places t =
    (k : K) × (os : List (Opened K E))
    × IsGoingAt rules resumed start asked es begun keys frames places t k os

-- Each evaluation was of another key: of one that was added to the table, or of one that has no
-- value.
abbrev pub AreBegunOnce : {K V F : Type 0} → Rules K V F → Entries K V → Entries K V → ℕ → Type 0
AreBegunOnce {K} rules start es begun =
    (left : List K) × (begun + length start ≡ length es + length left) × AreDistinct rules.same left
    × ((s : K) → is_on rules.same s left ≡ true → known rules.same es s ≡ None)

-- What is answered to a question about a key, with a table that began as `start`: its value, which
-- stands in the table, at the key's place, or its fault. The table may be kept, and each key was
-- evaluated once at most: where there is a value, those that were added.
pub record IsAnswered {K V F : Type 0} (rules : Rules K V F) (start : Entries K V) (asked : K)
    (es : Entries K V) (begun : ℕ) (found : Result ℕ F) : Type 0 where
  pub value : found_in es found ≡ Some (value_of rules asked)
  pub kept : IsKept rules es
  pub begins : Begins start es
  pub once : AreBegunOnce rules start es begun
  pub counted : OnOk found (begun + length start ≡ length es)
  pub there : IfOk found (IsFoundAt rules.same es asked)
