-- What stays of the values that are known, when what some keys ask is changed.
use Rattle.std.specs.Prelude.{ℕ, ◌≡◌, ◌⊎◌, Bool, true, false, if◌then◌else◌, List, [], ◌∷◌, Result}
use Rattle.std.specs.Prelude.{Ok, Option, Some, None}
use Rattle.param_following.specs.Asking.{Asking, Done, Ask, outcome}
use Rattle.param_following.specs.Following.{Rules, is_on}
use Rattle.param_following.specs.Waiting.{IsRight}

-- the values that are known, as answers
abbrev pub answer_of : {V F : Type 0} → Option V → Option (Result V F)
answer_of None = None
answer_of (Some v) = Some (Ok v)

-- with the value, where there is one
abbrev pub asked_then : {K V : Type 0} → Option V → (V → List K) → List K
asked_then None f = []
asked_then (Some v) f = f v

-- THE KEYS THAT AN ASKING RESTS ON directly: those that it asks for, with the values that are known
abbrev pub asked_by : {K V F R : Type 0} → (K → Option V) → Asking K V F R → List K
asked_by known (Done r) = []
asked_by known (Ask k rest) = k ∷ asked_then (known k) (λ v. asked_by known (rest v))

abbrev pub AllKept : {K : Type 0} → (K → Bool) → List K → Type 0
AllKept keep [] = Unit {0}
AllKept keep (k ∷ ks) = (keep k ≡ true) × AllKept keep ks

-- each value that is known is what its asking comes to with the values that are known
abbrev pub IsClosed : {K V F : Type 0} → Rules K V F → (K → Option V) → Type 0
IsClosed {K} {V} rules known = (k : K) (v : V) → known k ≡ Some v
    → outcome (λ j. answer_of (known j)) (rules.asking k) ≡ Some (Ok v)

-- what is kept of it
abbrev pub kept_of : {K V : Type 0} → (K → Bool) → (K → Option V) → K → Option V
kept_of keep known k = if keep k then known k else None

-- A choice of what to keep is sound where each key that is kept asks as before, and rests on kept
-- keys alone.
abbrev pub IsSound : {K V F : Type 0} → Rules K V F → Rules K V F → (K → Option V)
    → (K → Bool) → Type 0
IsSound {K} {V} old new known keep = (k : K) (v : V) → keep k ≡ true → known k ≡ Some v →
    (new.asking k ≡ old.asking k) × AllKept keep (asked_by known (old.asking k))

-- KEPT VALUES: by a sound choice those that are kept are right and closed under the new rules
abbrev pub KeepsRight : {K V F : Type 0} → Rules K V F → Rules K V F → Type 0
KeepsRight {K} {V} old new = (n : ℕ) (known : K → Option V) (keep : K → Bool) → IsRight old n known
    → IsClosed old known → IsSound old new known keep →
    IsRight new n (kept_of keep known) × IsClosed new (kept_of keep known)

-- a key is on a list
abbrev pub IsAsked : {K : Type 0} → K → List K → Type 0
IsAsked j [] = ⊥
IsAsked j (k ∷ ks) = (j ≡ k) ⊎ IsAsked j ks

-- A key rests on a changed one: it is changed, or asked directly for one that rests on a changed
-- one.
pub data RestsOnChanged {K : Type 0} (asked : K → List K) (changed : K → Bool) : K → Type 0 where
  itself : (k : K) → changed k ≡ true → RestsOnChanged asked changed k
  asks : (k j : K) → IsAsked j (asked k) → RestsOnChanged asked changed j
      → RestsOnChanged asked changed k

-- ---- which values to keep, by one pass over the keys of the table in the order in which their
-- values were found

abbrev pub all_on : {K : Type 0} → (K → K → Bool) → List K → List K → Bool
all_on same [] ks = true
all_on same (j ∷ js) ks = if is_on same j ks then all_on same js ks else false

-- whether a key is kept: it isn't changed, and all that it asked for are kept
abbrev pub stays : {K : Type 0} → (K → K → Bool) → (K → List K) → (K → Bool) → List K → K → Bool
stays same asked changed kept k = if changed k then false else all_on same (asked k) kept

abbrev pub kept_keys : {K : Type 0} → (K → K → Bool) → (K → List K) → (K → Bool) → List K
    → List K → List K
kept_keys same asked changed [] kept = kept
kept_keys same asked changed (k ∷ ks) kept =
    kept_keys same asked changed ks (if stays same asked changed kept k then k ∷ kept else kept)

-- each key comes after those that it asked for
abbrev pub IsInOrder : {K : Type 0} → (K → K → Bool) → (K → List K) → List K → List K → Type 0
IsInOrder same asked [] before = Unit {0}
IsInOrder same asked (k ∷ ks) before =
    (all_on same (asked k) before ≡ true) × IsInOrder same asked ks (k ∷ before)

-- WHAT THE PASS KEEPS asks as before and rests on kept keys alone
abbrev pub KeepsSound : {K : Type 0} → (K → K → Bool) → (K → List K) → (K → Bool) → Type 0
KeepsSound {K} same asked changed = (ks : List K) (k : K)
    → is_on same k (kept_keys same asked changed ks []) ≡ true →
    (changed k ≡ false) × (all_on same (asked k) (kept_keys same asked changed ks []) ≡ true)

-- WHAT IT GIVES UP rests on a changed key
abbrev pub GivesUpOnlyAffected : {K : Type 0} → (K → K → Bool) → (K → List K) → (K → Bool) → Type 0
GivesUpOnlyAffected {K} same asked changed = (ks : List K) (k : K) → IsInOrder same asked ks []
    → is_on same k ks ≡ true →
    is_on same k (kept_keys same asked changed ks []) ≡ false → RestsOnChanged asked changed k

-- AFTER AN EDIT: let the keys of a table stand in the order in which their values were found, and
-- each key that isn't marked as changed ask as before. What the pass keeps is right and closed in
-- the new model, and each key that it gives up rests on a changed one.
abbrev pub EditKeeps : {K V F : Type 0} → Rules K V F → Rules K V F → Type 0
EditKeeps {K} {V} old new = (n : ℕ) (known : K → Option V) (changed : K → Bool) (ks : List K) →
    let asked : K → List K = λ k. asked_by known (old.asking k) in
    let keep : K → Bool = λ k. is_on old.same k (kept_keys old.same asked changed ks []) in
    IsRight old n known → IsClosed old known
    → ((k : K) → changed k ≡ false → new.asking k ≡ old.asking k)
    → IsInOrder old.same asked ks [] →
    IsRight new n (kept_of keep known) × IsClosed new (kept_of keep known) ×
    ((k : K) → is_on old.same k ks ≡ true → keep k ≡ false → RestsOnChanged asked changed k)
