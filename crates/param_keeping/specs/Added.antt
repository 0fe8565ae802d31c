-- A value that was found is kept.
use Rattle.std.specs.Prelude.{◌≡◌, ◌≢◌, ℕ, suc, Bool, true, List, length, map, slice_get}
use Rattle.std.specs.Prelude.{Some, None, Ok}
use Rattle.param_following.specs.Asking.{outcome}
use Rattle.param_following.specs.Edits.{answer_of, asked_by}
use Rattle.param_following.specs.Following.{Rules}
use Rattle.param_following.specs.Laws.{IsExact}
use Rattle.rest_index.specs.Rests.{asked_of, is_live}
use Rattle.param_keeping.specs.Stores.{Store, IsShaped, IsStored, known_in, key_at, keys_at}

-- A VALUE IS ADDED at a place: a new one at the end, or that of a key whose value was given up. It
-- counts, and that place asked for these; all other places are as they were.
pub record IsAdded {K V : Type 0} (same : K → K → Bool) (s : Store K V) (p : ℕ) (k : K) (v : V)
    (asked : List ℕ) (after : Store K V) : Type 0 where
  pub there : slice_get after.entries p ≡ Some (k, v)
  pub own : (j : K) → key_at s.entries p ≡ Some j → j ≡ k
  pub others : (q : ℕ) → q ≢ p → slice_get after.entries q ≡ slice_get s.entries q
  pub asked_for : asked_of after.rows p ≡ asked
  pub others_asked : (q : ℕ) → q ≢ p → asked_of after.rows q ≡ asked_of s.rows q
  pub counts : is_live after.live p ≡ true
  pub others_count : (q : ℕ) → q ≢ p → is_live after.live q ≡ is_live s.live q
  pub shaped : IsShaped same after

-- WHAT WAS FOUND MAY BE KEPT: where the value is what its asking comes to by what is known, and the
-- places are those of the keys that it asked for, the store may be kept with one step more.
abbrev pub FoundIsKept : {K V F : Type 0} → Rules K V F → Type 0
FoundIsKept {K} {V} rules = (n : ℕ) (s after : Store K V) (p : ℕ) (k : K) (v : V) (asked : List ℕ)
    → IsExact rules → IsStored rules n s → known_in rules.same s k ≡ None
    → outcome (λ j. answer_of (known_in rules.same s j)) (rules.asking k) ≡ Some (Ok v)
    → keys_at s.entries asked ≡ map Some (asked_by (known_in rules.same s) (rules.asking k))
    → (is_live s.live p ≡ true → ⊥) → IsAdded rules.same s p k v asked after →
    IsStored rules (suc n) after

-- The same values are known, each at its place, and each place asked for the same; what stands at
-- places that don't count may be another value or a new key.
pub record KnowsTheSame {K V : Type 0} (same : K → K → Bool) (before after : Store K V)
    : Type 0 where
  pub known : (k : K) → known_in same after k ≡ known_in same before k
  pub keys : (p : ℕ) (k : K) → key_at before.entries p ≡ Some k → key_at after.entries p ≡ Some k
  pub asked : (p : ℕ) → asked_of after.rows p ≡ asked_of before.rows p
  pub counts : (p : ℕ) → is_live after.live p ≡ is_live before.live p
  pub shaped : IsShaped same after

-- A STORE THAT KNOWS THE SAME as one that may be kept may be kept as well.
abbrev pub SameIsKept : {K V F : Type 0} → Rules K V F → Type 0
SameIsKept {K} {V} rules = (n : ℕ) (before after : Store K V) → IsStored rules n before
    → KnowsTheSame rules.same before after → IsStored rules n after

-- STEPS: a store that may be kept is found in as many steps as it has places, however many it took.
abbrev pub StepsArePlaces : {K V F : Type 0} → Rules K V F → Type 0
StepsArePlaces {K} {V} rules = (n : ℕ) (s : Store K V) → IsExact rules → IsStored rules n s
    → IsStored rules (length s.entries) s
