-- Values that are kept, each in a place that stays, with what rests on what.
use Rattle.std.specs.Prelude.{◌≡◌, ◌<◌, ◌≤◌, ◌+◌, ◌-◌, ◌^◌, nat_lt, ℕ, Bool, true, false, if◌then◌else◌}
use Rattle.std.specs.Prelude.{List, [], ◌∷◌, length, map, slice_get, Option, Some, None}
use Rattle.param_following.specs.Edits.{asked_by, IsClosed}
use Rattle.param_following.specs.Following.{Rules}
use Rattle.param_following.specs.Waiting.{IsRight}
use Rattle.rest_index.specs.declared.row.Row.{Row}
use Rattle.rest_index.specs.Rests.{asked_of, is_among, is_live, users_of, AreClosed, AreIndexed}

-- WHAT IS KEPT: for each place its key, which stays, and the value that was found last; what each
-- place asked for, and who asked for it; and whether its value counts.
pub record Store (K V : Type 0) : Type 0 where
  pub entries : List (K × V)
  pub rows : List Row
  pub live : List Bool

-- a key with its value, where that counts
abbrev pub if_live : {V : Type 0} → Bool → V → Option V
if_live true v = Some v
if_live false v = None

-- the value of a key among these entries, of which those count
abbrev pub value_among : {K V : Type 0} → (K → K → Bool) → List (K × V) → List Bool → K → Option V
value_among same [] live k = None
value_among same (e ∷ es) [] k = None
value_among same (e ∷ es) (b ∷ bs) k =
    if same k e.0 then if_live b e.1 else value_among same es bs k

-- THE VALUES THAT ARE KNOWN
abbrev pub known_in : {K V : Type 0} → (K → K → Bool) → Store K V → K → Option V
known_in same s = value_among same s.entries s.live

-- the key of a place
abbrev pub key_in : {K V : Type 0} → Option (K × V) → Option K
key_in None = None
key_in (Some e) = Some e.0

abbrev pub key_at : {K V : Type 0} → List (K × V) → ℕ → Option K
key_at es p = key_in (slice_get es p)

-- and its value, whether it counts or not
abbrev pub value_in : {K V : Type 0} → Option (K × V) → Option V
value_in None = None
value_in (Some e) = Some e.1

abbrev pub value_at : {K V : Type 0} → List (K × V) → ℕ → Option V
value_at es p = value_in (slice_get es p)

abbrev pub keys_at : {K V : Type 0} → List (K × V) → List ℕ → List (Option K)
keys_at es [] = []
keys_at es (p ∷ ps) = key_at es p ∷ keys_at es ps

-- no key has two places
abbrev pub HasOnePlace : {K V : Type 0} → (K → K → Bool) → List (K × V) → Type 0
HasOnePlace {K} same es = (p q : ℕ) (k j : K) → key_at es p ≡ Some k → key_at es q ≡ Some j
    → same k j ≡ true → p ≡ q

-- The shape of a store, whatever the rules: no key has two places, what counts has a key, and asked
-- for what counts alone; the index misses no place that asked for one, and has no place without a
-- key.
pub record IsShaped {K V : Type 0} (same : K → K → Bool) (s : Store K V) : Type 0 where
  pub closed : AreClosed s.rows s.live
  pub indexed : AreIndexed s.rows
  pub apart : HasOnePlace same s.entries
  pub within : (p : ℕ) → is_live s.live p ≡ true → p < length s.entries
  pub users_within : (p u : ℕ) → is_among u (users_of s.rows p) ≡ true → u < length s.entries
  pub as_many : (length s.entries ≤ length s.live) × (length s.live ≤ length s.rows)

-- A STORE THAT MAY BE KEPT: each value that counts is what following references finds, in so many
-- steps; and the places that it asked for are those of the keys that its asking asks for.
pub record IsStored {K V F : Type 0} (rules : Rules K V F) (n : ℕ) (s : Store K V) : Type 0 where
  pub right : IsRight rules n (known_in rules.same s)
  pub shut : IsClosed rules (known_in rules.same s)
  pub asked : (p : ℕ) (k : K) → key_at s.entries p ≡ Some k → is_live s.live p ≡ true
      → keys_at s.entries (asked_of s.rows p)
      ≡ map Some (asked_by (known_in rules.same s) (rules.asking k))
  pub shaped : IsShaped rules.same s

-- What a table has: values in places, what rests on what, and how many values were ever added. Which
-- of them count is said by flags beside it, of which there may be several.
pub record Keeping (K V : Type 0) : Type 0 where
  pub entries : List (K × V)
  pub rows : List Row
  pub evaluations : ℕ

-- a table as these flags see it
abbrev pub store_of : {K V : Type 0} → Keeping K V → List Bool → Store K V
store_of kept live = record { entries = kept.entries; rows = kept.rows; live = live }

-- keys that are equal are one
abbrev pub AreOne : {K : Type 0} → (K → K → Bool) → Type 0
AreOne {K} same = (a b : K) → same a b ≡ true → a ≡ b

-- one more, up to the last number of 64 bits, where it stays
abbrev pub one_more : ℕ → ℕ
one_more n = if nat_lt n (2 ^ 64 - 1) then n + 1 else n
