-- A table of values that are known.
use Rattle.std.specs.Prelude.{ℕ, ◌≡◌, Bool, true, length, List, [], ◌∷◌, ◌++◌, slice_get, map}
use Rattle.std.specs.Prelude.{Result, Ok, Err, Option, Some, None}
use Rattle.std.specs.Map.{lookup}
use Rattle.param_following.specs.Asking.{outcome}
use Rattle.param_following.specs.Edits.{answer_of, asked_by}
use Rattle.param_following.specs.Following.{Rules}
use Rattle.param_following.specs.Waiting.{IsRight}
use Rattle.param_engine.specs.declared.finished.Finished.{Finished}

-- the entries of a table, in the order in which their values were found
abbrev pub Entries : Type 0 → Type 0 → Type 0
Entries K V = List (K × Finished V)

-- What a table has: its entries, and how many evaluations the last question began.
pub record Known (K V : Type 0) : Type 0 where
  pub entries : Entries K V
  pub begun : ℕ

abbrev pub value_in : {V : Type 0} → Option (Finished V) → Option V
value_in (Some f) = Some f.value
value_in None = None

abbrev pub value_of_entry : {K V : Type 0} → Option (K × Finished V) → Option V
value_of_entry (Some e) = Some e.1.value
value_of_entry None = None

abbrev pub key_of_entry : {K V : Type 0} → Option (K × Finished V) → Option K
key_of_entry (Some e) = Some e.0
key_of_entry None = None

-- the value of a key, where it is known
abbrev pub known : {K V : Type 0} → (K → K → Bool) → Entries K V → K → Option V
known same es k = value_in (lookup (same k) es)

-- the key at a place
abbrev pub key_at : {K V : Type 0} → Entries K V → ℕ → Option K
key_at es place = key_of_entry (slice_get es place)

abbrev pub keys_at : {K V : Type 0} → Entries K V → List ℕ → List (Option K)
keys_at es [] = []
keys_at es (place ∷ places) = key_at es place ∷ keys_at es places

-- the value at a place
abbrev pub value_at : {K V : Type 0} → Entries K V → ℕ → Option V
value_at es place = value_of_entry (slice_get es place)

-- the places of the keys that the key at a place asked for
abbrev pub places_in : {K V : Type 0} → Option (K × Finished V) → Option (List ℕ)
places_in (Some e) = Some e.1.asked
places_in None = None

abbrev pub asked_at : {K V : Type 0} → Entries K V → ℕ → Option (List ℕ)
asked_at es place = places_in (slice_get es place)

-- a key, or one that is the same, is at that place
abbrev pub IsAt : {K V : Type 0} → (K → K → Bool) → Entries K V → K → ℕ → Type 0
IsAt {K} same es k place = (stored : K) × (key_at es place ≡ Some stored) × (same k stored ≡ true)

-- what stands at a place is what is known of a key, which stands there
abbrev pub IsFoundAt : {K V : Type 0} → (K → K → Bool) → Entries K V → K → ℕ → Type 0
IsFoundAt same es k place = IsAt same es k place × (known same es k ≡ value_at es place)

-- A key with its value and what it asked for, after the entries that were found before it: its
-- value is what its asking comes to, and the places are those of the keys that it asks for, in
-- order, all among the entries before it.
pub record IsNoted {K V F : Type 0} (rules : Rules K V F) (known : K → Option V)
    (before : Entries K V) (e : K × Finished V) : Type 0 where
  pub comes : outcome (λ j. answer_of (known j)) (rules.asking e.0) ≡ Some (Ok e.1.value)
  pub places : keys_at before e.1.asked ≡ map Some (asked_by known (rules.asking e.0))

abbrev pub AreNoted : {K V F : Type 0} → Rules K V F → (K → Option V) → Entries K V
    → Entries K V → Type 0
AreNoted rules known before [] = Unit {0}
AreNoted rules known before (e ∷ es) =
    IsNoted rules known before e × AreNoted rules known (before ++ e ∷ []) es

-- A table that may be kept: all that it knows are values by these rules, and each entry is noted.
pub record IsKept {K V F : Type 0} (rules : Rules K V F) (es : Entries K V) : Type 0 where
  pub right : IsRight rules (length es) (known rules.same es)
  pub noted : AreNoted rules (known rules.same es) [] es

-- the one table begins with the other
abbrev pub Begins : {K V : Type 0} → Entries K V → Entries K V → Type 0
Begins {K} {V} start es = (added : Entries K V) × (es ≡ start ++ added)

-- what an answer says: the value at a place of the table, or a fault
abbrev pub said : {V F : Type 0} → Option V → Option (Result V F)
said (Some v) = Some (Ok v)
said None = None

abbrev pub found_in : {K V F : Type 0} → Entries K V → Result ℕ F → Option (Result V F)
found_in es (Ok place) = said (value_at es place)
found_in es (Err f) = Some (Err f)
