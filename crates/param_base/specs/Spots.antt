-- What is found over a base, and where.
use Rattle.std.specs.Prelude.{◌+◌, ◌^◌, ◌≡◌, ◌≤◌, Bool, true, List, length, slice_get}
use Rattle.std.specs.Prelude.{Result, Ok, Err, Option, Some, None}
use Rattle.param_following.specs.Following.{Rules, value_of}
use Rattle.param_following.specs.Laws.{IsExact}
use Rattle.param_engine.specs.Tables.{Entries, Known, IsKept, known, value_at, said}
use Rattle.param_engine.specs.Working.{AreBegunOnce}
use Rattle.rest_index.specs.Rests.{is_live}
use Rattle.param_keeping.specs.Stores.{Keeping, IsStored, key_at, store_of}
use Rattle.param_base.specs.declared.spot.Spot.{Spot}
use Rattle.param_base.specs.declared.spot.Spot.TheVariants as spot
use Rattle.param_base.specs.Asking.{known_by}
use Rattle.param_base.specs.Over.{over, IsWithin}

-- A base: what these flags count may be kept, found in as many steps as there are places.
abbrev pub IsBase : {K V F : Type 0} → Rules K V F → Keeping K V → List Bool → Type 0
IsBase rules kept live = IsStored rules (length kept.entries) (store_of kept live)

-- the rules over that base
abbrev pub over_base : {K V F : Type 0} → Rules K V F → Keeping K V → List Bool → Rules K V F
over_base rules kept live = over (known_by rules.same kept live) rules

abbrev pub second_of : {K V : Type 0} → Option (K × V) → Option V
second_of None = None
second_of (Some e) = Some e.1

-- the value at a spot of a base and of a table of one's own
abbrev pub value_at_spot : {K V : Type 0} → Keeping K V → Entries K V → Spot → Option V
value_at_spot kept es (spot.Kept p) = second_of (slice_get kept.entries p)
value_at_spot kept es (spot.Own p) = value_at es p

-- what an answer says: the value at a spot, or a fault
abbrev pub found_at : {K V F : Type 0} → Keeping K V → Entries K V → Result Spot F
    → Option (Result V F)
found_at kept es (Ok s) = said (value_at_spot kept es s)
found_at kept es (Err f) = Some (Err f)

-- WHAT IS FOUND IS THE VALUE of the key. What is no value is its fault, wherever the bound of the
-- definition is enough without the base.
abbrev pub IsValueOver : {K V F : Type 0} → Rules K V F → Keeping K V → Entries K V → K
    → Result Spot F → Type 0
IsValueOver rules kept es key (Ok (spot.Kept p)) =
    found_at kept es (Ok (spot.Kept p)) ≡ Some (value_of rules key)
IsValueOver rules kept es key (Ok (spot.Own p)) =
    found_at kept es (Ok (spot.Own p)) ≡ Some (value_of rules key)
IsValueOver rules kept es key (Err f) = IsWithin rules key → value_of rules key ≡ Err f

-- THE BASE COMES FIRST: what it knows is answered from it, and stands there and counts; only what
-- it doesn't know is asked for.
abbrev pub IsFromBase : {K V F : Type 0} → (K → K → Bool) → Keeping K V → List Bool → K
    → Result Spot F → Type 0
IsFromBase same kept live key (Ok (spot.Kept p)) =
    (key_at kept.entries p ≡ Some key) × (is_live live p ≡ true)
IsFromBase same kept live key (Ok (spot.Own p)) = known_by same kept live key ≡ None
IsFromBase same kept live key (Err f) = known_by same kept live key ≡ None

-- NO MORE IS EVALUATED THAN IS ADDED to the table: for a key that the base knows nothing; where
-- there is a value, what was added; before a fault, those, and keys that have no value, each once.
abbrev pub IsFoundOnce : {K V F : Type 0} → Rules K V F → Known K V → Known K V → Result Spot F
    → Type 0
IsFoundOnce rules before after (Ok (spot.Kept p)) = after ≡ before
IsFoundOnce rules before after (Ok (spot.Own p)) =
    after.begun + length before.entries ≡ length after.entries
IsFoundOnce rules before after (Err f) =
    AreBegunOnce rules before.entries after.entries after.begun

-- WHAT A TABLE OVER A BASE KNOWS IS THE VALUE, where both together have no more places than the bound
-- of the definition.
abbrev pub OwnIsValue : {K V F : Type 0} → Rules K V F → Type 0
OwnIsValue {K} {V} rules = (kept : Keeping K V) (live : List Bool) (es : Entries K V) (k : K) (v : V)
    → IsExact rules → IsBase rules kept live → IsKept (over_base rules kept live) es
    → length es + length kept.entries ≤ 2 ^ 64 → known rules.same es k ≡ Some v →
    value_of rules k ≡ Ok v
