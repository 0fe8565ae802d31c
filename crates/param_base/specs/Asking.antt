-- How an evaluation goes on over a base.
use Rattle.std.specs.Prelude.{ℕ, Bool, List, Err, Option, Some, None}
use Rattle.param_following.specs.Asking.{Asking, Done}
use Rattle.param_keeping.specs.Stores.{Keeping, known_in, store_of}

-- the values that a table knows by these flags
abbrev pub known_by : {K V : Type 0} → (K → K → Bool) → Keeping K V → List Bool → K → Option V
known_by same kept live = known_in same (store_of kept live)

-- that of a key which the base knows waits for nothing, so it doesn't go on
abbrev pub resumed_over : {K V F E : Type 0} → F → (E → V → Asking K V F V) → Option E → V
    → Asking K V F V
resumed_over circle resumed None v = Done (Err circle)
resumed_over circle resumed (Some e) v = resumed e v

abbrev pub left_over : {E : Type 0} → (E → ℕ) → Option E → ℕ
left_over left None = 0
left_over left (Some e) = left e
