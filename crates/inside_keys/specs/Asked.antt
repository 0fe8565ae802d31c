-- Askings for keys, with what is done next.
use Rattle.std.specs.Prelude.{ℕ, ℤ, pos, negsuc, true, false, Option, Some, None, Result, Ok, Err}
use Rattle.std.specs.Prelude.{nat_lt, if◌then◌else◌}
use Rattle.param_following.specs.Asking.{Asking, Done, Ask}
use Rattle.sim_values.specs.declared.value.Value.{Value}
use Rattle.sim_values.specs.declared.value.Value.TheVariants as value
use Rattle.sim_values.specs.declared.model_fault.ModelFault.{ModelFault}
use Rattle.sim_values.specs.declared.model_fault.ModelFault.TheVariants as fault
use Rattle.sim_values.specs.declared.model_fault.ModelFault.TheVariants.{UnknownType, GateSize}
use Rattle.sim_values.specs.declared.value_fault.ValueFault.TheVariants.{Unassigned, Mismatch}
use Rattle.inside_wiring.specs.declared.wiring.Carrier.{Carrier}
use Rattle.param_eval.specs.References.{Reference}
use Rattle.param_eval.specs.Values.{Valued}
use Rattle.inside_keys.specs.declared.found.Found.{Found}
use Rattle.inside_keys.specs.declared.found.Found.TheVariants as found
use Rattle.inside_keys.specs.declared.key.Key.{Key}
use Rattle.inside_keys.specs.declared.place.Meaning.{Meaning}
use Rattle.inside_keys.specs.declared.place.Meaning.TheVariants as meaning

-- an asking for values of keys
abbrev pub KeyAsking : Type 0
KeyAsking = Asking Key Found ModelFault Found

-- with a value; an inside is never asked for where a value is wanted
abbrev pub value_then : (Value → KeyAsking) → Found → KeyAsking
value_then next (found.Value v) = next v
value_then next (found.Carrier c) = Done (Err (fault.Value Mismatch))
value_then next (found.Inside i) = Done (Err (fault.Value Mismatch))

-- the value of a key, and then the rest
abbrev pub ask_then : Key → (Value → KeyAsking) → KeyAsking
ask_then k next = Ask k (value_then next)

-- with what a channel does
abbrev pub carrier_then : (Carrier → KeyAsking) → Found → KeyAsking
carrier_then next (found.Carrier c) = next c
carrier_then next (found.Value v) = Done (Err (fault.Value Mismatch))
carrier_then next (found.Inside i) = Done (Err (fault.Value Mismatch))

-- what a channel does, and then the rest
abbrev pub carried_then : Key → (Carrier → KeyAsking) → KeyAsking
carried_then k next = Ask k (carrier_then next)

-- the first fault, or the rest
abbrev pub result_then : {A : Type 0} → Result A ModelFault → (A → KeyAsking) → KeyAsking
result_then (Ok x) next = next x
result_then (Err f) next = Done (Err f)

-- with a whole number
abbrev pub whole_then : Value → (ℤ → KeyAsking) → KeyAsking
whole_then (value.Whole z) next = next z
whole_then _ next = Done (Err (fault.Value Mismatch))

-- a size of 0 to 65,536, as keys of sizes have
abbrev pub small : ℤ → Result ℕ ModelFault
small (pos n) = if nat_lt 65536 n then Err GateSize else Ok n
small (negsuc n) = Err GateSize

abbrev pub sized_by : Value → Result ℕ ModelFault
sized_by (value.Whole z) = small z
sized_by _ = Err (fault.Value Mismatch)

abbrev pub size_then : Value → (ℕ → KeyAsking) → KeyAsking
size_then v next = result_then (sized_by v) next

-- the number of a type, as keys of types have
abbrev pub natural_in : ℤ → Result ℕ ModelFault
natural_in (pos n) = Ok n
natural_in (negsuc n) = Err (fault.Value Mismatch)

abbrev pub numbered_by : Value → Result ℕ ModelFault
numbered_by (value.Whole z) = natural_in z
numbered_by _ = Err (fault.Value Mismatch)

abbrev pub number_then : Value → (ℕ → KeyAsking) → KeyAsking
number_then v next = result_then (numbered_by v) next

-- what is there, or else the type isn't known
abbrev pub known_then : {A : Type 0} → Option A → (A → KeyAsking) → KeyAsking
known_then None next = Done (Err UnknownType)
known_then (Some x) next = next x

-- one way where it is true, the other where it is false
abbrev pub truth_then : Value → KeyAsking → KeyAsking → KeyAsking
truth_then (value.Truth true) if_so if_not = if_so
truth_then (value.Truth false) if_so if_not = if_not
truth_then _ if_so if_not = Done (Err (fault.Value Mismatch))

-- what is meant
abbrev pub meant_then : Meaning → (Value → KeyAsking) → KeyAsking
meant_then (meaning.Is v) next = next v
meant_then (meaning.Of k) next = ask_then k next
meant_then meaning.Nothing next = Done (Err (fault.Value Unassigned))

-- an asking for references is one for what they mean; then the rest, with the value that it comes
-- to
abbrev pub valued_then : (Reference → Meaning) → Valued → (Value → KeyAsking) → KeyAsking
valued_then means (Done (Ok v)) next = next v
valued_then means (Done (Err f)) next = Done (Err (fault.Value f))
valued_then means (Ask r rest) next = meant_then (means r) (λ v. valued_then means (rest v) next)
