-- Why the program ends early.
use Rattle.std.specs.Prelude.{◌≡◌, ◌⊎◌, ℕ, Bool, true, false, List, Result, Ok, Err}
use Rattle.desk_answers.specs.Refusals.{refusal_text}
use Rattle.input_lines.specs.Waits.{Waiting}
use Rattle.model_reading.specs.Models.{Refuses}
use Rattle.model_reading.specs.declared.begin.BeginFault.{BeginFault}
use Rattle.model_reading.specs.declared.begin.BeginFault.TheVariants as fault
use Rattle.nedrun_exit.specs.declared.stops.ExitReason.{ExitReason}
use Rattle.nedrun_exit.specs.declared.stops.ExitReason.TheVariants as stop
use Rattle.nedrun_client.specs.Stops.{IsReason}

-- the program ends with the text of that refusal, or memory ran out
abbrev pub IsNamed : BeginFault → ExitReason → Type 0
IsNamed f (stop.Refused text line) = text ≡ refusal_text f
IsNamed f (stop.NoMemory error) = Unit {0}
IsNamed f _ = ⊥

-- what ends the program where the texts make no model
abbrev pub IsStopOf : BeginFault → ExitReason → Type 0
IsStopOf (fault.NoMemory error) s = s ≡ stop.NoMemory error
IsStopOf f s = IsNamed f s

-- what becomes of a session at its end, where a fault of its last run is told or not
abbrev pub end_of : Bool → Result Unit ExitReason
end_of true = Err stop.Fault
end_of false = Ok tt

-- WHY A SESSION ENDS EARLY: the texts are refused, for that reason and with the text that says so;
-- or the user can't go on; or, where the words want that told, the last run ended in a fault
abbrev pub EndsEarly : List (List ℕ) → List ℕ → List ℕ → Bool → ExitReason → Type 0
EndsEarly texts ini config strict s =
    ((fault : BeginFault) × Refuses texts ini config fault × IsStopOf fault s)
    ⊎ (((waiting : Waiting) × IsReason waiting s) ⊎ ((strict ≡ true) × (s ≡ stop.Fault)))
