-- Modules that wait for their starts.
use Rattle.std.specs.Prelude.{◌≡◌, ◌⊎◌, ℕ, IsTrue, false, List, [], ◌∷◌, Option, Some, None}
use Rattle.event_set.specs.Events.{last_started}
use Rattle.event_set.specs.Order.{comes_before}
use Rattle.event_set.specs.declared.pending.Pending.{Pending}
use Rattle.run_semantics.specs.Laws.{Each, IsAmong}
use Rattle.run_semantics.specs.Run.{Stage, Running, Over, is_fault, starting}
use Rattle.run_semantics.specs.World.{World}
use Rattle.start_order.specs.Priorities.{IsShort}

-- the run goes on, or is over without a fault
abbrev pub IsUnbroken : Stage → Type 0
IsUnbroken (Running w) = Unit {0}
IsUnbroken (Over w outcome) = is_fault outcome ≡ false

-- it holds of one of these
abbrev pub Any : (Pending → Type 0) → List Pending → Type 0
Any P [] = ⊥
Any P (p ∷ ps) = P p ⊎ Any P ps

-- the modules that an event starts, as the world is now: none, where it is no start
abbrev pub started_by : Pending → Option ℕ → World → List ℕ
started_by p None w = []
started_by p (Some last) w = starting p.id last w

-- an event is the start that a module waits for: it is due now, starts the module, and comes before
-- all that is to come for it and is no start
abbrev pub IsStartOf : World → ℕ → Pending → Type 0
IsStartOf w id s = (s.time ≡ w.clock) × IsAmong id (started_by s (last_started s.what) w) × Each
    (λ p. p.id ≡ id → last_started p.what ≡ None → IsShort p.priority → IsTrue (comes_before s p))
    w.pending

-- A MODULE WAITS for its start: that is one of the events to come
abbrev pub Awaits : World → ℕ → Type 0
Awaits w id = Any (IsStartOf w id) w.pending
