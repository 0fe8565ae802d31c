-- Timers among the events to come.
use Rattle.std.specs.Prelude.{ℕ, ◌==◌, ◌&&◌, Bool, false, List, [], ◌∷◌, if◌then◌else◌}
use Rattle.std.specs.List.{list_any}
use Rattle.event_set.specs.declared.pending.Happening.{Happening}
use Rattle.event_set.specs.declared.pending.Happening.TheVariants.{Timer, Arrival, Delivery, Start}
use Rattle.event_set.specs.declared.pending.Pending.{Pending}

abbrev pub is_timer_number : ℕ → Happening → Bool
is_timer_number timer (Timer number kind) = number == timer
is_timer_number timer (Arrival kind bits payload) = false
is_timer_number timer (Delivery delivery) = false
is_timer_number timer (Start last) = false

-- whether it is that timer of that module
abbrev pub is_timer : ℕ → ℕ → Pending → Bool
is_timer id timer p = (p.id == id) && is_timer_number timer p.what

-- whether that timer of that module is pending
abbrev pub has_timer : ℕ → ℕ → List Pending → Bool
has_timer id timer ps = list_any (λ p. is_timer id timer p) ps

-- without the first event that is that timer of that module
abbrev pub without_timer : ℕ → ℕ → List Pending → List Pending
without_timer id timer [] = []
without_timer id timer (p ∷ ps) = if is_timer id timer p then ps else p ∷ without_timer id timer ps

-- whether what is to happen to a module is a timer that is pending already
abbrev pub is_pending : ℕ → Happening → List Pending → Bool
is_pending id (Timer timer kind) ps = has_timer id timer ps
is_pending id (Arrival kind bits payload) ps = false
is_pending id (Delivery delivery) ps = false
is_pending id (Start last) ps = false
