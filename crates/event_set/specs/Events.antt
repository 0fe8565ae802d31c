-- The events to come, as callers see them.
use Rattle.std.specs.Prelude.{ℕ, ℤ, ◌+◌, ◌==◌, Bool, not, List, [], Option, Some, None}
use Rattle.std.specs.List.{filter, list_any}
use Rattle.event_set.specs.declared.pending.Happening.{Happening}
use Rattle.event_set.specs.declared.pending.Happening.TheVariants.{Arrival, Delivery, Start, Timer}
use Rattle.event_set.specs.declared.pending.Pending.{Pending}
use Rattle.event_set.specs.declared.set.Coming.{Coming}
use Rattle.event_set.specs.Order.{inserted}
use Rattle.event_set.specs.Timers.{without_timer}

-- the events in order, and the number of the next one that is inserted
pub record Events : Type 0 where
  pub list : List Pending
  pub next : ℕ

abbrev pub none : Events
none = record { list = []; next = 0 }

-- one more event
abbrev pub scheduled : ℕ → ℤ → ℕ → Happening → Events → Events
scheduled time priority id what e = record {
  list = inserted (record {
    time = time;
    priority = priority;
    number = e.next;
    id = id;
    what = what;
  }) e.list;
  next = e.next + 1;
}

-- without that timer of that module
abbrev pub cancelled : ℕ → ℕ → Events → Events
cancelled id timer e = record { list = without_timer id timer e.list; next = e.next }

-- the last id of the modules that are started, where that is what happens
abbrev pub last_started : Happening → Option ℕ
last_started (Timer timer kind) = None
last_started (Arrival kind bits payload) = None
last_started (Delivery d) = None
last_started (Start last) = Some last

-- when an event comes, its priority, its module, and which it starts
abbrev pub coming_of : Pending → Coming
coming_of p = record {
  time = p.time;
  priority = p.priority;
  id = p.id;
  last_started = last_started p.what;
}

-- these events in place of the others
abbrev pub with_list : List Pending → Events → Events
with_list ps e = record { list = ps; next = e.next }

-- ---- events of modules that are gone

-- whether it is one of these ids
abbrev pub among : ℕ → List ℕ → Bool
among id ids = list_any (λ n. n == id) ids

-- without all events of these modules
abbrev pub without_modules : List ℕ → Events → Events
without_modules ids e = with_list (filter (λ p. not (among p.id ids)) e.list) e
