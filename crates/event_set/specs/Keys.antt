-- What the tree of events of an event set says, and what is said of its timers.
use Rattle.std.specs.Prelude.{◌≡◌, ℕ, ◌<◌, ◌==◌, Bool, false, cond, List, map, Option, Some, None}
use Rattle.std.specs.Prelude.{slice_get, unwrap_or}
use Rattle.std.specs.declared.cmp.Ordering.{Ordering}
use Rattle.std.specs.Ordering.{nat_cmp, int_cmp, ordering_then}
use Rattle.std.specs.BTreeMap.{is_at}
use Rattle.std.specs.List.Sorted.{IsStrictlySortedBy}
use Rattle.std.specs.Map.{lookup, keys_of}
use Rattle.std.specs.Option.{option_map, option_or}
use Rattle.event_set.specs.declared.pending.Happening.{Happening}
use Rattle.event_set.specs.declared.pending.Happening.TheVariants.{Timer, Arrival, Delivery, Start}
use Rattle.event_set.specs.declared.pending.Pending.{Pending}
use Rattle.event_set.specs.declared.entry.EventEntry.{EventEntry}
use Rattle.event_set.specs.declared.entry.EventEntry.TheVariants as entry
use Rattle.event_set.specs.declared.places.Key.{Key}
use Rattle.event_set.specs.declared.places.TimerKey.{TimerKey}
use Rattle.event_set.specs.declared.places.MessageKey.{MessageKey}
use Rattle.event_set.specs.declared.places.Mark.{Mark}
use Rattle.event_set.specs.declared.places.Mark.TheVariants as mark
use Rattle.event_set.specs.declared.timers.First.{First}
use Rattle.event_set.specs.declared.timers.First.TheVariants.{Free, Held}
use Rattle.event_set.specs.Order.{Each}

abbrev pub key_order : Key → Key → Ordering
key_order a b = ordering_then (nat_cmp a.time b.time)
    (ordering_then (int_cmp a.priority b.priority) (nat_cmp a.number b.number))

abbrev pub timer_order : TimerKey → TimerKey → Ordering
timer_order a b = ordering_then (nat_cmp a.id b.id) (nat_cmp a.timer b.timer)

abbrev pub message_order : MessageKey → MessageKey → Ordering
message_order a b = ordering_then (nat_cmp a.id b.id) (nat_cmp a.number b.number)

-- the module of an entry, and what is to happen to it
abbrev pub id_of : EventEntry → ℕ
id_of (entry.Timer kind id timer) = id
id_of (entry.Arrival kind id bits payload alloc) = id
id_of (entry.Delivery id delivery alloc) = id
id_of (entry.Start id last) = id

abbrev pub what_of : EventEntry → Happening
what_of (entry.Timer kind id timer) = Timer timer kind
what_of (entry.Arrival kind id bits payload alloc) = Arrival kind bits payload
what_of (entry.Delivery id delivery alloc) = Delivery delivery
what_of (entry.Start id last) = Start last

-- an entry as the event that it is
abbrev pub pending_of : Key × EventEntry → Pending
pending_of e = record {
  time = e.0.time;
  priority = e.0.priority;
  number = e.0.number;
  id = id_of e.1;
  what = what_of e.1;
}

abbrev pub list_of : List (Key × EventEntry) → List Pending
list_of es = map pending_of es

-- the mark of an event: by the number of its timer, if it is one, or by that of its insertion
abbrev pub mark_in : ℕ → ℕ → Happening → Mark
mark_in id number (Timer timer kind) = mark.Timer (record { id = id; timer = timer })
mark_in id number (Arrival kind bits payload) = mark.Message (record { id = id; number = number })
mark_in id number (Delivery delivery) = mark.Message (record { id = id; number = number })
mark_in id number (Start last) = mark.Message (record { id = id; number = number })

abbrev pub mark_of : Key → EventEntry → Mark
mark_of k e = mark_in (id_of e) k.number (what_of e)

-- the module of a mark
abbrev pub module_of : Mark → ℕ
module_of (mark.Timer t) = t.id
module_of (mark.Message m) = m.id

-- whether two marks are the same
abbrev pub same_mark : Mark → Mark → Bool
same_mark (mark.Timer t) (mark.Timer u) = is_at (timer_order t) u
same_mark (mark.Timer t) (mark.Message n) = false
same_mark (mark.Message m) (mark.Timer u) = false
same_mark (mark.Message m) (mark.Message n) = is_at (message_order m) n

-- what stands at a place
abbrev pub at_key : List (Key × EventEntry) → Key → Option EventEntry
at_key es k = lookup (is_at (key_order k)) es

-- ---- where timers stand

-- the slots of the modules by their ids, and what the tree has
pub record Slots : Type 0 where
  pub firsts : List First
  pub others : List (TimerKey × Key)

-- where a timer stands by what is in a slot, by its module's slot, and by the tree
abbrev pub held : First → ℕ → Option Key
held Free timer = None
held (Held priority number time insertion) timer = cond (number == timer)
    (Some (record { time = time; priority = priority; number = insertion })) None

abbrev pub first_at : List First → TimerKey → Option Key
first_at firsts t = held (unwrap_or (slice_get firsts t.id) Free) t.timer

abbrev pub other_at : List (TimerKey × Key) → TimerKey → Option Key
other_at ts t = lookup (is_at (timer_order t)) ts

-- no timer stands in both
abbrev pub AreApart : (TimerKey → Option Key) → (TimerKey → Option Key) → Type 0
AreApart f g = (t : TimerKey) (k : Key) → f t ≡ Some k → g t ≡ None

-- where it stands, if it is pending
abbrev pub place_at : Slots → TimerKey → Option Key
place_at s t = option_or (first_at s.firsts t) (other_at s.others t)

-- where timers stand with one more, and with one less
abbrev pub noted : TimerKey → Key → (TimerKey → Option Key) → TimerKey → Option Key
noted t k f q = cond (is_at (timer_order t) q) (Some k) (f q)

abbrev pub forgotten : TimerKey → (TimerKey → Option Key) → TimerKey → Option Key
forgotten t f q = cond (is_at (timer_order t) q) None (f q)

-- ---- where events stand

-- where a message stands by its tree
abbrev pub message_at : List (MessageKey × Key) → MessageKey → Option Key
message_at ms m = lookup (is_at (message_order m)) ms

-- where timers stand, and what the tree of messages has
pub record Standing : Type 0 where
  pub timers : Slots
  pub messages : List (MessageKey × Key)

-- where the event of a mark stands, if it is to come
abbrev pub stands_at : Standing → Mark → Option Key
stands_at s (mark.Timer t) = place_at s.timers t
stands_at s (mark.Message m) = message_at s.messages m

-- where events stand with one more, and with one less
abbrev pub with_mark : Mark → Key → (Mark → Option Key) → Mark → Option Key
with_mark m k f q = cond (same_mark m q) (Some k) (f q)

abbrev pub without_mark : Mark → (Mark → Option Key) → Mark → Option Key
without_mark m f q = cond (same_mark m q) None (f q)

-- each event stands where its mark says, no other mark says a place, and numbers are below the next
pub record AreSound (es : List (Key × EventEntry)) (at : Mark → Option Key)
    (next : ℕ) : Type 0 where
  pub ordered : IsStrictlySortedBy key_order (keys_of es)
  pub below : Each (λ (e : Key × EventEntry). e.0.number < next) es
  pub placed : (k : Key) (e : EventEntry) → at_key es k ≡ Some e → at (mark_of k e) ≡ Some k
  pub standing : (m : Mark) (k : Key) → at m ≡ Some k
      → option_map (mark_of k) (at_key es k) ≡ Some m
