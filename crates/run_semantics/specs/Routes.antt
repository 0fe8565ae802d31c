-- Ways of messages through gates (OMNeT++ Simulation Manual, "Gates" and "Connections").
use Rattle.std.specs.Prelude.{ℕ, ◌+◌, suc, ◌==◌, nat_lt, Bool, true, false, not, ◌&&◌, ◌||◌, bytes_eq}
use Rattle.std.specs.Prelude.{is_some, List, [], ◌∷◌, ◌++◌, Option, Some, None, map, slice_set}
use Rattle.std.specs.Prelude.{if◌then◌else◌}
use Rattle.std.specs.List.{filter, list_any}
use Rattle.channels.specs.Travel.{is_transmission}
use Rattle.module_api.specs.declared.call.Direction.{Direction}
use Rattle.module_api.specs.declared.call.Direction.TheVariants.{Input, Output, Inout}
use Rattle.module_api.specs.declared.message.Outgoing.{Outgoing}
use Rattle.event_set.specs.declared.pending.Happening.{Happening}
use Rattle.event_set.specs.declared.pending.Happening.TheVariants.{Delivery}
use Rattle.event_set.specs.declared.pending.Pending.{Pending}
use Rattle.event_set.specs.Order.{inserted}
use Rattle.model_questions.specs.declared.answer.Answer.{Answer}
use Rattle.model_questions.specs.declared.answer.Answer.TheVariants as answer
use Rattle.model_questions.specs.declared.answer.Channel.{Channel}
use Rattle.model_questions.specs.declared.answer.NextGate.{NextGate}
use Rattle.model_questions.specs.declared.record.Record.{Record}
use Rattle.model_questions.specs.Hops.{neighbour_id}
use Rattle.model_questions.specs.Records.{path_of, record_at}
use Rattle.run_semantics.specs.declared.routes.GateChange.{GateChange}
use Rattle.run_semantics.specs.declared.routes.NextHop.{NextHop}
use Rattle.run_semantics.specs.declared.routes.PassedHop.{PassedHop}
use Rattle.run_semantics.specs.declared.routes.PlacedGate.{PlacedGate}
use Rattle.run_semantics.specs.declared.routes.Transmission.{Transmission}
use Rattle.run_semantics.specs.Subtree.{among}
use Rattle.run_semantics.specs.World.{World, is_live}

-- ---- gates

abbrev pub is_output : Direction → Bool
is_output Input = false
is_output Output = true
is_output Inout = false

-- whether the answer is of a gate, or a half of one, through which messages go out, and which has
-- that index
abbrev pub is_out_gate : Answer → ℕ → Bool
is_out_gate (answer.Gate g) index = is_output g.direction && nat_lt index g.size
is_out_gate (answer.Root name) index = false
is_out_gate (answer.Class class) index = false
is_out_gate (answer.Inside bs) index = false
is_out_gate (answer.Value v) index = false
is_out_gate (answer.Next next) index = false
is_out_gate (answer.Fault path f) index = false
is_out_gate (answer.Beyond beyond) index = false
is_out_gate (answer.Injection i) index = false
is_out_gate answer.Absent index = false

abbrev pub is_input : Direction → Bool
is_input Input = true
is_input Output = false
is_input Inout = false

-- the same, of a gate through which messages come in
abbrev pub is_in_gate : Answer → ℕ → Bool
is_in_gate (answer.Gate g) index = is_input g.direction && nat_lt index g.size
is_in_gate (answer.Root name) index = false
is_in_gate (answer.Class class) index = false
is_in_gate (answer.Inside bs) index = false
is_in_gate (answer.Value v) index = false
is_in_gate (answer.Next next) index = false
is_in_gate (answer.Fault path f) index = false
is_in_gate (answer.Beyond beyond) index = false
is_in_gate (answer.Injection i) index = false
is_in_gate answer.Absent index = false

-- whether the module of that id, which was created, lives, and has that path
abbrev pub is_at : List ℕ → World → ℕ → Bool
is_at path w id = bytes_eq (path_of w.records id) path && not (among id w.dead)

abbrev pub first_from : (ℕ → Bool) → ℕ → List Record → Option ℕ
first_from is_wanted id [] = None
first_from is_wanted id (r ∷ rs) =
    if is_wanted id then Some id else first_from is_wanted (suc id) rs

-- the module of that path that lives, where there is one
abbrev pub module_at : List ℕ → World → Option ℕ
module_at path w = first_from (is_at path w) 1 w.records

-- ---- hops

abbrev pub has_class : Option Record → Bool
has_class None = false
has_class (Some r) = is_some r.class

-- whether the module of that id is a simple one
abbrev pub is_simple : List Record → ℕ → Bool
is_simple records id = has_class (record_at records id)

abbrev pub next_by : NextGate → Option ℕ → Option NextHop
next_by next None = None
next_by next (Some id) = Some (record {
  to = record {
    id = id;
    name = next.gate;
    index = next.index;
  };
  channel = next.channel;
})

abbrev pub leading_to : List Record → ℕ → Option NextGate → Option NextHop
leading_to records id None = None
leading_to records id (Some next) = next_by next (neighbour_id records id next.neighbour)

-- where a hop from a gate of the module of that id leads, as was answered
abbrev pub hop_by : List Record → ℕ → Answer → Option NextHop
hop_by records id (answer.Next next) = leading_to records id next
hop_by records id (answer.Root name) = None
hop_by records id (answer.Class class) = None
hop_by records id (answer.Inside bs) = None
hop_by records id (answer.Value v) = None
hop_by records id (answer.Gate g) = None
hop_by records id (answer.Fault path f) = None
hop_by records id (answer.Beyond beyond) = None
hop_by records id (answer.Injection i) = None
hop_by records id answer.Absent = None

-- a hop to a module that is dead is none
abbrev pub if_live : World → Option NextHop → Option NextHop
if_live w None = None
if_live w (Some h) = if is_live w h.to.id then Some h else None

-- the channels on the way
abbrev pub channels_of : List PassedHop → List Channel
channels_of hops = map (λ (h : PassedHop). h.channel) hops

-- the gate where the transmission of a message begins, where there is one
abbrev pub transmission_gate : List PassedHop → Option PlacedGate
transmission_gate [] = None
transmission_gate (h ∷ hs) = if is_transmission h.channel then Some h.from else transmission_gate hs

-- ---- transmissions

abbrev pub is_gate : PlacedGate → PlacedGate → Bool
is_gate a b = (a.id == b.id) && ((a.index == b.index) && bytes_eq a.name b.name)

-- when the last transmission that began at a gate ends
abbrev pub busy_at : PlacedGate → List Transmission → Option ℕ
busy_at g [] = None
busy_at g (t ∷ ts) = if is_gate t.gate g then Some t.end else busy_at g ts

abbrev pub busy_of : Option PlacedGate → List Transmission → Option ℕ
busy_of None ts = None
busy_of (Some g) ts = busy_at g ts

abbrev pub place_from : ℕ → PlacedGate → List Transmission → Option ℕ
place_from n g [] = None
place_from n g (t ∷ ts) = if is_gate t.gate g then Some n else place_from (suc n) g ts

-- which of these transmissions began at a gate
abbrev pub place_of : PlacedGate → List Transmission → Option ℕ
place_of g ts = place_from 0 g ts

abbrev pub put_at : Option ℕ → Transmission → List Transmission → List Transmission
put_at None t ts = ts ++ t ∷ []
put_at (Some place) t ts = slice_set ts place t

-- with this transmission in the place of the last one at its gate
abbrev pub with_transmission : Transmission → List Transmission → List Transmission
with_transmission t ts = put_at (place_of t.gate ts) t ts

-- a transmission that began at that gate ends then, where there is one
abbrev pub transmitting : Option PlacedGate → Option ℕ → World → World
transmitting (Some g) (Some end) w =
    record w { transmissions = with_transmission (record { gate = g; end = end }) w.transmissions }
transmitting (Some g) None w = w
transmitting None end w = w

-- without the transmission that began at a gate, where there was one
abbrev pub without_transmission : PlacedGate → List Transmission → List Transmission
without_transmission g ts = filter (λ (t : Transmission). not (is_gate t.gate g)) ts

-- ---- changes of gates

abbrev pub or_this : Option GateChange → PlacedGate → GateChange → Option GateChange
or_this (Some later) g c = Some later
or_this None g c = if is_gate c.gate g then Some c else None

-- the last change of a gate
abbrev pub change_of : PlacedGate → List GateChange → Option GateChange
change_of g [] = None
change_of g (c ∷ cs) = or_this (change_of g cs) g c

-- an output gate now leads there, or nowhere; a transmission that began at it is over
abbrev pub with_change : PlacedGate → Option NextHop → World → World
with_change g to w = record w {
  changes = w.changes ++ record { gate = g; to = to } ∷ [];
  transmissions = without_transmission g w.transmissions;
}

-- whether a hop leads to that gate
abbrev pub leads_to : PlacedGate → Option NextHop → Bool
leads_to g None = false
leads_to g (Some h) = is_gate h.to g

-- whether a gate was joined to that one, by its last change
abbrev pub joins : PlacedGate → Option GateChange → Bool
joins g None = false
joins g (Some c) = leads_to g c.to

-- whether a gate of a module that lives was joined to that one, and leads there still
abbrev pub is_joined : PlacedGate → World → Bool
is_joined g w = list_any (λ (c : GateChange). leads_to g c.to
    && (is_live w c.gate.id && joins g (change_of c.gate w.changes))) w.changes

-- whether a connection of the model counts still, by the gate that it comes from: the module of that
-- gate lives, and the gate was not changed
abbrev pub still_leads : World → Option NextHop → Bool
still_leads w None = false
still_leads w (Some h) = is_live w h.to.id && not (is_some (change_of h.to w.changes))

-- WHETHER SOMETHING IS CONNECTED to an input gate from outside, by what was answered of it
abbrev pub is_taken : PlacedGate → Answer → World → Bool
is_taken g a w = is_joined g w || still_leads w (hop_by w.records g.id a)

-- ---- arrivals

-- the message as it is known at the gate at which it arrives
abbrev pub delivery_at : PlacedGate → Outgoing → Happening
delivery_at g message = Delivery (record {
  kind = message.kind;
  bits = message.bits;
  payload = message.payload;
  gate = g.name;
  index = g.index;
})

-- the event that a message becomes as it arrives at a gate at that time, with the message's own
-- priority
abbrev pub arriving_at : PlacedGate → Outgoing → ℕ → ℕ → Pending
arriving_at g message time number = record {
  time = time;
  priority = message.priority;
  number = number;
  id = g.id;
  what = delivery_at g message;
}

-- a message is to arrive at a gate at that time
abbrev pub arriving : PlacedGate → Outgoing → ℕ → World → World
arriving g message time w =
    record w { pending = inserted (arriving_at g message time w.next) w.pending; next = w.next + 1 }
