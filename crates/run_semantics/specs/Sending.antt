-- Messages that are sent.
use Rattle.std.specs.Prelude.{ℕ, zero, suc, nat_lt, List, [], ◌∷◌, ◌++◌, Option, Some, None, Result}
use Rattle.std.specs.Prelude.{Ok, Err, if◌then◌else◌}
use Rattle.std.specs.Option.{option_and_then}
use Rattle.sim_time.specs.Time.{time_sum}
use Rattle.channels.specs.declared.travels.ChannelFault.{ChannelFault}
use Rattle.channels.specs.declared.travels.ChannelFault.TheVariants as channel_fault_kind
use Rattle.channels.specs.declared.travels.Travel.{Travel}
use Rattle.channels.specs.declared.travels.Travel.TheVariants.{Arrival, Lost}
use Rattle.channels.specs.Travel.{transmissions, travel}
use Rattle.module_api.specs.declared.reply.Flight.{Flight}
use Rattle.module_api.specs.declared.reply.GatePlace.{GatePlace}
use Rattle.module_api.specs.declared.reply.OwnGate.{OwnGate}
use Rattle.module_api.specs.declared.message.Outgoing.{Outgoing}
use Rattle.model_questions.specs.declared.answer.Answer.{Answer}
use Rattle.model_questions.specs.declared.answer.Question.TheVariants.{GateSize, Hop, HopBack}
use Rattle.model_questions.specs.Answers.{Answers}
use Rattle.run_semantics.specs.declared.outcome.RunFault.{RunFault}
use Rattle.run_semantics.specs.declared.outcome.RunFault.TheVariants as fault
use Rattle.run_semantics.specs.declared.routes.GateChange.{GateChange}
use Rattle.run_semantics.specs.declared.routes.NextHop.{NextHop}
use Rattle.run_semantics.specs.declared.routes.PassedHop.{PassedHop}
use Rattle.run_semantics.specs.declared.routes.PlacedGate.{PlacedGate}
use Rattle.run_semantics.specs.Routes.{arriving, busy_of, change_of, channels_of, hop_by, if_live}
use Rattle.run_semantics.specs.Routes.{is_in_gate, is_out_gate, is_simple, is_taken, module_at}
use Rattle.run_semantics.specs.Routes.{transmission_gate, transmitting}
use Rattle.run_semantics.specs.Deeds.{Flow, On, asking, broken}
use Rattle.run_semantics.specs.World.{World}

-- ---- sending: the module of that id sends, and its path is told with a fault

-- the fault of a message on its channels
abbrev pub channel_fault : ChannelFault → RunFault
channel_fault channel_fault_kind.Busy = fault.Busy
channel_fault channel_fault_kind.TwoTransmissionChannels = fault.TwoTransmissionChannels
channel_fault channel_fault_kind.TimeOverflow = fault.TimeOverflow

-- where a gate was changed, its last change says where it leads; else the model is asked
abbrev pub hop_after : Answers → PlacedGate → (Option NextHop → World → Flow) → World
    → Option GateChange → Flow
hop_after m g next w (Some c) = next (if_live w c.to) w
hop_after m g next w None = asking m (Hop g.id g.name g.index)
    (λ a v. next (if_live v (hop_by v.records g.id a)) v) w

-- THE NEXT HOP from a gate: one that a module joined or freed is as it was left, and asks nothing;
-- what is asked of the model leads nowhere where the module there is dead
abbrev pub next_hop : Answers → PlacedGate → (Option NextHop → World → Flow) → World → Flow
next_hop m g next w = hop_after m g next w (change_of g w.changes)

-- no more hops are allowed
abbrev pub past_last : ℕ → Option NextHop → World → Flow
past_last id None w = broken id fault.NotConnected w
past_last id (Some h) w = broken id fault.TooManyHops w

-- the hops that were passed, with the one from that gate
abbrev pub with_hop : List PassedHop → PlacedGate → NextHop → List PassedHop
with_hop passed g h = passed ++ record { from = g; channel = h.channel } ∷ []

-- after a hop: at a simple module the chain ends
abbrev pub after_hop : ℕ → (PlacedGate → List PassedHop → World → Flow)
    → (List PassedHop → PlacedGate → World → Flow) → PlacedGate → List PassedHop → Option NextHop
    → World → Flow
after_hop id further reached g passed None w = broken id fault.NotConnected w
after_hop id further reached g passed (Some h) w =
    if is_simple w.records h.to.id then reached (with_hop passed g h) h.to w
    else further h.to (with_hop passed g h) w

-- THE CHAIN OF HOPS from a gate to a simple module, of at most so many hops more, and what is done
-- where it is reached. Where no hop more is allowed it is asked for one still: so it is known
-- whether there are too many, or none.
abbrev pub chain : Answers → ℕ → (List PassedHop → PlacedGate → World → Flow) → ℕ → PlacedGate
    → List PassedHop → World → Flow
chain m id reached zero g passed w = next_hop m g (past_last id) w
chain m id reached (suc left) g passed w =
    next_hop m g (after_hop id (chain m id reached left) reached g passed) w

-- how many hops a chain has at most
unfoldable pub most_hops : ℕ
most_hops = 1000

-- what becomes of a message on its way: the transmission, where there was one, is now the last one
-- of its gate, and the arrival is one of the events to come
abbrev pub completed : Outgoing → Option PlacedGate → PlacedGate → World → Travel → World
completed message from end w (Lost until) = transmitting from until w
completed message from end w (Arrival time until) =
    arriving end message time (transmitting from until w)

abbrev pub travelled : ℕ → Outgoing → Option PlacedGate → PlacedGate → World
    → Result Travel ChannelFault → Flow
travelled id message from end w (Err f) = broken id (channel_fault f) w
travelled id message from end w (Ok found) = On (completed message from end w found)

-- a message departs over these hops, where its departure is a time
abbrev pub sent_over : ℕ → Outgoing → Option ℕ → List PassedHop → PlacedGate → World → Flow
sent_over id message (Some departure) hops end w =
    travelled id message (transmission_gate hops) end w
    (travel (channels_of hops) departure message.bits
    (busy_of (transmission_gate hops) w.transmissions))
sent_over id message None hops end w =
    broken id
    (if nat_lt 1 (transmissions (channels_of hops))
    then fault.TwoTransmissionChannels else fault.TimeOverflow) w

-- a gate was asked about: a message goes out through it, if it is there and of that direction
abbrev pub sent_through : Answers → ℕ → PlacedGate → Outgoing → Option ℕ → Answer → World → Flow
sent_through m id g message departure a w =
    if is_out_gate a g.index then chain m id (sent_over id message departure) most_hops g [] w
    else broken id fault.NoGate w

-- A MESSAGE IS SENT through a gate of the module's own (OMNeT++ Simulation Manual, "Sending
-- Messages")
abbrev pub sent : Answers → ℕ → OwnGate → Outgoing → Option ℕ → World → Flow
sent m id gate message departure w =
    asking m (GateSize id gate.name)
    (sent_through m id (record { id = id; name = gate.name; index = gate.index }) message
    departure) w

-- a message is at a gate at that time: it arrives, or goes on inside of a compound module
abbrev pub entering : Answers → ℕ → Outgoing → PlacedGate → Option ℕ → World → Flow
entering m id message g None w = broken id fault.TimeOverflow w
entering m id message g (Some time) w =
    if is_simple w.records g.id then On (arriving g message time w)
    else chain m id (sent_over id message (Some time)) most_hops g [] w

-- when a message that goes directly to a gate is there
abbrev pub flight_end : ℕ → Flight → Option ℕ
flight_end clock flight =
    option_and_then (λ time. time_sum time flight.duration) (time_sum clock flight.delay)

-- it was asked what is connected to the gate from outside: nothing may be
abbrev pub entered : Answers → ℕ → PlacedGate → Outgoing → Flight → Answer → World → Flow
entered m id g message flight a w =
    if is_taken g a w then broken id fault.AlreadyConnected w
    else entering m id message g (flight_end w.clock flight) w

-- a gate was asked about: a message comes in through it, if it is there and of that direction
abbrev pub sent_into : Answers → ℕ → PlacedGate → Outgoing → Flight → Answer → World → Flow
sent_into m id g message flight a w =
    if is_in_gate a g.index then asking m (HopBack g.id g.name g.index)
    (entered m id g message flight) w else broken id fault.NoGate w

abbrev pub sent_to : Answers → ℕ → GatePlace → Outgoing → Flight → World → Option ℕ → Flow
sent_to m id place message flight w None = broken id fault.NoModule w
sent_to m id place message flight w (Some target) =
    asking m (GateSize target place.name)
    (sent_into m id (record { id = target; name = place.name; index = place.index }) message
    flight) w

-- A MESSAGE IS SENT DIRECTLY to a gate of a module (OMNeT++ Simulation Manual, "Direct Message
-- Sending")
abbrev pub sent_direct : Answers → ℕ → GatePlace → Outgoing → Flight → World → Flow
sent_direct m id place message flight w =
    sent_to m id place message flight w (module_at place.path w)
