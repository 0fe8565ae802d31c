-- Gates that are joined and freed while a run goes on (OMNeT++ Simulation Manual, "Creating
-- Connections", "Removing Connections").
use Rattle.std.specs.Prelude.{ℕ, false, Option, Some, None, if◌then◌else◌}
use Rattle.module_api.specs.declared.reply.GatePlace.{GatePlace}
use Rattle.module_api.specs.declared.reply.Link.{Link}
use Rattle.model_questions.specs.declared.answer.Answer.{Answer}
use Rattle.model_questions.specs.declared.answer.Channel.{Channel}
use Rattle.model_questions.specs.declared.answer.ChannelKind.TheVariants.{Ideal, Datarate}
use Rattle.model_questions.specs.declared.answer.Question.TheVariants.{GateSize, HopBack}
use Rattle.model_questions.specs.Answers.{Answers}
use Rattle.run_semantics.specs.declared.outcome.RunFault.TheVariants as fault
use Rattle.run_semantics.specs.declared.routes.NextHop.{NextHop}
use Rattle.run_semantics.specs.declared.routes.PlacedGate.{PlacedGate}
use Rattle.run_semantics.specs.Deeds.{Flow, On, asking, broken}
use Rattle.run_semantics.specs.Routes.{is_in_gate, is_out_gate, is_taken, module_at, with_change}
use Rattle.run_semantics.specs.Sending.{next_hop}
use Rattle.run_semantics.specs.World.{World}

-- that gate of the module of that id
abbrev pub gate_at : ℕ → GatePlace → PlacedGate
gate_at id place = record { id = id; name = place.name; index = place.index }

-- the channel of a connection: none is an ideal one
abbrev pub channel_by : Option Link → Channel
channel_by None = record { kind = Ideal; delay = 0; datarate = 0; disabled = false }
channel_by (Some link) =
    record { kind = Datarate; delay = link.delay; datarate = link.datarate; disabled = false }

-- it was asked what is connected to the input gate from outside: nothing may be
abbrev pub joined : ℕ → PlacedGate → PlacedGate → Option Link → Answer → World → Flow
joined id g h link a w =
    if is_taken h a w then broken id fault.AlreadyConnected w
    else On (with_change g (Some (record { to = h; channel = channel_by link })) w)

-- the output gate may lead nowhere
abbrev pub joined_free : Answers → ℕ → PlacedGate → PlacedGate → Option Link → Option NextHop
    → World → Flow
joined_free m id g h link None w = asking m (HopBack h.id h.name h.index) (joined id g h link) w
joined_free m id g h link (Some hop) w = broken id fault.AlreadyConnected w

-- the input gate was asked about
abbrev pub joined_into : Answers → ℕ → PlacedGate → PlacedGate → Option Link → Answer → World → Flow
joined_into m id g h link a w =
    if is_in_gate a h.index then next_hop m g (joined_free m id g h link) w
    else broken id fault.NoGate w

-- the output gate was asked about
abbrev pub joined_from : Answers → ℕ → PlacedGate → PlacedGate → Option Link → Answer → World → Flow
joined_from m id g h link a w =
    if is_out_gate a g.index then asking m (GateSize h.id h.name) (joined_into m id g h link) w
    else broken id fault.NoGate w

abbrev pub joined_to : Answers → ℕ → GatePlace → GatePlace → Option Link → ℕ → World → Option ℕ
    → Flow
joined_to m id from to link source w None = broken id fault.NoModule w
joined_to m id from to link source w (Some target) = asking m (GateSize source from.name)
    (joined_from m id (gate_at source from) (gate_at target to) link) w

abbrev pub joined_at : Answers → ℕ → GatePlace → GatePlace → Option Link → World → Option ℕ → Flow
joined_at m id from to link w None = broken id fault.NoModule w
joined_at m id from to link w (Some source) =
    joined_to m id from to link source w (module_at to.path w)

-- AN OUTPUT GATE IS JOINED to an input gate
abbrev pub connected : Answers → ℕ → GatePlace → GatePlace → Option Link → World → Flow
connected m id from to link w = joined_at m id from to link w (module_at from.path w)

-- ---- the other way

-- the gate may not lead nowhere
abbrev pub freed : ℕ → PlacedGate → Option NextHop → World → Flow
freed id g None w = broken id fault.NotConnected w
freed id g (Some hop) w = On (with_change g None w)

-- it was asked about
abbrev pub freed_from : Answers → ℕ → PlacedGate → Answer → World → Flow
freed_from m id g a w = if is_out_gate a g.index then next_hop m g (freed id g) w
    else broken id fault.NoGate w

abbrev pub freed_at : Answers → ℕ → GatePlace → World → Option ℕ → Flow
freed_at m id place w None = broken id fault.NoModule w
freed_at m id place w (Some source) =
    asking m (GateSize source place.name) (freed_from m id (gate_at source place)) w

-- AN OUTPUT GATE IS FREED, and its channel forgotten
abbrev pub disconnected : Answers → ℕ → GatePlace → World → Flow
disconnected m id place w = freed_at m id place w (module_at place.path w)
