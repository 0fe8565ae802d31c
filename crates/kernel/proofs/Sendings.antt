-- Sendings, and gates that are joined and freed, neither read nor change modules.
use Rattle.std.proofs.Common.{◌≡◌, ℕ, zero, suc, List, [], refl, sym, ap, ◌∙◌, Option, Some, None, Result, Ok, Err, Bool}
use Rattle.channels.specs.declared.travels.ChannelFault.{ChannelFault}
use Rattle.channels.specs.declared.travels.Travel.{Travel}
use Rattle.channels.specs.declared.travels.Travel.TheVariants.{Arrival, Lost}
use Rattle.channels.specs.Travel.{travel}
use Rattle.module_api.specs.declared.message.Outgoing.{Outgoing}
use Rattle.module_api.specs.declared.reply.Action.{Action}
use Rattle.module_api.specs.declared.reply.Action.TheVariants.{Emit, RecordScalar, Send, SendDelayed, SendDirect, ScheduleAt, ScheduleAfter, Cancel, Create, Delete, Connect, Disconnect, End, Fail}
use Rattle.module_api.specs.declared.reply.Creation.{Creation}
use Rattle.module_api.specs.declared.reply.Flight.{Flight}
use Rattle.module_api.specs.declared.reply.GatePlace.{GatePlace}
use Rattle.module_api.specs.declared.reply.Link.{Link}
use Rattle.module_api.specs.declared.reply.OwnGate.{OwnGate}
use Rattle.module_api.specs.Behaviour.{Behaviour}
use Rattle.model_questions.specs.declared.answer.Answer.{Answer}
use Rattle.model_questions.specs.declared.answer.Question.{Question}
use Rattle.model_questions.specs.declared.answer.Question.TheVariants.{GateSize, Hop, HopBack}
use Rattle.model_questions.specs.Answers.{Answers, answer_of}
use Rattle.run_semantics.specs.declared.outcome.EventFlow.{EventFlow}
use Rattle.run_semantics.specs.declared.routes.GateChange.{GateChange}
use Rattle.run_semantics.specs.declared.routes.NextHop.{NextHop}
use Rattle.run_semantics.specs.declared.routes.PassedHop.{PassedHop}
use Rattle.run_semantics.specs.declared.routes.PlacedGate.{PlacedGate}
use Rattle.run_semantics.specs.declared.traces.Instance.{Instance}
use Rattle.run_semantics.specs.Routes.{arriving, busy_of, change_of, channels_of, hop_by, if_live, is_in_gate, is_out_gate, is_simple, is_taken, module_at, transmission_gate, transmitting}
use Rattle.run_semantics.specs.World.{World, asked}
use Rattle.run_semantics.specs.Perform.{Flow, On, flow_of, deed, perform, hop_after, next_hop, past_last, with_hop, after_hop, chain, most_hops, travelled, sent_over, sent, entering, flight_end, entered, sent_into, sent_to, sent_direct}
use Rattle.run_semantics.specs.Joining.{connected, disconnected, freed, freed_at, gate_at, joined, joined_at, joined_free, joined_from, joined_into, joined_to}
use Rattle.kernel.proofs.Apart.{with_modules, flow_with, flow_of_with, either_apart}

module _ (ms : List Instance) (m : Answers) (id : ℕ) where
  next_apart : (g : PlacedGate) (k : Option NextHop → World → Flow) (w : World) → ((o : Option NextHop) (v : World) → k o (with_modules ms v) ≡ flow_with ms (k o v)) → next_hop m g k (with_modules ms w) ≡ flow_with ms (next_hop m g k w)
  next_apart g k w h = by (change_of g w.changes)
    where
      q : Question
      q = Hop g.id g.name g.index

      by : (c : Option GateChange) → hop_after m g k (with_modules ms w) c ≡ flow_with ms (hop_after m g k w c)
      by (Some c) = h (if_live w c.to) w
      by None = h (if_live (asked q w) (hop_by w.records g.id (answer_of m w.records q))) (asked q w)

  past_apart : (o : Option NextHop) (v : World) → past_last id o (with_modules ms v) ≡ flow_with ms (past_last id o v)
  past_apart None v = refl
  past_apart (Some h) v = refl

  -- what is done at the end of a chain is apart from modules
  abbrev Apart : (List PassedHop → PlacedGate → World → Flow) → Type 0
  Apart r = (hops : List PassedHop) (end : PlacedGate) (v : World) → r hops end (with_modules ms v) ≡ flow_with ms (r hops end v)

  chain_apart : (r : List PassedHop → PlacedGate → World → Flow) → Apart r → (left : ℕ) (g : PlacedGate) (passed : List PassedHop) (w : World) → chain m id r left g passed (with_modules ms w) ≡ flow_with ms (chain m id r left g passed w)
  chain_apart r h zero g passed w = next_apart g (past_last id) w past_apart
  chain_apart r h (suc left) g passed w = next_apart g (after_hop id (chain m id r left) r g passed) w (goes_on (chain_apart r h left))
    where
      goes_on : ((g : PlacedGate) (passed : List PassedHop) (v : World) → chain m id r left g passed (with_modules ms v) ≡ flow_with ms (chain m id r left g passed v))
          → (o : Option NextHop) (v : World) → after_hop id (chain m id r left) r g passed o (with_modules ms v) ≡ flow_with ms (after_hop id (chain m id r left) r g passed o v)
      goes_on further None v = refl
      goes_on further (Some x) v = either_apart ms (is_simple v.records x.to.id) _ _ _ _ (h (with_hop passed g x) x.to v) (further x.to (with_hop passed g x) v)

  transmitting_apart : (g : Option PlacedGate) (until : Option ℕ) (w : World) → transmitting g until (with_modules ms w) ≡ with_modules ms (transmitting g until w)
  transmitting_apart (Some g) (Some until) w = refl
  transmitting_apart (Some g) None w = refl
  transmitting_apart None until w = refl

  travelled_apart : (message : Outgoing) (from : Option PlacedGate) (end : PlacedGate) (w : World) (t : Result Travel ChannelFault) → travelled id message from end (with_modules ms w) t ≡ flow_with ms (travelled id message from end w t)
  travelled_apart message from end w (Err f) = refl
  travelled_apart message from end w (Ok (Lost until)) = ap On (transmitting_apart from until w)
  travelled_apart message from end w (Ok (Arrival time until)) = ap (λ v. On (arriving end message time v)) (transmitting_apart from until w)

  sent_over_apart : (message : Outgoing) (departure : Option ℕ) → Apart (sent_over id message departure)
  sent_over_apart message None hops end v = refl
  sent_over_apart message (Some departure) hops end v =
      travelled_apart message (transmission_gate hops) end v (travel (channels_of hops) departure message.bits (busy_of (transmission_gate hops) v.transmissions))

  on_apart : (g : PlacedGate) (message : Outgoing) (departure : Option ℕ) (w : World) → chain m id (sent_over id message departure) most_hops g [] (with_modules ms w) ≡ flow_with ms (chain m id (sent_over id message departure) most_hops g [] w)
  on_apart g message departure w = chain_apart (sent_over id message departure) (sent_over_apart message departure) most_hops g [] w

  sent_apart : (gate : OwnGate) (message : Outgoing) (departure : Option ℕ) (w : World) → sent m id gate message departure (with_modules ms w) ≡ flow_with ms (sent m id gate message departure w)
  sent_apart gate message departure w =
      let q : Question = GateSize id gate.name in
      either_apart ms (is_out_gate (answer_of m w.records q) gate.index) _ _ _ _ (on_apart (record { id = id; name = gate.name; index = gate.index }) message departure (asked q w)) refl

  entering_apart : (message : Outgoing) (g : PlacedGate) (arrival : Option ℕ) (w : World) → entering m id message g arrival (with_modules ms w) ≡ flow_with ms (entering m id message g arrival w)
  entering_apart message g None w = refl
  entering_apart message g (Some time) w = either_apart ms (is_simple w.records g.id) _ _ _ _ refl (on_apart g message (Some time) w)

  entered_apart : (g : PlacedGate) (message : Outgoing) (flight : Flight) (a : Answer) (w : World) → entered m id g message flight a (with_modules ms w) ≡ flow_with ms (entered m id g message flight a w)
  entered_apart g message flight a w = either_apart ms (is_taken g a w) _ _ _ _ refl (entering_apart message g (flight_end w.clock flight) w)

  into_apart : (g : PlacedGate) (message : Outgoing) (flight : Flight) (a : Answer) (w : World) → sent_into m id g message flight a (with_modules ms w) ≡ flow_with ms (sent_into m id g message flight a w)
  into_apart g message flight a w =
      let q : Question = HopBack g.id g.name g.index in
      either_apart ms (is_in_gate a g.index) _ _ _ _ (entered_apart g message flight (answer_of m w.records q) (asked q w)) refl

  to_apart : (place : GatePlace) (message : Outgoing) (flight : Flight) (w : World) (found : Option ℕ) → sent_to m id place message flight (with_modules ms w) found ≡ flow_with ms (sent_to m id place message flight w found)
  to_apart place message flight w None = refl
  to_apart place message flight w (Some target) =
      let q : Question = GateSize target place.name in
      into_apart (record { id = target; name = place.name; index = place.index }) message flight (answer_of m w.records q) (asked q w)

  direct_apart : (place : GatePlace) (message : Outgoing) (flight : Flight) (w : World) → sent_direct m id place message flight (with_modules ms w) ≡ flow_with ms (sent_direct m id place message flight w)
  direct_apart place message flight w = to_apart place message flight w (module_at place.path w)

  -- ---- gates that are joined and freed

  joined_apart : (g h : PlacedGate) (link : Option Link) (a : Answer) (w : World) → joined id g h link a (with_modules ms w) ≡ flow_with ms (joined id g h link a w)
  joined_apart g h link a w = either_apart ms (is_taken h a w) _ _ _ _ refl refl

  free_apart : (g h : PlacedGate) (link : Option Link) (o : Option NextHop) (w : World) → joined_free m id g h link o (with_modules ms w) ≡ flow_with ms (joined_free m id g h link o w)
  free_apart g h link None w = let q : Question = HopBack h.id h.name h.index in joined_apart g h link (answer_of m w.records q) (asked q w)
  free_apart g h link (Some hop) w = refl

  join_into_apart : (g h : PlacedGate) (link : Option Link) (a : Answer) (w : World) → joined_into m id g h link a (with_modules ms w) ≡ flow_with ms (joined_into m id g h link a w)
  join_into_apart g h link a w = either_apart ms (is_in_gate a h.index) _ _ _ _ (next_apart g (joined_free m id g h link) w (free_apart g h link)) refl

  join_from_apart : (g h : PlacedGate) (link : Option Link) (a : Answer) (w : World) → joined_from m id g h link a (with_modules ms w) ≡ flow_with ms (joined_from m id g h link a w)
  join_from_apart g h link a w =
      let q : Question = GateSize h.id h.name in
      either_apart ms (is_out_gate a g.index) _ _ _ _ (join_into_apart g h link (answer_of m w.records q) (asked q w)) refl

  join_to_apart : (from to : GatePlace) (link : Option Link) (source : ℕ) (w : World) (found : Option ℕ) → joined_to m id from to link source (with_modules ms w) found ≡ flow_with ms (joined_to m id from to link source w found)
  join_to_apart from to link source w None = refl
  join_to_apart from to link source w (Some target) =
      let q : Question = GateSize source from.name in
      join_from_apart (gate_at source from) (gate_at target to) link (answer_of m w.records q) (asked q w)

  join_at_apart : (from to : GatePlace) (link : Option Link) (w : World) (found : Option ℕ) → joined_at m id from to link (with_modules ms w) found ≡ flow_with ms (joined_at m id from to link w found)
  join_at_apart from to link w None = refl
  join_at_apart from to link w (Some source) = join_to_apart from to link source w (module_at to.path w)

  connected_apart : (from to : GatePlace) (link : Option Link) (w : World) → connected m id from to link (with_modules ms w) ≡ flow_with ms (connected m id from to link w)
  connected_apart from to link w = join_at_apart from to link w (module_at from.path w)

  freed_apart : (g : PlacedGate) (o : Option NextHop) (w : World) → freed id g o (with_modules ms w) ≡ flow_with ms (freed id g o w)
  freed_apart g None w = refl
  freed_apart g (Some hop) w = refl

  free_at_apart : (place : GatePlace) (w : World) (found : Option ℕ) → freed_at m id place (with_modules ms w) found ≡ flow_with ms (freed_at m id place w found)
  free_at_apart place w None = refl
  free_at_apart place w (Some source) =
      let q : Question = GateSize source place.name in
      let g : PlacedGate = gate_at source place in
      either_apart ms (is_out_gate (answer_of m w.records q) g.index) _ _ _ _ (next_apart g (freed id g) (asked q w) (freed_apart g)) refl

  disconnected_apart : (place : GatePlace) (w : World) → disconnected m id place (with_modules ms w) ≡ flow_with ms (disconnected m id place w)
  disconnected_apart place w = free_at_apart place w (module_at place.path w)

-- ---- what the code of a core does to the world with these modules

flow_is : (ms : List Instance) (turn : EventFlow) (core' : World) (f g : Flow) → flow_of turn core' ≡ f → g ≡ flow_with ms f → flow_of turn (with_modules ms core') ≡ g
flow_is ms turn core' f g e h = flow_of_with ms turn core' ∙ ap (flow_with ms) e ∙ sym h

pub sent_is : (ms : List Instance) (m : Answers) (id : ℕ) (gate : OwnGate) (message : Outgoing) (departure : Option ℕ) (core core' : World) (turn : EventFlow) → flow_of turn core' ≡ sent m id gate message departure core → flow_of turn (with_modules ms core') ≡ sent m id gate message departure (with_modules ms core)
sent_is ms m id gate message departure core core' turn e = flow_is ms turn core' _ _ e (sent_apart ms m id gate message departure core)

pub direct_is : (ms : List Instance) (m : Answers) (id : ℕ) (place : GatePlace) (message : Outgoing) (flight : Flight) (core core' : World) (turn : EventFlow) → flow_of turn core' ≡ sent_direct m id place message flight core → flow_of turn (with_modules ms core') ≡ sent_direct m id place message flight (with_modules ms core)
direct_is ms m id place message flight core core' turn e = flow_is ms turn core' _ _ e (direct_apart ms m id place message flight core)

pub connected_is : (ms : List Instance) (m : Answers) (id : ℕ) (from to : GatePlace) (link : Option Link) (core core' : World) (turn : EventFlow) → flow_of turn core' ≡ connected m id from to link core → flow_of turn (with_modules ms core') ≡ connected m id from to link (with_modules ms core)
connected_is ms m id from to link core core' turn e = flow_is ms turn core' _ _ e (connected_apart ms m id from to link core)

pub disconnected_is : (ms : List Instance) (m : Answers) (id : ℕ) (place : GatePlace) (core core' : World) (turn : EventFlow) → flow_of turn core' ≡ disconnected m id place core → flow_of turn (with_modules ms core') ≡ disconnected m id place (with_modules ms core)
disconnected_is ms m id place core core' turn e = flow_is ms turn core' _ _ e (disconnected_apart ms m id place core)

-- what neither sends, creates, joins, frees nor deletes is a deed
pub other_is_deed : (b : Behaviour) (m : Answers) (id : ℕ) (action : Action) (w : World) → ((gate : OwnGate) (message : Outgoing) → action ≡ Send gate message → ⊥) → ((gate : OwnGate) (message : Outgoing) (delay : ℕ) → action ≡ SendDelayed gate message delay → ⊥) → ((place : GatePlace) (message : Outgoing) (flight : Flight) → action ≡ SendDirect place message flight → ⊥) → ((from to : GatePlace) (link : Option Link) → action ≡ Connect from to link → ⊥) → ((place : GatePlace) → action ≡ Disconnect place → ⊥) → ((path : List ℕ) (finish : Bool) → action ≡ Delete path finish → ⊥) → ((c : Creation) → action ≡ Create c → ⊥) → perform b m id action w ≡ deed id action w
other_is_deed b m id (Emit signal value) w f g h i j k l = refl
other_is_deed b m id (RecordScalar name value) w f g h i j k l = refl
other_is_deed b m id (Send gate message) w f g h i j k l = absurd (f gate message refl)
other_is_deed b m id (SendDelayed gate message delay) w f g h i j k l = absurd (g gate message delay refl)
other_is_deed b m id (SendDirect place message flight) w f g h i j k l = absurd (h place message flight refl)
other_is_deed b m id (ScheduleAt a) w f g h i j k l = refl
other_is_deed b m id (ScheduleAfter s) w f g h i j k l = refl
other_is_deed b m id (Cancel timer) w f g h i j k l = refl
other_is_deed b m id (Create c) w f g h i j k l = absurd (l c refl)
other_is_deed b m id (Delete path finish) w f g h i j k l = absurd (k path finish refl)
other_is_deed b m id (Connect from to link) w f g h i j k l = absurd (i from to link refl)
other_is_deed b m id (Disconnect place) w f g h i j k l = absurd (j place refl)
other_is_deed b m id End w f g h i j k l = refl
other_is_deed b m id (Fail text) w f g h i j k l = refl
