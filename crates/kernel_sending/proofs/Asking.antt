-- What is done with what was asked of a gate.
use Rattle.std.proofs.Common.{◌≡◌, ◌∙◌, ℕ, List, [], Bool, true, false, Option, Some, Result, Ok, Err, IfOk, if◌then◌else◌, ap, sym}
use Rattle.module_api.specs.declared.message.Outgoing.{Outgoing}
use Rattle.module_api.specs.declared.reply.Flight.{Flight}
use Rattle.module_api.specs.declared.reply.GatePlace.{GatePlace}
use Rattle.module_api.specs.declared.reply.OwnGate.{OwnGate}
use Rattle.model_questions.specs.declared.answer.Question.TheVariants.{GateSize, HopBack}
use Rattle.model_questions.specs.Answers.{Answers}
use Rattle.run_semantics.specs.declared.outcome.RunFault.TheVariants as fault
use Rattle.run_semantics.specs.declared.outcome.EventFlow.{EventFlow}
use Rattle.run_semantics.specs.declared.routes.PlacedGate.{PlacedGate}
use Rattle.run_semantics.specs.Routes.{is_in_gate, is_out_gate, is_taken, module_at}
use Rattle.run_semantics.specs.World.{World}
use Rattle.run_semantics.specs.Perform.{Flow, asking, broken, chain, entered, entering, flight_end, flow_of, most_hops, sent, sent_direct, sent_over, sent_to}
use Rattle.sim_values.specs.declared.NoMemory.{NoMemory}

-- what a call leads to is that, by what that is
pub led_to : (result : Result EventFlow NoMemory) (v : World) (f g : Flow) → f ≡ g → IfOk result (λ turn. flow_of turn v ≡ f) → IfOk result (λ turn. flow_of turn v ≡ g)
led_to (Ok turn) v f g e h = h ∙ e
led_to (Err memory) v f g e h = tt

module _ (m : Answers) (id : ℕ) (message : Outgoing) where
  -- ---- through a gate of the module's own

  module _ (gate : OwnGate) (departure : Option ℕ) (w v : World) (can : Bool) (asked : (next : Bool → World → Flow) → asking m (GateSize id gate.name) (λ a u. next (is_out_gate a gate.index) u) w ≡ next can v) where
    abbrev sends : Bool → World → Flow
    sends b u = if b then chain m id (sent_over id message departure) most_hops (record { id = id; name = gate.name; index = gate.index }) [] u else broken id fault.NoGate u

    leaves : sent m id gate message departure w ≡ sends can v
    leaves = asked sends

    pub not_sent : (result : Result EventFlow NoMemory) → can ≡ false → IfOk result (λ turn. flow_of turn v ≡ broken id fault.NoGate v) → IfOk result (λ turn. flow_of turn v ≡ sent m id gate message departure w)
    not_sent result e h = led_to result v _ _ (sym (leaves ∙ ap (λ b. sends b v) e)) h

    pub sent_on : (result : Result EventFlow NoMemory) (u : World) (name : List ℕ) → can ≡ true → name ≡ gate.name
        → IfOk result (λ turn. flow_of turn u ≡ chain m id (sent_over id message departure) most_hops (record { id = id; name = name; index = gate.index }) [] v)
        → IfOk result (λ turn. flow_of turn u ≡ sent m id gate message departure w)
    sent_on result u name e f h =
        led_to result u _ _
        (ap (λ (x : List ℕ). chain m id (sent_over id message departure) most_hops (record { id = id; name = x; index = gate.index }) [] v) f ∙ sym (leaves ∙ ap (λ b. sends b v) e)) h

  -- ---- to a gate of a module

  module _ (gate : PlacedGate) (flight : Flight) (w v : World) (taken : Bool) (asked : (next : Bool → World → Flow) → asking m (HopBack gate.id gate.name gate.index) (λ a u. next (is_taken gate a u) u) w ≡ next taken v) where
    abbrev enters : Bool → World → Flow
    enters b u = if b then broken id fault.AlreadyConnected u else entering m id message gate (flight_end u.clock flight) u

    pub is_free : asking m (HopBack gate.id gate.name gate.index) (entered m id gate message flight) w ≡ enters taken v
    is_free = asked enters

    pub not_free : (result : Result EventFlow NoMemory) → taken ≡ true → IfOk result (λ turn. flow_of turn v ≡ broken id fault.AlreadyConnected v)
        → IfOk result (λ turn. flow_of turn v ≡ asking m (HopBack gate.id gate.name gate.index) (entered m id gate message flight) w)
    not_free result e h = led_to result v _ _ (sym (is_free ∙ ap (λ b. enters b v) e)) h

    pub entered_on : (result : Result EventFlow NoMemory) (u : World) (clock : ℕ) (arrival : Option ℕ) → taken ≡ false → clock ≡ v.clock → arrival ≡ flight_end clock flight
        → IfOk result (λ turn. flow_of turn u ≡ entering m id message gate arrival v)
        → IfOk result (λ turn. flow_of turn u ≡ asking m (HopBack gate.id gate.name gate.index) (entered m id gate message flight) w)
    entered_on result u clock arrival e c f h =
        led_to result u _ _ (ap (λ o. entering m id message gate o v) (f ∙ ap (λ n. flight_end n flight) c) ∙ sym (is_free ∙ ap (λ b. enters b v) e)) h

  module _ (place : GatePlace) (flight : Flight) (w v : World) (target : ℕ) (found : Option ℕ) (at : found ≡ module_at place.path w) (some : found ≡ Some target)
      (can : Bool) (asked : (next : Bool → World → Flow) → asking m (GateSize target place.name) (λ a u. next (is_in_gate a place.index) u) w ≡ next can v) where
    abbrev gate_by : List ℕ → PlacedGate
    gate_by name = record { id = target; name = name; index = place.index }

    abbrev goes_in : Bool → World → Flow
    goes_in b u = if b then asking m (HopBack target place.name place.index) (entered m id (gate_by place.name) message flight) u else broken id fault.NoGate u

    comes : sent_direct m id place message flight w ≡ goes_in can v
    comes = ap (sent_to m id place message flight w) (sym at ∙ some) ∙ asked goes_in

    pub not_entered : (result : Result EventFlow NoMemory) → can ≡ false → IfOk result (λ turn. flow_of turn v ≡ broken id fault.NoGate v) → IfOk result (λ turn. flow_of turn v ≡ sent_direct m id place message flight w)
    not_entered result e h = led_to result v _ _ (sym (comes ∙ ap (λ b. goes_in b v) e)) h

    pub direct_on : (result : Result EventFlow NoMemory) (u : World) (name : List ℕ) → can ≡ true → name ≡ place.name
        → IfOk result (λ turn. flow_of turn u ≡ asking m (HopBack target name place.index) (entered m id (gate_by name) message flight) v)
        → IfOk result (λ turn. flow_of turn u ≡ sent_direct m id place message flight w)
    direct_on result u name e f h =
        led_to result u _ _ (ap (λ (x : List ℕ). asking m (HopBack target x place.index) (entered m id (gate_by x) message flight) v) f ∙ sym (comes ∙ ap (λ b. goes_in b v) e)) h
