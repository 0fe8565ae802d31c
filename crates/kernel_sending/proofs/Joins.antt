-- Gates that are joined and freed, by what was asked of them.
use Rattle.std.proofs.Common.{◌≡◌, ◌∙◌, ℕ, [], Bool, true, false, Option, Some, Result, Ok, Err, IfOk, if◌then◌else◌, ap, sym}
use Rattle.module_api.specs.declared.message.Outgoing.{Outgoing}
use Rattle.module_api.specs.declared.reply.GatePlace.{GatePlace}
use Rattle.module_api.specs.declared.reply.Link.{Link}
use Rattle.model_questions.specs.declared.answer.Channel.{Channel}
use Rattle.model_questions.specs.declared.answer.Question.TheVariants.{GateSize, HopBack}
use Rattle.model_questions.specs.Answers.{Answers}
use Rattle.run_semantics.specs.declared.outcome.RunFault.TheVariants as fault
use Rattle.run_semantics.specs.declared.outcome.EventFlow.{EventFlow}
use Rattle.run_semantics.specs.declared.routes.PlacedGate.{PlacedGate}
use Rattle.run_semantics.specs.Joining.{channel_by, freed, freed_from, gate_at, joined, joined_free, joined_from, joined_into}
use Rattle.run_semantics.specs.Perform.{Flow, On, asking, broken, chain, entering, flow_of, most_hops, next_hop, sent_over}
use Rattle.run_semantics.specs.Routes.{arriving, is_in_gate, is_out_gate, is_simple, is_taken, with_change}
use Rattle.run_semantics.specs.World.{World}
use Rattle.sim_values.specs.declared.NoMemory.{NoMemory}
use Rattle.kernel_sending.proofs.Asking.{led_to}

module _ (m : Answers) (id : ℕ) where
  -- ---- an output gate that leads nowhere is joined to an input gate, unless that is taken

  module _ (g h : PlacedGate) (link : Option Link) (w v : World) (taken : Bool) (asked : (next : Bool → World → Flow) → asking m (HopBack h.id h.name h.index) (λ a u. next (is_taken h a u) u) w ≡ next taken v) where
    abbrev joins : Bool → World → Flow
    joins b u = if b then broken id fault.AlreadyConnected u else On (with_change g (Some (record { to = h; channel = channel_by link })) u)

    leads : asking m (HopBack h.id h.name h.index) (joined id g h link) w ≡ joins taken v
    leads = asked joins

    pub not_joined : (result : Result EventFlow NoMemory) → taken ≡ true → IfOk result (λ turn. flow_of turn v ≡ broken id fault.AlreadyConnected v)
        → IfOk result (λ turn. flow_of turn v ≡ asking m (HopBack h.id h.name h.index) (joined id g h link) w)
    not_joined result e k = led_to result v _ _ (sym (leads ∙ ap (λ b. joins b v) e)) k

    pub joined_on : (u : World) (channel : Channel) → taken ≡ false → channel ≡ channel_by link → u ≡ with_change g (Some (record { to = h; channel = channel })) v
        → On u ≡ asking m (HopBack h.id h.name h.index) (joined id g h link) w
    joined_on u channel e c k = ap On (k ∙ ap (λ (x : Channel). with_change g (Some (record { to = h; channel = x })) v) c) ∙ sym (leads ∙ ap (λ b. joins b v) e)

  -- ---- both gates are asked about

  module _ (source target : ℕ) (from to : GatePlace) (link : Option Link) (w v : World) (leaves : Bool) (asked : (next : Bool → World → Flow) → asking m (GateSize source from.name) (λ a u. next (is_out_gate a from.index) u) w ≡ next leaves v) where
    abbrev goes_out : Bool → World → Flow
    goes_out b u = if b then asking m (GateSize target to.name) (joined_into m id (gate_at source from) (gate_at target to) link) u else broken id fault.NoGate u

    out : asking m (GateSize source from.name) (joined_from m id (gate_at source from) (gate_at target to) link) w ≡ goes_out leaves v
    out = asked goes_out

    pub not_out : (result : Result EventFlow NoMemory) → leaves ≡ false → IfOk result (λ turn. flow_of turn v ≡ broken id fault.NoGate v)
        → IfOk result (λ turn. flow_of turn v ≡ asking m (GateSize source from.name) (joined_from m id (gate_at source from) (gate_at target to) link) w)
    not_out result e k = led_to result v _ _ (sym (out ∙ ap (λ b. goes_out b v) e)) k

    module _ (u : World) (enters : Bool) (asked_too : (next : Bool → World → Flow) → asking m (GateSize target to.name) (λ a x. next (is_in_gate a to.index) x) v ≡ next enters u) where
      abbrev goes_in : Bool → World → Flow
      goes_in b x = if b then next_hop m (gate_at source from) (joined_free m id (gate_at source from) (gate_at target to) link) x else broken id fault.NoGate x

      through : leaves ≡ true → asking m (GateSize source from.name) (joined_from m id (gate_at source from) (gate_at target to) link) w ≡ goes_in enters u
      through e = out ∙ (ap (λ b. goes_out b v) e ∙ asked_too goes_in)

      pub not_in : (result : Result EventFlow NoMemory) → leaves ≡ true → enters ≡ false → IfOk result (λ turn. flow_of turn u ≡ broken id fault.NoGate u)
          → IfOk result (λ turn. flow_of turn u ≡ asking m (GateSize source from.name) (joined_from m id (gate_at source from) (gate_at target to) link) w)
      not_in result e f k = led_to result u _ _ (sym (through e ∙ ap (λ b. goes_in b u) f)) k

      pub both_there : (result : Result EventFlow NoMemory) (x : World) (g h : PlacedGate) → leaves ≡ true → enters ≡ true → g ≡ gate_at source from → h ≡ gate_at target to
          → IfOk result (λ turn. flow_of turn x ≡ next_hop m g (joined_free m id g h link) u)
          → IfOk result (λ turn. flow_of turn x ≡ asking m (GateSize source from.name) (joined_from m id (gate_at source from) (gate_at target to) link) w)
      both_there result x g h e f one two k =
          led_to result x _ _
          (ap (λ (y : PlacedGate). next_hop m y (joined_free m id y h link) u) one
          ∙ (ap (λ (y : PlacedGate). next_hop m (gate_at source from) (joined_free m id (gate_at source from) y link) u) two
          ∙ sym (through e ∙ ap (λ b. goes_in b u) f))) k

  -- ---- a gate is asked about that is to be freed

  module _ (source : ℕ) (place : GatePlace) (w v : World) (leaves : Bool) (asked : (next : Bool → World → Flow) → asking m (GateSize source place.name) (λ a u. next (is_out_gate a place.index) u) w ≡ next leaves v) where
    abbrev frees : Bool → World → Flow
    frees b u = if b then next_hop m (gate_at source place) (freed id (gate_at source place)) u else broken id fault.NoGate u

    freeing : asking m (GateSize source place.name) (freed_from m id (gate_at source place)) w ≡ frees leaves v
    freeing = asked frees

    pub not_freed : (result : Result EventFlow NoMemory) → leaves ≡ false → IfOk result (λ turn. flow_of turn v ≡ broken id fault.NoGate v)
        → IfOk result (λ turn. flow_of turn v ≡ asking m (GateSize source place.name) (freed_from m id (gate_at source place)) w)
    not_freed result e k = led_to result v _ _ (sym (freeing ∙ ap (λ b. frees b v) e)) k

    pub freed_on : (result : Result EventFlow NoMemory) (u : World) (g : PlacedGate) → leaves ≡ true → g ≡ gate_at source place → IfOk result (λ turn. flow_of turn u ≡ next_hop m g (freed id g) v)
        → IfOk result (λ turn. flow_of turn u ≡ asking m (GateSize source place.name) (freed_from m id (gate_at source place)) w)
    freed_on result u g e one k = led_to result u _ _ (ap (λ (y : PlacedGate). next_hop m y (freed id y) v) one ∙ sym (freeing ∙ ap (λ b. frees b v) e)) k

  -- ---- a message goes on inside of a compound module

  pub goes_on_inside : (message : Outgoing) (g : PlacedGate) (w : World) (arrival : Option ℕ) (time : ℕ) → arrival ≡ Some time → is_simple w.records g.id ≡ false
      → chain m id (sent_over id message arrival) most_hops g [] w ≡ entering m id message g arrival w
  goes_on_inside message g w arrival time e simple =
      ap (λ o. chain m id (sent_over id message o) most_hops g [] w) e
      ∙ (sym (ap (λ b. if b then On (arriving g message time w) else chain m id (sent_over id message (Some time)) most_hops g [] w) simple)
      ∙ ap (λ o. entering m id message g o w) (sym e))
