-- What a run comes to that waits for a box.
use Rattle.std.proofs.Common.{◌≡◌, ◌<◌, ◌^◌, ℕ, Option, Some, IsSome, inl, inr, refl, sym, ap, ◌∙◌, subst}
use Rattle.module_api.specs.Behaviour.{Behaviour}
use Rattle.kernel.specs.declared.request.Request.{Request}
use Rattle.edit_session.specs.Editing.{Editing, declined_at, WaitsFor}
use Rattle.desk_client.specs.declared.clients.ServeEnd.{ServeEnd}
use Rattle.desk_server.specs.declared.serving.Next.TheVariants as next
use Rattle.desk_server.specs.declared.serving.ServerStep.{ServerStep}
use Rattle.desk_server.specs.declared.serving.ServerStep.TheVariants as turn
use Rattle.desk_server.specs.Serving.{Seen, IsMetIn, IsRunIn, MayStopIn, StandsThere, WaitsIn}
use Rattle.desk_server.proofs.Turning.{declined_left, waits_left, waits_there, IsNotBack}

waits_in : (b : Behaviour) (before after : Seen) (mid : Editing) (limit : ℕ) (request : Request) → (w : WaitsFor b before.editing limit request mid) → after.editing.model ≡ mid.model → after.editing.positions ≡ mid.positions → StandsThere w.wait after.editing.phase
    → after.asked ≡ before.asked → after.heard ≡ before.heard → after.may ≡ before.may → after.running ≡ Some limit → limit < 2 ^ 64 → WaitsIn b before after limit
waits_in b before after mid limit request w model positions stands asked heard may running limited = record {
  asked = asked;
  heard = heard;
  may = may;
  running = running;
  limited = limited;
  model = model ∙ ap (λ (e : Editing). e.model) w.waits;
  wait = w.wait;
  is = w.is;
  phase = stands;
  positions = positions ∙ ap (λ (e : Editing). e.positions) w.waits;
}

-- a box was made for it, or it was told that there is none
pub wants_turn : (b : Behaviour) (limit : ℕ) (before after : Seen) (mid : Editing) (request : Request) (t : ServerStep) → WaitsFor b before.editing limit request mid → IsMetIn b mid after.editing t
    → after.asked ≡ before.asked → after.heard ≡ before.heard → after.may ≡ before.may → after.running ≡ Some limit → limit < 2 ^ 64 → IsNotBack after.editing.phase → IsRunIn b limit before after t
wants_turn b limit before after mid request (turn.Need made) w met asked heard may running limited told =
    let here : WaitsFor b before.editing limit request after.editing = subst (WaitsFor b before.editing limit request) (sym met.0) w in (
      waits_in b before after after.editing limit request here refl refl (inl (ap (λ (e : Editing). e.phase) here.waits)) asked heard may running limited,
      met.1,
      subst (λ (o : Option Request). IsSome o) (sym here.asks) refl,
      waits_there b before.editing after.editing limit request here,
      waits_left b before.editing after.editing limit request here,
    )
wants_turn b limit before after mid request (turn.Over next.GoOn) w met asked heard may running limited told =
    let phase = ap (λ (e : Editing). e.phase) met ∙ ap (λ (e : Editing). declined_at e.phase) w.waits in
    inl (
      waits_in b before after mid limit request w (ap (λ (e : Editing). e.model) met) (ap (λ (e : Editing). e.positions) met) (inr phase) asked heard may running limited,
      declined_left b before.editing mid after.editing limit request w met told,
    )
wants_turn b limit before after mid request (turn.Over (next.Stop why)) w met asked heard may running limited told = absurd met

-- the client is served on
pub met_stops : (stops : ServeEnd → Type 0) (b : Behaviour) (mid after : Editing) (t : ServerStep) → IsMetIn b mid after t → MayStopIn stops t
met_stops stops b mid after (turn.Need made) met = tt
met_stops stops b mid after (turn.Over next.GoOn) met = tt
met_stops stops b mid after (turn.Over (next.Stop why)) met = absurd met
