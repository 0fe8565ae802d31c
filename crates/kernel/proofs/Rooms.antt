-- How many events a start of modules inserts at most.
use Rattle.std.proofs.Common.{◌≡◌, ℕ, zero, suc, ◌+◌, ◌*◌, ◌≤◌, nat_lt, List, [], ◌∷◌, refl, sym, ap, ◌∙◌, subst, arith, length}
use Rattle.module_api.specs.Behaviour.{Behaviour}
use Rattle.module_api.specs.declared.call.CallReason.{CallReason}
use Rattle.module_api.specs.declared.call.CallReason.TheVariants.{Initialize}
use Rattle.model_questions.specs.Answers.{Answers}
use Rattle.run_semantics.specs.declared.outcome.EventFlow.{EventFlow}
use Rattle.run_semantics.specs.Event.{call_module, instance_in}
use Rattle.run_semantics.specs.Perform.{flow_of}
use Rattle.run_semantics.specs.Run.{initialize, most_stages, one_stage, stages_from, stages_in, started, with_started}
use Rattle.run_semantics.specs.Subtree.{outer_first}
use Rattle.run_semantics.specs.World.{World}
use Rattle.run_semantics.proofs.Sound.{in_flow, in_flow-of, Keeps, call_keeps, call_leaves, either_keeps, keeps_after, keeps_beside, keeps_same, part_then}
use Rattle.kernel.specs.Starts.{HasFewCalls, KeepsRoom}

-- a thousand for each call
abbrev thousands : List ℕ → ℕ
thousands [] = 0
thousands (id ∷ ids) = 1000 + thousands ids

thousands_are : (ids : List ℕ) → thousands ids ≡ 1000 * length ids
thousands_are [] = omega arith
thousands_are (id ∷ ids) = omega (arith, thousands_are ids)

-- as many for each of so many stages
abbrev in_stages : ℕ → ℕ → ℕ
in_stages zero each = 0
in_stages (suc left) each = each + in_stages left each

in_stages_few : (stages each : ℕ) → each ≤ 2162688000 → in_stages stages each ≤ 2162688000 * stages
in_stages_few zero each l = omega arith
in_stages_few (suc stages) each l = omega (arith, l, in_stages_few stages each l)

module _ (b : Behaviour) (m : Answers) where
  initialize_keeps : (stage id : ℕ) (w : World) → Keeps 1000 w (in_flow (initialize b m stage id w))
  initialize_keeps stage id w = either_keeps 1000 (nat_lt stage (stages_in b (instance_in id w.modules))) _ _ w (call_keeps b m id (Initialize stage) w) (λ e. keeps_same 1000 w)

  stage_keeps : (stage : ℕ) (ids : List ℕ) (w : World) → Keeps (thousands ids) w (in_flow (one_stage b m stage ids w))
  stage_keeps stage [] w = keeps_same 0 w
  stage_keeps stage (id ∷ ids) w = part_then 1000 (thousands ids) w (initialize b m stage id w) (one_stage b m stage ids) (initialize_keeps stage id w) (stage_keeps stage ids)

  stages_keep : (ids : List ℕ) (stage left : ℕ) (w : World) → Keeps (in_stages left (thousands ids)) w (in_flow (stages_from b m ids stage left w))
  stages_keep ids stage zero w = keeps_same 0 w
  stages_keep ids stage (suc left) w =
      part_then (thousands ids) (in_stages left (thousands ids)) w (one_stage b m stage ids w) (stages_from b m ids (suc stage) left) (stage_keeps stage ids w) (stages_keep ids (suc stage) left)

  started_keeps : (ids calls : List ℕ) (w : World) → Keeps (in_stages (most_stages b w.modules calls) (thousands calls)) w (in_flow (started b m ids calls w))
  started_keeps ids calls w =
      let most : ℕ = most_stages b w.modules calls in
      keeps_after (in_stages most (thousands calls)) w (with_started ids w) (in_flow (started b m ids calls w)) (keeps_beside 0 w (with_started ids w) refl refl) (stages_keep calls 0 most (with_started ids w))

  -- A START of few calls leaves room
  pub started_room : (ids : List ℕ) (first : ℕ) (w v : World) (turn : EventFlow) → flow_of turn v ≡ started b m ids (outer_first w.records ids first) w → most_stages b w.modules (outer_first w.records ids first) ≤ 255 → HasFewCalls w ids first → KeepsRoom w v
  started_room ids first w v turn e few calls =
      let xs : List ℕ = outer_first w.records ids first in
      let most : ℕ = most_stages b w.modules xs in
      let kept = subst (Keeps (in_stages most (thousands xs)) w) (ap in_flow (sym e) ∙ in_flow-of turn v) (started_keeps ids xs w) in
      let each = thousands_are xs in
      let all = in_stages_few most (thousands xs) (omega (arith, each, calls)) in
      record { count = kept.count; next = omega (arith, kept.next, all, few) }

  -- and so does a call of one module
  pub called_room : (id : ℕ) (p : CallReason) (w v : World) (turn : EventFlow) → flow_of turn v ≡ call_module b m id p w → KeepsRoom w v
  called_room id p w v turn e = let kept = call_leaves b m id p turn w v e in record { count = kept.count; next = omega (arith, kept.next) }
