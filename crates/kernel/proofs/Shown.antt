-- Calls whose modules' paths and parameters come from a table, and the table after them.
use Rattle.std.proofs.Common.{◌≡◌, ℕ, List, sym, ap, ◌∙◌, subst}
use Rattle.module_api.specs.declared.call.Call.{Call}
use Rattle.module_api.specs.declared.call.CallReason.{CallReason}
use Rattle.model_questions.specs.Answers.{Answers}
use Rattle.model_questions.specs.declared.record.Record.{Record}
use Rattle.run_semantics.specs.declared.outcome.EventFlow.{EventFlow}
use Rattle.run_semantics.specs.Event.{call_of}
use Rattle.run_semantics.specs.Perform.{Flow, flow_of}
use Rattle.run_semantics.specs.World.{World}
use Rattle.kernel_call_views.specs.declared.CallView.{CallView}
use Rattle.kernel_call_views.specs.declared.CallViews.{CallViews}
use Rattle.kernel_call_views.specs.Tables.{shown_of, AreShown, IsShown}
use Rattle.kernel_call_views.proofs.Showing.{shown_on}
use Rattle.kernel.specs.Calls.{call_with}
use Rattle.kernel_actions.specs.Positions.{IsGrownFrom}

-- a call says itself of which module it is, and what for
pub told_itself : (m : Answers) (id : ℕ) (p : CallReason) (w : World) (call : Call) → call ≡ call_of m id p w → call ≡ call_of m call.id call.prompt w
told_itself m id p w call e =
    e ∙ (ap (λ i. call_of m i p w) (sym (ap (λ (k : Call). k.id) e)) ∙ ap (λ q. call_of m call.id q w) (sym (ap (λ (k : Call). k.prompt) e)))

-- what is said of the call by itself is said of the module's
pub named_step : (of : ℕ → CallReason → World → Flow) (m : Answers) (id : ℕ) (p : CallReason) (v w : World) (call : Call) (turn : EventFlow) → call ≡ call_of m id p v
    → flow_of turn w ≡ of call.id call.prompt v → flow_of turn w ≡ of id p v
named_step of m id p v w call turn e step =
    step ∙ (ap (λ i. of i call.prompt v) (ap (λ (k : Call). k.id) e) ∙ ap (λ q. of id q v) (ap (λ (k : Call). k.prompt) e))

-- a call that shows what was found is the call of the definitions
pub told_shown : (m : Answers) (id : ℕ) (p : CallReason) (w : World) (shown : CallView) (call : Call) → shown ≡ shown_of m w.records id → call ≡ call_with id p shown w → call ≡ call_of m id p w
told_shown m id p w shown call found e = e ∙ ap (λ (s : CallView). call_with id p s w) found

-- what it showed
abbrev shown_by : Call → CallView
shown_by call = record { path = call.path; parameters = call.parameters; gates = call.gates }

-- and that lasts
pub lent_shown : (m : Answers) (id : ℕ) (p : CallReason) (w : World) (shown : CallView) (call : Call) (again : CallView) → shown ≡ shown_of m w.records id → call ≡ call_with id p shown w → again ≡ shown_by call
    → IsShown m w.records id (shown_of m w.records id) → IsShown m w.records id again
lent_shown m id p w shown call again found e same lasts =
    subst (IsShown m w.records id) (sym (same ∙ (ap shown_by e ∙ found))) lasts

-- where modules are only created, a table stays right
pub shown_grows : (m : Answers) (v w : World) (table : CallViews) → IsGrownFrom v w → AreShown m v.records table → AreShown m w.records table
shown_grows m v w table g h = subst (λ (rs : List Record). AreShown m rs table) g.records.1 (shown_on m v.records g.records.0 table h)
