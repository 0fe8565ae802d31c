-- How a call may end: whatever it finds, what is done and the state that is left are so.
use Rattle.std.proofs.Common.{◌≡◌, ℕ, List, [], ◌∷◌, Option, refl}
use Rattle.sim_values.specs.declared.value.Value.{Value}
use Rattle.module_api.specs.declared.call.Call.{Call}
use Rattle.module_api.specs.declared.call.Gate.{Gate}
use Rattle.module_api.specs.declared.reply.Action.{Action}
use Rattle.module_api.specs.declared.reply.Action.TheVariants.{Fail}
use Rattle.module_api.specs.Values.{value_of, gate_of}
use Rattle.module_parts.specs.Asking.{Asking, Answer, AskParameter, AskGate, told}
use Rattle.module_parts.specs.declared.looks.Verdict.{Verdict}
use Rattle.module_parts.specs.declared.looks.Verdict.TheVariants as verdict
use Rattle.module_parts.specs.Looking.{allowed, left}

-- each end that a call with these parameters and gates may have
abbrev pub EndsAs : {S : Type 0} → (List Action → S → Type 0) → Call → Asking S → Type 0
EndsAs P call (Answer actions state) = P actions state
EndsAs P call (AskParameter name follows) =
    (v : Option Value) → value_of name call.parameters ≡ v → EndsAs P call (follows v)
EndsAs P call (AskGate name follows) =
    (g : Option Gate) → gate_of name call.gates ≡ g → EndsAs P call (follows g)

pub told_ends : {S : Type 0} (P : List Action → S → Type 0) (asking : Asking S) (call : Call) → EndsAs P call asking → P (told asking call).reply.actions (told asking call).state
told_ends P (Answer actions state) call h = h
told_ends P (AskParameter name follows) call h = told_ends P (follows (value_of name call.parameters)) call (h (value_of name call.parameters) refl)
told_ends P (AskGate name follows) call h = told_ends P (follows (gate_of name call.gates)) call (h (gate_of name call.gates) refl)

-- by what all that was read is worth
pub by_verdict : {S : Type 0} (P : List Action → S → Type 0) (v : Verdict) (actions : List Action) (state next : S) → P [] state → ((name : List ℕ) → P (Fail name ∷ []) state) → P actions next
    → P (allowed v actions) (left v state next)
by_verdict P verdict.Good actions state next none wrong good = good
by_verdict P (verdict.Wrong name) actions state next none wrong good = wrong name
by_verdict P verdict.Missing actions state next none wrong good = none
