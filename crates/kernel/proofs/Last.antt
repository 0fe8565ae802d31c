-- What follows the reply of a module that is finished neither reads nor changes modules.
use Rattle.std.proofs.Common.{◌≡◌, ℕ, nat_lt, List, [], ◌∷◌, Option, Some, None, refl, sym, ap, ◌∙◌, length}
use Rattle.module_api.specs.Actions.{has_large_payload}
use Rattle.module_api.specs.declared.reply.Action.{Action}
use Rattle.module_api.specs.declared.reply.Reply.{Reply}
use Rattle.model_questions.specs.Answers.{Answers}
use Rattle.run_semantics.specs.declared.occasions.Occasion.{Occasion}
use Rattle.run_semantics.specs.declared.outcome.EventFlow.{EventFlow}
use Rattle.run_semantics.specs.declared.outcome.RunFault.{RunFault}
use Rattle.run_semantics.specs.declared.outcome.RunFault.TheVariants as fault
use Rattle.run_semantics.specs.declared.traces.Instance.{Instance}
use Rattle.run_semantics.specs.World.{World}
use Rattle.run_semantics.specs.Perform.{Flow, On, Stopped, Broken, ◌>>=◌, act, act_all, acted, ask_noted, broken, deed, flow_of, for_each, is_allowed, read_fault, unless_fault}
use Rattle.kernel.specs.Calls.{answered_last}
use Rattle.kernel.proofs.Apart.{with_modules, flow_with, flow_of_with, either_apart, deed_apart, ask_noted_apart}

-- one thing after another
then_apart : (ms : List Instance) (fl : Flow) (f : World → Flow) → ((w : World) → f (with_modules ms w) ≡ flow_with ms (f w)) → (flow_with ms fl >>= f) ≡ flow_with ms (fl >>= f)
then_apart ms (On w) f h = h w
then_apart ms (Stopped w) f h = refl
then_apart ms (Broken w path e) f h = refl

act_apart : (ms : List Instance) (o : Occasion) (id : ℕ) (action : Action) (w : World) → act (deed id) o id action (with_modules ms w) ≡ flow_with ms (act (deed id) o id action w)
act_apart ms o id action w =
    either_apart ms (has_large_payload action) _ _ _ _ refl
    (either_apart ms (is_allowed o action) _ _ _ _ (deed_apart ms id action w) refl)

all_apart : (ms : List Instance) (o : Occasion) (id : ℕ) (actions : List Action) (w : World) → act_all (deed id) o id actions (with_modules ms w) ≡ flow_with ms (act_all (deed id) o id actions w)
all_apart ms o id [] w = refl
all_apart ms o id (action ∷ actions) w =
    ap (λ (fl : Flow). fl >>= for_each (act (deed id) o id) actions) (act_apart ms o id action w)
    ∙ then_apart ms (act (deed id) o id action w) (for_each (act (deed id) o id) actions) (all_apart ms o id actions)

acted_apart : (ms : List Instance) (o : Occasion) (id : ℕ) (actions : List Action) (w : World) → acted (deed id) o id actions (with_modules ms w) ≡ flow_with ms (acted (deed id) o id actions w)
acted_apart ms o id actions w = either_apart ms (nat_lt 1000 (length actions)) _ _ _ _ refl (all_apart ms o id actions w)

unless_apart : (ms : List Instance) (o : Occasion) (id : ℕ) (found : Option RunFault) (actions : List Action) (w : World) → unless_fault id found (acted (deed id) o id actions) (with_modules ms w) ≡ flow_with ms (unless_fault id found (acted (deed id) o id actions) w)
unless_apart ms o id (Some f) actions w = refl
unless_apart ms o id None actions w = acted_apart ms o id actions w

answered_apart : (ms : List Instance) (m : Answers) (o : Occasion) (id : ℕ) (reply : Reply) (w : World) → answered_last m o id reply (with_modules ms w) ≡ flow_with ms (answered_last m o id reply w)
answered_apart ms m o id reply w =
    ap (unless_fault id (read_fault m w.records id reply.reads) (acted (deed id) o id reply.actions)) (ask_noted_apart ms o id reply.reads w)
    ∙ unless_apart ms o id (read_fault m w.records id reply.reads) reply.actions (ask_noted o id reply.reads w)

-- WHAT THE CODE OF A CORE DOES to the world with these modules
pub last_is : (ms : List Instance) (m : Answers) (o : Occasion) (id : ℕ) (reply : Reply) (core core' : World) (turn : EventFlow) → flow_of turn core' ≡ answered_last m o id reply core → flow_of turn (with_modules ms core') ≡ answered_last m o id reply (with_modules ms core)
last_is ms m o id reply core core' turn e = flow_of_with ms turn core' ∙ ap (flow_with ms) e ∙ sym (answered_apart ms m o id reply core)
