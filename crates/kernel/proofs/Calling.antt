-- A call of a box is a call of the definitions.
use Rattle.std.proofs.Common.{◌≡◌, ℕ, ◌+◌, ◌≤◌, ◌==◌, Bool, true, false, cond, List, [], ◌∷◌, Option, Some, None, IfOk, Result, Ok, Err, refl, sym, ap, ◌∙◌, subst, map}
use Rattle.sim_values.specs.declared.NoMemory.{NoMemory}
use Rattle.module_api.specs.declared.call.Call.{Call}
use Rattle.module_api.specs.declared.call.CallReason.{CallReason}
use Rattle.module_api.specs.declared.reply.Action.{Action}
use Rattle.module_api.specs.declared.reply.Reply.{Reply}
use Rattle.module_api.specs.Behaviour.{Behaviour, Replied}
use Rattle.module_api.specs.Meaning.{Module, IsOfKind}
use Rattle.model_questions.specs.Answers.{Answers}
use Rattle.run_semantics.specs.declared.occasions.Occasion.{Occasion}
use Rattle.run_semantics.specs.declared.occasions.Occasion.TheVariants as occasion
use Rattle.run_semantics.specs.declared.outcome.EventFlow.{EventFlow}
use Rattle.run_semantics.specs.declared.traces.Instance.{Instance}
use Rattle.run_semantics.specs.World.{World}
use Rattle.run_semantics.specs.Perform.{Flow, On, flow_of, act, deed, is_allowed, perform}
use Rattle.run_semantics.specs.Event.{call_of, instance_in, with_state, changed, replied, called, calling}
use Rattle.run_semantics.specs.Run.{standing}
use Rattle.run_semantics.proofs.Sound.{in_flow, in_flow-of, EachKeeps, Keeps, act_keeps, deed_keeps, either_keeps, finish_call_keeps, keeps_same, perform_keeps}
use Rattle.kernel_boxes.specs.Seats.{BoxAt, instance_of, module_in, AreOfKinds, AreKept}
use Rattle.kernel_boxes.proofs.Keeping.{kind_same, kind_in, kinds_with, standing_with, states_with}
use Rattle.kernel_actions.specs.Positions.{IsGrownFrom}
use Rattle.run_semantics.specs.Finishing.{call_last}
use Rattle.kernel.specs.Seats.{world_of, IsCalled, IsServed}
use Rattle.kernel.proofs.Apart.{with_modules}

-- what holds of an answer, where there is one, by what another fact says of it
pub ok_step : {A E : Type 0} {P Q : A → Type 0} (result : Result A E) → IfOk result P → ((x : A) → P x → Q x) → IfOk result Q
ok_step (Ok x) p step = step x p
ok_step (Err e) p step = tt

-- ---- what a call leaves

-- WHAT A CALL LEAVES: boxes of their kinds, of the same modules
pub served_kept : (b : Behaviour) (id : ℕ) (old new : List BoxAt) (call : Call) (result : Option (Result Reply NoMemory)) → IsServed id old new call result → AreOfKinds b old → AreKept b old new
served_kept b id old new call None s h = rw s.1 (record { kinds = h; standing_is = refl })
served_kept b id old new call (Some result) s h = record {
  kinds = subst (AreOfKinds b) (sym s.seats) (kinds_with b id s.after old (kind_same b s.before s.after s.same (kind_in b id old s.before s.found h)) h);
  standing_is = ap (λ (ss : List BoxAt). standing (map instance_of ss)) s.seats ∙ standing_with id old s.before s.after s.found s.same.kind;
}

-- whatever the modules are
pub boxed_grows : (v w : World) (old new : List BoxAt) → IsGrownFrom v w → IsGrownFrom (world_of v old) (world_of w new)
boxed_grows v w old new g = record {
  records = g.records;
  dead = g.dead;
  started = g.started;
  finished = g.finished;
  changes = g.changes;
  emissions = g.emissions;
  scalars = g.scalars;
  questions = g.questions;
}

-- ---- what a call does

-- what a box says is what its module says in the definitions
module _ (b : Behaviour) (m : Answers) (follow : Reply → World → Flow) (id : ℕ) (p : CallReason) (w : World) where
  abbrev reply_by : Module → Replied
  reply_by box = (b.naming box.kind).reply box.state (call_of m id p w)

  found_called : (ss : List BoxAt) (before : Module) → module_in id ss ≡ Some before → called b m follow id p w (instance_in id (map instance_of ss)) ≡ replied follow id (reply_by before) w
  found_called [] before e = cc
  found_called (s ∷ ss) before e = by (s.id == id) (found_called ss before) e
    where
      by : (t : Bool) → (module_in id ss ≡ Some before → called b m follow id p w (instance_in id (map instance_of ss)) ≡ replied follow id (reply_by before) w) → cond t (Some s.box) (module_in id ss) ≡ Some before
          → called b m follow id p w (cond t (Some (instance_of s)) (instance_in id (map instance_of ss))) ≡ replied follow id (reply_by before) w
      by true later e = let same : s.box ≡ before = cc in ap (λ (x : Module). replied follow id (reply_by x) w) same
      by false later e = later e

  none_called : (ss : List BoxAt) → module_in id ss ≡ None → On w ≡ called b m follow id p w (instance_in id (map instance_of ss))
  none_called [] e = refl
  none_called (s ∷ ss) e = by (s.id == id) (none_called ss) e
    where
      by : (t : Bool) → (module_in id ss ≡ None → On w ≡ called b m follow id p w (instance_in id (map instance_of ss))) → cond t (Some s.box) (module_in id ss) ≡ None
          → On w ≡ called b m follow id p w (cond t (Some (instance_of s)) (instance_in id (map instance_of ss)))
      by true later e = cc
      by false later e = later e

module _ (b : Behaviour) (m : Answers) (follow : Reply → World → Flow) (id : ℕ) (p : CallReason) (core : World) (old new : List BoxAt) (reply : Reply) (kinds : AreOfKinds b old) (s : IsCalled id old new (call_of m id p core) (Ok reply)) where
  abbrev said : Replied
  said = reply_by b m follow id p core s.before

  kind : IsOfKind b s.before
  kind = kind_in b id old s.before s.found kinds

  told_reply : reply ≡ said.reply
  told_reply = s.answered.0 ∙ ap (λ n. (n.reply s.before.state (call_of m id p core)).reply) kind.named

  left_state : s.after.state ≡ said.state
  left_state = s.answered.1 ∙ ap (λ n. (n.reply s.before.state (call_of m id p core)).state) kind.named

  modules_after : map instance_of new ≡ with_state id said.state (map instance_of old)
  modules_after = ap (map instance_of) s.seats ∙ states_with id old s.before s.after said.state s.found s.same.kind left_state

  called_is_step : follow reply (world_of core new) ≡ replied follow id said (world_of core old)
  called_is_step =
      ap (λ (ms : List Instance). follow reply (with_modules ms core)) modules_after
      ∙ ap (λ (x : Reply). follow x (changed id said.state (world_of core old))) told_reply

-- A CALL in code is a call of the definitions, where what follows its reply is what follows it
-- there
pub calling_is : (b : Behaviour) (m : Answers) (follow : Reply → World → Flow) (id : ℕ) (p : CallReason) (core left : World) (old new : List BoxAt) (reply : Reply) (turn : EventFlow) → AreOfKinds b old → IsCalled id old new (call_of m id p core) (Ok reply)
    → flow_of turn left ≡ follow reply (world_of core new) → flow_of turn left ≡ calling b m follow id p (world_of core old)
calling_is b m follow id p core left old new reply turn kinds s e =
    e ∙ called_is_step b m follow id p core old new reply kinds s ∙ sym (found_called b m follow id p (world_of core old) old s.before s.found)

pub calling_none : (b : Behaviour) (m : Answers) (follow : Reply → World → Flow) (id : ℕ) (p : CallReason) (core : World) (old new : List BoxAt) → (module_in id old ≡ None) × (new ≡ old) → On (world_of core new) ≡ calling b m follow id p (world_of core old)
calling_none b m follow id p core old new h = ap (λ (ss : List BoxAt). On (world_of core ss)) h.1 ∙ none_called b m follow id p (world_of core old) old h.0

-- an action within an event inserts one event at most, by what the code says of it
pub act_next : (b : Behaviour) (m : Answers) (id : ℕ) (action : Action) (turn : EventFlow) (w v : World) → flow_of turn v ≡ act (perform b m id) occasion.Event id action w → v.next ≤ w.next + 1
act_next b m id action turn w v e = (subst (Keeps 1 w) (ap in_flow (sym e) ∙ in_flow-of turn v) (act_keeps 1 occasion.Event id (perform b m id) (perform_keeps b m id) action w)).next

-- so does one of a module that is finished
deeds_keep : (o : Occasion) (id : ℕ) → EachKeeps 1 o id (deed id)
deeds_keep o id action w = either_keeps 1 (is_allowed o action) _ _ w (deed_keeps id action w) (λ e. keeps_same 1 w)

pub last_next : (o : Occasion) (id : ℕ) (action : Action) (turn : EventFlow) (w v : World) → flow_of turn v ≡ act (deed id) o id action w → v.next ≤ w.next + 1
last_next o id action turn w v e = (subst (Keeps 1 w) (ap in_flow (sym e) ∙ in_flow-of turn v) (act_keeps 1 o id (deed id) (deeds_keep o id) action w)).next

-- and a call of such a module no more than it has actions
pub last_leaves : (b : Behaviour) (m : Answers) (o : Occasion) (id : ℕ) (turn : EventFlow) (w v : World) → flow_of turn v ≡ call_last b m o id w → Keeps 1000 w v
last_leaves b m o id turn w v e = subst (Keeps 1000 w) (ap in_flow (sym e) ∙ in_flow-of turn v) (finish_call_keeps b m o id w (deeds_keep o id))
