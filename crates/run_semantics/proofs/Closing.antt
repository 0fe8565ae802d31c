-- The end of a run asks nothing, creates no module, and counts no event; and of what it leaves
-- nothing is undone.
use Rattle.std.proofs.Common.{◌≡◌, ℕ, Bool, true, false, List, [], ◌∷◌, Option, Some, None, refl, ◌∙◌, length, nat_lt, if◌then◌else◌}
use Rattle.module_api.specs.declared.reply.Action.{Action}
use Rattle.module_api.specs.declared.reply.Action.TheVariants.{Emit, RecordScalar, Send, SendDelayed, SendDirect, ScheduleAt, ScheduleAfter, Cancel, Create, Delete, Connect, Disconnect, End, Fail}
use Rattle.module_api.specs.Actions.{has_large_payload}
use Rattle.module_api.specs.declared.reply.Reply.{Reply}
use Rattle.module_api.specs.declared.call.CallReason.TheVariants as prompt
use Rattle.module_api.specs.Behaviour.{Behaviour}
use Rattle.module_api.specs.Names.{is_scalar_name}
use Rattle.model_questions.specs.Answers.{Answers}
use Rattle.run_semantics.specs.declared.occasions.Occasion.TheVariants as occasion
use Rattle.run_semantics.specs.declared.outcome.RunFault.{RunFault}
use Rattle.run_semantics.specs.declared.outcome.RunFault.TheVariants as fault
use Rattle.run_semantics.specs.declared.outcome.Outcome.{Outcome}
use Rattle.run_semantics.specs.declared.traces.Instance.{Instance}
use Rattle.run_semantics.specs.World.{World}
use Rattle.run_semantics.specs.Perform.{Flow, On, Stopped, Broken, ◌>>=◌, is_allowed, deed, act, act_all, acted, answered_by, broken, for_each, read_fault, unless_fault, with_scalar}
use Rattle.run_semantics.specs.Event.{call_of, called, instance_in, changed}
use Rattle.run_semantics.specs.Run.{Ran, is_fault}
use Rattle.run_semantics.specs.Ending.{call_last, marked, with_finished, finish, finish_all, to_finish, concluded, ending}
use Rattle.run_semantics.specs.Laws.{GoesOn}
use Rattle.run_semantics.proofs.Flows.{in_flow}
use Rattle.run_semantics.proofs.Orderly.{on_same, on_more}

pub record IsClosed (old new : World) : Type 0 where
  pub questions : new.questions ≡ old.questions
  pub records : new.records ≡ old.records
  pub count : new.count ≡ old.count
  pub dead : new.dead ≡ old.dead
  pub started : new.started ≡ old.started
  pub changes : new.changes ≡ old.changes
  pub finished : GoesOn old.finished new.finished
  pub emissions : GoesOn old.emissions new.emissions
  pub scalars : GoesOn old.scalars new.scalars

closed_same : (w : World) → IsClosed w w
closed_same w = record { questions = refl; records = refl; count = refl; dead = refl; started = refl; changes = refl; finished = on_same w.finished; emissions = on_same w.emissions; scalars = on_same w.scalars }

closed_on : (u v w : World) → IsClosed u v → IsClosed v w → IsClosed u w
closed_on u v w f g = record {
  questions = g.questions ∙ f.questions;
  records = g.records ∙ f.records;
  count = g.count ∙ f.count;
  dead = g.dead ∙ f.dead;
  started = g.started ∙ f.started;
  changes = g.changes ∙ f.changes;
  finished = on_more u.finished v.finished w.finished f.finished g.finished;
  emissions = on_more u.emissions v.emissions w.emissions f.emissions g.emissions;
  scalars = on_more u.scalars v.scalars w.scalars f.scalars g.scalars;
}

-- one more module is finished
closed_marked : (id : ℕ) (w : World) → IsClosed w (with_finished id w)
closed_marked id w = record { questions = refl; records = refl; count = refl; dead = refl; started = refl; changes = refl; finished = (id ∷ [], refl); emissions = on_same w.emissions; scalars = on_same w.scalars }

closed_then : (w : World) (fl : Flow) (k : World → Flow) → IsClosed w (in_flow fl) → ((u : World) → IsClosed u (in_flow (k u))) → IsClosed w (in_flow (fl >>= k))
closed_then w (On u) k f h = closed_on w u (in_flow (k u)) f (h u)
closed_then w (Stopped u) k f h = f
closed_then w (Broken u path e) k f h = f

either_closed : (c : Bool) (f g : Flow) (w : World) → IsClosed w (in_flow f) → IsClosed w (in_flow g) → IsClosed w (in_flow (if c then f else g))
either_closed true f g w x y = x
either_closed false f g w x y = y

-- an action that is for the end
last_closed : (id : ℕ) (action : Action) (w : World) → IsClosed w (in_flow (if is_allowed occasion.End action then deed id action w else broken id fault.NotInFinish w))
last_closed id (Emit signal value) w = record { questions = refl; records = refl; count = refl; dead = refl; started = refl; changes = refl; finished = on_same w.finished; emissions = (_, refl); scalars = on_same w.scalars }
last_closed id (RecordScalar name value) w =
    either_closed (is_scalar_name name) (On (with_scalar id name value w)) (broken id fault.BadName w) w
    (record { questions = refl; records = refl; count = refl; dead = refl; started = refl; changes = refl; finished = on_same w.finished; emissions = on_same w.emissions; scalars = (_, refl) })
    (closed_same w)
last_closed id (ScheduleAt a) w = closed_same w
last_closed id (ScheduleAfter s) w = closed_same w
last_closed id (Cancel timer) w = record { questions = refl; records = refl; count = refl; dead = refl; started = refl; changes = refl; finished = on_same w.finished; emissions = on_same w.emissions; scalars = on_same w.scalars }
last_closed id (Create c) w = closed_same w
last_closed id (Delete path finish) w = closed_same w
last_closed id (Connect from to link) w = closed_same w
last_closed id (Disconnect place) w = closed_same w
last_closed id End w = closed_same w
last_closed id (Fail text) w = closed_same w
last_closed id (Send gate message) w = closed_same w
last_closed id (SendDelayed gate message delay) w = closed_same w
last_closed id (SendDirect place message flight) w = closed_same w

act_closed : (id : ℕ) (action : Action) (w : World) → IsClosed w (in_flow (act (deed id) occasion.End id action w))
act_closed id action w = either_closed (has_large_payload action) (broken id fault.PayloadTooLarge w) _ w (closed_same w) (last_closed id action w)

act_all_closed : (id : ℕ) (actions : List Action) (w : World) → IsClosed w (in_flow (act_all (deed id) occasion.End id actions w))
act_all_closed id [] w = closed_same w
act_all_closed id (action ∷ actions) w =
    closed_then w (act (deed id) occasion.End id action w) (for_each (act (deed id) occasion.End id) actions) (act_closed id action w) (act_all_closed id actions)

acted_closed : (id : ℕ) (actions : List Action) (w : World) → IsClosed w (in_flow (acted (deed id) occasion.End id actions w))
acted_closed id actions w =
    either_closed (nat_lt 1000 (length actions)) (broken id fault.TooManyActions w) (act_all (deed id) occasion.End id actions w) w (closed_same w) (act_all_closed id actions w)

unless_closed : (id : ℕ) (found : Option RunFault) (go : World → Flow) (w : World) → IsClosed w (in_flow (go w)) → IsClosed w (in_flow (unless_fault id found go w))
unless_closed id (Some f) go w h = closed_same w
unless_closed id None go w h = h

answered_closed : (m : Answers) (id : ℕ) (reply : Reply) (w : World) → IsClosed w (in_flow (answered_by m (deed id) occasion.End id reply w))
answered_closed m id reply w = unless_closed id (read_fault m w.records id reply.reads) (acted (deed id) occasion.End id reply.actions) w (acted_closed id reply.actions w)

called_closed : (b : Behaviour) (m : Answers) (id : ℕ) (w : World) (found : Option Instance) → IsClosed w (in_flow (called b m (answered_by m (deed id) occasion.End id) id prompt.Finish w found))
called_closed b m id w None = closed_same w
called_closed b m id w (Some i) =
    let r = (b.naming i.kind).reply i.state (call_of m id prompt.Finish w) in
    closed_on w (changed id r.state w) (in_flow (answered_by m (deed id) occasion.End id r.reply (changed id r.state w)))
    (record { questions = refl; records = refl; count = refl; dead = refl; started = refl; changes = refl; finished = on_same w.finished; emissions = on_same w.emissions; scalars = on_same w.scalars })
    (answered_closed m id r.reply (changed id r.state w))

finish_closed : (b : Behaviour) (m : Answers) (id : ℕ) (w : World) → IsClosed w (in_flow (finish b m occasion.End id w))
finish_closed b m id w = closed_then w (call_last b m occasion.End id w) (marked id) (called_closed b m id w (instance_in id w.modules)) (closed_marked id)

finish_all_closed : (b : Behaviour) (m : Answers) (ids : List ℕ) (w : World) → IsClosed w (in_flow (finish_all b m occasion.End ids w))
finish_all_closed b m [] w = closed_same w
finish_all_closed b m (id ∷ ids) w = closed_then w (finish b m occasion.End id w) (for_each (finish b m occasion.End) ids) (finish_closed b m id w) (finish_all_closed b m ids)

concluded_closed : (outcome : Outcome) (fl : Flow) (w : World) → IsClosed w (in_flow fl) → IsClosed w (concluded outcome fl).world
concluded_closed outcome (On u) w h = h
concluded_closed outcome (Stopped u) w h = h
concluded_closed outcome (Broken u path f) w h = h

either_ran : (c : Bool) (x y : Ran) (w : World) → IsClosed w x.world → IsClosed w y.world → IsClosed w (if c then x else y).world
either_ran true x y w f g = f
either_ran false x y w f g = g

pub ending_closed : (b : Behaviour) (m : Answers) (ran : Ran) → IsClosed ran.world (ending b m ran).world
ending_closed b m ran =
    either_ran (is_fault ran.outcome) ran (concluded ran.outcome (finish_all b m occasion.End (to_finish ran.world) ran.world)) ran.world (closed_same ran.world)
    (concluded_closed ran.outcome (finish_all b m occasion.End (to_finish ran.world) ran.world) ran.world (finish_all_closed b m (to_finish ran.world) ran.world))
