-- What a session keeps.
use Rattle.std.specs.Prelude.{◌≡◌, ℕ, false, List, [], ◌∷◌, ◌++◌, Option, Some, None, IsSome, suc}
use Rattle.module_api.specs.Behaviour.{Behaviour}
use Rattle.module_api.specs.Meaning.{Module, IsFresh}
use Rattle.model_data.specs.declared.model.Model.{Model}
use Rattle.model_answers.specs.Answering.{answers_of}
use Rattle.run_semantics.specs.declared.outcome.Outcome.{Outcome}
use Rattle.run_semantics.specs.World.{World}
use Rattle.run_semantics.specs.Run.{Part}
use Rattle.model_edits.specs.declared.edit.Edit.{Edit}
use Rattle.model_edits.specs.Edited.{number_given, IsEditOf, IsOnlyEditOf}
use Rattle.kernel_actions.specs.declared.position.Position.{Position}
use Rattle.checkpoints.specs.Stored.{begun, counts_in, AreBelow, IsBegun, Timeline}
use Rattle.kernel.specs.declared.request.Request.{Request}
use Rattle.kernel_boxes.specs.Seats.{BoxAt, AreOfKinds}
use Rattle.checkpoint_runs.specs.declared.phases.Phase.{Phase}
use Rattle.checkpoint_runs.specs.declared.phases.Phase.TheVariants.{Idle, Waiting, Declined}
use Rattle.checkpoint_runs.specs.declared.phases.Point.TheVariants as point
use Rattle.checkpoint_runs.specs.declared.phases.Wait.{Wait}
use Rattle.edit_session.specs.declared.session.Change.{Change}
use Rattle.edit_session.specs.declared.session.Edited.{Edited}
use Rattle.checkpoint_runs.specs.declared.phases.RunStatus.{RunStatus}
use Rattle.checkpoint_runs.specs.declared.phases.RunStatus.TheVariants as status
use Rattle.edit_session.specs.declared.session.Report.{Report}
use Rattle.checkpoint_runs.specs.Kept.{AreGood}
use Rattle.checkpoint_runs.specs.declared.phases.Stood.{Stood}
use Rattle.checkpoint_runs.specs.Positions.{cut, events_behind, last_count, positions_after}
use Rattle.checkpoint_runs.specs.Positions.{HasStored, CanBeStored, IsBegunUpTo}
use Rattle.checkpoint_runs.specs.Running.{at_setup, began_at, boxes_at, boxes_left, fresh_run}
use Rattle.checkpoint_runs.specs.Running.{known_at, needed_back, positions_at, resumed, supplied_at}
use Rattle.checkpoint_runs.specs.Running.{supplied_left}
use Rattle.checkpoint_runs.specs.Running.{wait_of, wanted_by, wanted_next, whole_run, with_part}
use Rattle.checkpoint_runs.specs.Running.{IsLive}
use Rattle.checkpoint_runs.specs.Observing.{last_told, told_at, told_from, went_on}
use Rattle.checkpoint_runs.specs.Telling.{Told}
use Rattle.run_semantics.specs.Run.{after as stage_after}
use Rattle.edit_session.specs.Reuse.{IsKnown, IsValidTo}

-- a run that is done: its limit and its outcome
pub record Completed : Type 0 where
  pub limit : ℕ
  pub outcome : Outcome

-- what is kept of it
abbrev pub completed : Behaviour → Model → ℕ → Completed
completed b m limit =
    record { limit = limit; outcome = (fresh_run b (answers_of m) limit).outcome }

-- what callers see of a session: the model; the last run, where it is done; where a run stands that
-- isn't; the modules whose boxes it holds, by their ids and kinds: those that were started, and those
-- whose boxes were supplied for a start; the last event of a run of the model whose questions are
-- known, where there is one; and the positions that are stored, by their counts of events, with the
-- interval
pub record Editing : Type 0 where
  pub model : Model
  pub done : Option Completed
  pub phase : Phase
  pub boxes : List Part
  pub supplied : List Part
  pub known : Option ℕ
  pub positions : Timeline ℕ

-- what a session waits for: the box that is needed next where its run waits
abbrev pub waited_for : Behaviour → Phase → Model → List Part → List Part → Option Request
waited_for b (Waiting from point.Setup) m boxes supplied = wanted_by (answers_of m) supplied
waited_for b (Waiting None point.Position) m boxes supplied = None
waited_for b (Waiting (Some event) point.Position) m boxes supplied =
    needed_back b (answers_of m) event boxes
waited_for b (Waiting from (point.Start k (Some id))) m boxes supplied =
    wanted_next (answers_of m) (stage_after b (answers_of m) k) supplied
waited_for b (Waiting from (point.Start k None)) m boxes supplied = None
waited_for b Idle m boxes supplied = None
waited_for b (Declined from at) m boxes supplied = None

abbrev pub wanted_of : Behaviour → Editing → Option Request
wanted_of b e = waited_for b e.phase e.model e.boxes e.supplied

-- the module that a box was asked for
abbrev pub part_for : Request → Part
part_for r = record { id = r.id; kind = r.kind }

-- the boxes after one more is supplied: one for a start stands behind those that wait already, and no
-- other is asked for until the run goes on; one for a position stands in its place
abbrev pub with_supplied : Phase → Request → Editing → Editing
with_supplied (Waiting from point.Setup) r e = record e { supplied = e.supplied ++ part_for r ∷ [] }
with_supplied (Waiting from point.Position) r e =
    record e { boxes = with_part (part_for r) e.boxes }
with_supplied (Waiting from (point.Start k id)) r e = record e {
  supplied = e.supplied ++ part_for r ∷ [];
  phase = Waiting from (point.Start k None);
}
with_supplied Idle r e = e
with_supplied (Declined from at) r e = e

-- where a run stands then
abbrev pub supplied_phase : Phase → Phase
supplied_phase (Waiting from point.Setup) = Waiting from point.Setup
supplied_phase (Waiting from point.Position) = Waiting from point.Position
supplied_phase (Waiting from (point.Start k id)) = Waiting from (point.Start k None)
supplied_phase Idle = Idle
supplied_phase (Declined from at) = Declined from at

-- the module whose box a run asks for that waits before a start event
abbrev pub asked_at_start : Phase → Option ℕ
asked_at_start (Waiting from point.Setup) = None
asked_at_start (Waiting from point.Position) = None
asked_at_start (Waiting from (point.Start k id)) = id
asked_at_start Idle = None
asked_at_start (Declined from at) = None

abbrev pub with_wanted : Option Request → Editing → Editing
with_wanted None e = e
with_wanted (Some r) e = with_supplied e.phase r e

abbrev pub with_box : Behaviour → Editing → Editing
with_box b e = with_wanted (wanted_of b e) e

-- where a run stands once the box that it waits for was declined
abbrev pub declined_at : Phase → Phase
declined_at (Waiting from at) = Declined from at
declined_at Idle = Idle
declined_at (Declined from at) = Declined from at

-- where a run to that limit began: where it waits and goes on, there; else at the greatest position
-- up to the limit, or with setup
abbrev pub start_in : Editing → ℕ → Option ℕ
start_in e limit = began_at limit (resumed limit e.phase) e.positions.stored

-- WHERE A RUN to that limit WAITS, and for which box; none: it is done
abbrev pub wait_in : Behaviour → Editing → ℕ → Option Wait
wait_in b e limit = wait_of b (answers_of e.model) limit (at_setup e.phase) (resumed limit e.phase)
    e.positions.stored e.boxes e.supplied

-- WHERE IT GOES ON, once its first event was no fault: where it begins, or where it waits
abbrev pub went_on_in : Behaviour → Editing → ℕ → Option ℕ
went_on_in b e limit =
    went_on b (answers_of e.model) limit (resumed limit e.phase) e.positions.stored

-- WHAT THE OBSERVER OF A RUN to that limit IS TOLD: where it goes on, and each event up to where it
-- waits, or to its last one
abbrev pub observed_up_to : Behaviour → Model → ℕ → Option ℕ → Option Wait → List Told
observed_up_to b m limit on None =
    told_from b (answers_of m) limit on (last_told b (answers_of m) limit)
observed_up_to b m limit on (Some wait) = told_at b (answers_of m) limit on wait.at

abbrev pub observed_in : Behaviour → Editing → ℕ → List Told
observed_in b e limit =
    observed_up_to b e.model limit (went_on_in b e limit) (wait_in b e limit)

-- WHAT A RUN LEAVES THAT WAITS there: the boxes that stay there, and its positions. None is done, and
-- what is known is what was asked up to there.
abbrev pub waits_at : Behaviour → Editing → ℕ → Wait → Editing
waits_at b e limit wait = record {
  model = e.model;
  done = None;
  phase = Waiting wait.from wait.at;
  boxes = boxes_at b (answers_of e.model) wait.from wait.at e.boxes;
  supplied = supplied_at (at_setup e.phase) (resumed limit e.phase) wait.at e.supplied;
  known = known_at wait.from wait.at;
  positions = positions_at limit (resumed limit e.phase) wait.at e.positions;
}

-- ---- what it keeps

-- the world is what the run that is done left
abbrev pub IsLeft : Behaviour → Model → World → Option Completed → Type 0
IsLeft b m w None = Unit {0}
IsLeft b m w (Some done) = whole_run b (answers_of m) done.limit w done.outcome

-- WHERE A RUN WAITS that goes back to a position: none is done, it is the last position, and what
-- is known is what was asked up to there.
pub record IsBackAt (from : Option ℕ) (last : Option Completed) (known : Option ℕ)
    (t : Timeline ℕ) : Type 0 where
  pub none : last ≡ None
  pub some : IsSome from
  pub known_is : known ≡ from
  pub last_is : last_count t.stored ≡ from
  pub cut_is : cut from t ≡ t

-- WHERE A RUN WAITS before a start event: none is done, no position is stored after that event, and
-- those are stored that were due since it began.
pub record IsPausedAt (from : Option ℕ) (k : ℕ) (last : Option Completed) (known : Option ℕ)
    (ps : Timeline Position) : Type 0 where
  pub none : last ≡ None
  pub known_is : known ≡ Some k
  pub below : AreBelow (suc k) ps.stored
  pub begun_is : IsBegunUpTo from k (counts_in ps)

-- While a run waits none is done. Where it waits with setup nothing is known of one, and no
-- position is stored.
abbrev pub IsUndone : Phase → Option Completed → Option ℕ → Timeline Position → Type 0
IsUndone Idle last known ps = Unit {0}
IsUndone (Waiting from point.Setup) last known ps = (last ≡ None) × (known ≡ None) × IsBegun ps
IsUndone (Waiting from point.Position) last known ps = IsBackAt from last known (counts_in ps)
IsUndone (Waiting from (point.Start k id)) last known ps = IsPausedAt from k last known ps
IsUndone (Declined from point.Setup) last known ps = (last ≡ None) × (known ≡ None) × IsBegun ps
IsUndone (Declined from point.Position) last known ps = IsBackAt from last known (counts_in ps)
IsUndone (Declined from (point.Start k id)) last known ps = IsPausedAt from k last known ps

-- all that a session keeps
pub record IsKept (b : Behaviour) (seats waiting : List BoxAt)
    (w : World) (m : Model) (phase : Phase) (done : Option Completed) (known : Option ℕ)
    (ps : Timeline Position) : Type 0 where
  pub kinds : AreOfKinds b seats
  pub live : IsLive b (answers_of m) w waiting phase
  pub left : IsLeft b m w done
  pub undone : IsUndone phase done known ps
  pub asked : IsKnown b (answers_of m) w known
  pub good : AreGood b (answers_of m) w ps.stored
  pub stored : CanBeStored (counts_in ps)

-- ---- premises and answers

-- the box is for what is waited for
abbrev pub IsFor : Behaviour → Option Request → Module → Type 0
IsFor b None box = Unit {0}
IsFor b (Some request) box = IsFresh b request.kind box

-- the catalogue has no such kind
abbrev pub IsUnknown : Behaviour → Option Request → Type 0
IsUnknown b None = Unit {0}
IsUnknown b (Some request) = b.known request.kind ≡ false

-- WHAT A RUN THAT IS DONE TELLS, and what is kept of it: a fresh run of the model. It began at the
-- greatest position up to its limit, or with setup where there is none, or where it waits and went on
-- it began before; after that it executed all events of the fresh run, and it left its positions. It
-- needs no box, or none that there is; then those stay that were supplied for the same start.
pub record IsFreshRun (b : Behaviour) (before : Editing) (limit : ℕ) (report : Report)
    (after : Editing) : Type 0 where
  pub outcome : report.outcome ≡ (fresh_run b (answers_of before.model) limit).outcome
  pub started_from : report.started_from ≡ start_in before limit
  pub executed : report.executed ≡ events_behind (start_in before limit)
      (fresh_run b (answers_of before.model) limit).world.count
  pub done : after.done ≡ Some (completed b before.model limit)
  pub boxes : after.boxes ≡ boxes_left b (answers_of before.model) limit
  pub supplied : after.supplied ≡ supplied_left b (answers_of before.model) limit
  pub known : after.known ≡ Some (fresh_run b (answers_of before.model) limit).world.count
  pub positions : after.positions ≡ positions_after b (answers_of before.model) limit
      (resumed limit before.phase) before.positions
  pub needs_none : wait_in b before limit ≡ None

-- IT WAITS where a box is missing first: where it begins, or before the first event that starts
-- modules without boxes. What is then waited for is that box.
pub record WaitsFor (b : Behaviour) (before : Editing) (limit : ℕ) (request : Request)
    (after : Editing) : Type 0 where
  pub wait : Wait
  pub is : wait_in b before limit ≡ Some wait
  pub wanted : request ≡ wait.request
  pub waits : after ≡ waits_at b before limit wait
  pub asks : wanted_of b after ≡ Some request

-- the last number that was used, where one was given
abbrev pub last_used : ℕ → Option ℕ → Option ℕ
last_used last None = None
last_used last (Some number) = Some last

-- WHAT AN EDIT CHANGES: the model is then the one that the edit makes, and it makes no other; the
-- last run stays that of the model up to the event that is told
pub record IsChangeBy (b : Behaviour) (before : Editing) (e : Edit) (change : Change) : Type 0 where
  pub model : IsEditOf before.model e change.model
  pub only : IsOnlyEditOf before.model e change.model
  pub valid_to : IsValidTo b (answers_of before.model) (answers_of change.model) before.known
      change.edited.valid_to
  pub injection : change.edited.injection ≡ number_given e before.model

-- what it leaves. No run waits and none is done; the boxes stay until the next run. Of the last run
-- those events are known that stay valid, and those positions stay that are not after them.
abbrev pub edited_by : Editing → Change → Editing
edited_by before change = record {
  model = change.model;
  done = None;
  phase = Idle;
  boxes = before.boxes;
  supplied = before.supplied;
  known = change.edited.valid_to;
  positions = cut change.edited.valid_to before.positions;
}

-- WHAT AN ACCEPTED EDIT LEAVES, and what it tells
pub record IsAccepted (b : Behaviour) (before : Editing) (e : Edit) (edited : Edited)
    (after : Editing) : Type 0 where
  pub change : Change
  pub by : IsChangeBy b before e change
  pub told : edited ≡ change.edited
  pub left : after ≡ edited_by before change

-- WHAT LACK OF MEMORY LEAVES of a run: none waits, and none is done. The positions are those that
-- it stored after where it began, up to where it stood, and nothing is known but the events up to
-- the last of them. No box waits for a start.
pub record IsGivenUp (b : Behaviour) (before : Editing) (limit : ℕ) (after : Editing) : Type 0 where
  pub stood : Stood
  pub done : after.done ≡ None
  pub idle : after.phase ≡ Idle
  pub supplied : after.supplied ≡ []
  pub known : after.known ≡ last_count after.positions.stored
  pub positions : HasStored b (answers_of before.model) limit (resumed limit before.phase)
      before.positions stood after.positions

-- WHAT IS LEFT where a run that waits is given up: none waits, and none is done. No box waits for a
-- start, and nothing is known but the events up to the last position.
abbrev pub given_up : Editing → Editing
given_up e = record {
  model = e.model;
  done = None;
  phase = Idle;
  boxes = e.boxes;
  supplied = [];
  known = last_count e.positions.stored;
  positions = e.positions;
}

-- a session of that model, without a run
abbrev pub fresh_editing : Model → ℕ → Editing
fresh_editing m interval = record {
  model = m;
  done = None;
  phase = Idle;
  boxes = [];
  supplied = [];
  known = None;
  positions = begun interval;
}

abbrev pub IfDone : RunStatus Report → (Report → Type 0) → Type 0
IfDone (status.Waits request) P = Unit {0}
IfDone (status.Done report) P = P report

abbrev pub IfWaiting : RunStatus Report → (Request → Type 0) → Type 0
IfWaiting (status.Waits request) P = P request
IfWaiting (status.Done report) P = Unit {0}
