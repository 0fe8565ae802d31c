-- What the desk answers, and what it keeps.
use Rattle.std.specs.Prelude.{◌≡◌, ◌⊎◌, ℕ, ◌+◌, List, [], length, Option, Some, None, codes}
use Rattle.module_api.specs.Behaviour.{Behaviour}
use Rattle.model_data.specs.declared.model.Model.{Model}
use Rattle.model_answers.specs.Answering.{answers_of}
use Rattle.model_edits.specs.declared.edit.Edit.{Edit}
use Rattle.model_edits.specs.declared.edit.Refusal.{Refusal}
use Rattle.model_edits.specs.Edited.{number_given, IsEditOf, IsOnlyEditOf, Refuses}
use Rattle.desk_commands.specs.Commands.{command_of}
use Rattle.desk_commands.specs.declared.commands.Command.{Command}
use Rattle.desk_commands.specs.declared.commands.Command.TheVariants as command
use Rattle.kernel_boxes.specs.Seats.{Members}
use Rattle.edit_session.specs.Editing.{Editing, completed, start_in, IsGivenUp, WaitsFor}
use Rattle.checkpoint_runs.specs.Running.{boxes_left, fresh_run, resumed, supplied_left}
use Rattle.checkpoint_runs.specs.Positions.{cut, events_behind, positions_after, start_of}
use Rattle.checkpoint_runs.specs.declared.phases.Phase.TheVariants.{Idle}
use Rattle.edit_session.specs.Reuse.{IsValidTo}
use Rattle.edit_session.specs.Sessions.{editing_of, IsSound, KeepsModel}
use Rattle.desk_client.specs.Answers.{done_text, edit_refusal_text, edited_text, held_text}
use Rattle.desk_client.specs.Answers.{positions_text, IsTold}
use Rattle.desk_answers.specs.declared.desk.Desk.{Desk}
use Rattle.desk_answers.specs.declared.desk.DeskTurn.{DeskTurn}
use Rattle.desk_answers.specs.declared.desk.DeskTurn.TheVariants as turn

module _ {C X : Type 0} {Y : X → Type 0} where
  -- what callers see of its session
  abbrev pub editing_at : Members X Y → Desk C X Y → Editing
  editing_at members d = editing_of members d.session

  -- what it keeps
  abbrev pub IsSettled : Behaviour → Members X Y → Desk C X Y → Type 0
  IsSettled b members d = IsSound b members d.session

  -- it keeps that, and its model is that before
  abbrev pub StaysSettled : Behaviour → Members X Y → Desk C X Y → Desk C X Y → Type 0
  StaysSettled b members before after = KeepsModel b members before.session after.session

-- ---- runs

-- the answer of a fresh run of the model that begins there: how it ends, and how many events are
-- executed after that
abbrev pub answer_from : Behaviour → Model → ℕ → Option ℕ → List ℕ
answer_from b m limit start =
    let ran = fresh_run b (answers_of m) limit in
    done_text ran.outcome start (events_behind start ran.world.count)

-- THE ANSWER TO `run N` where these positions are stored: that of a fresh run of the model, which
-- begins at the greatest of them up to N
abbrev pub run_answer : Behaviour → Model → ℕ → List ℕ → List ℕ
run_answer b m limit old = answer_from b m limit (start_of limit old)

-- A run to that limit is done: what is kept of it, and what it leaves.
pub record IsDone (b : Behaviour) (before : Editing) (limit : ℕ) (after : Editing) : Type 0 where
  pub done : after.done ≡ Some (completed b before.model limit)
  pub boxes : after.boxes ≡ boxes_left b (answers_of before.model) limit
  pub supplied : after.supplied ≡ supplied_left b (answers_of before.model) limit
  pub known : after.known ≡ Some (fresh_run b (answers_of before.model) limit).world.count
  pub positions : after.positions ≡ positions_after b (answers_of before.model) limit
      (resumed limit before.phase) before.positions

-- The same, and the text is its answer: that of a fresh run of the model. Where it waited and went
-- on it began where it had begun before.
pub record HasRun (b : Behaviour) (before : Editing) (limit : ℕ) (text : List ℕ)
    (after : Editing) : Type 0 where
  pub answer : text ≡ answer_from b before.model limit (start_in before limit)
  pub done : IsDone b before limit after

-- WHAT A RUN COMES TO: it is done, and its answer is that of a fresh run; or it waits for a box
abbrev pub IsRunTurn : Behaviour → Editing → ℕ → DeskTurn → Editing → Type 0
IsRunTurn b before limit (turn.Text answer) after = HasRun b before limit answer.text after
IsRunTurn b before limit (turn.Want request) after = WaitsFor b before limit request after

-- What lack of memory leaves after a run to that limit: no run is done, and the positions are those
-- that it stored; or this one is done.
abbrev pub MayBeDone : Behaviour → Editing → ℕ → Editing → Type 0
MayBeDone b before limit after = IsGivenUp b before limit after ⊎ IsDone b before limit after

-- ---- edits

-- The edit is made: the model is the one that it makes, and it makes no other. It is told up to
-- which event a run of the old model, of which so many events are known, is one of the new model.
pub record IsMade (b : Behaviour) (m : Model) (known : Option ℕ) (e : Edit) (text : List ℕ)
    (new : Model) (valid : Option ℕ) : Type 0 where
  pub text_is : text ≡ edited_text valid (number_given e m)
  pub valid_to : IsValidTo b (answers_of m) (answers_of new) known valid
  pub edited : IsEditOf m e new
  pub only : IsOnlyEditOf m e new

-- The edit makes no model, for a reason that the text names, and none comes before it.
pub record IsRefused (m : Model) (e : Edit) (text : List ℕ) : Type 0 where
  pub why : Refusal
  pub text_is : Some text ≡ edit_refusal_text why
  pub due : Refuses m e why
  pub none : (new : Model) → IsEditOf m e new → ⊥

-- The edit is made: no run waits or is done, the boxes stay, and so do the positions up to which the
-- last run stays valid. Or it is refused, and nothing changed.
abbrev pub AnswersEdit : Behaviour → Editing → Edit → List ℕ → Editing → Type 0
AnswersEdit b before e text after =
    ((valid : Option ℕ) × IsMade b before.model before.known e text after.model valid
    × (after ≡ record {
      model = after.model;
      done = None;
      phase = Idle;
      boxes = before.boxes;
      supplied = before.supplied;
      known = valid;
      positions = cut valid before.positions;
    }))
    ⊎ (IsRefused before.model e text × (after ≡ before))

-- ---- lines

-- the answer is a text, of which this holds
abbrev pub IsTextOf : DeskTurn → (List ℕ → Type 0) → Type 0
IsTextOf (turn.Text answer) P = P answer.text
IsTextOf (turn.Want request) P = ⊥

-- its text says what it tells
abbrev pub IsToldIn : DeskTurn → Type 0
IsToldIn (turn.Text answer) = IsTold answer.told answer.text
IsToldIn (turn.Want request) = Unit {0}

-- WHAT A COMMAND IS ANSWERED, and what it leaves
abbrev pub AnswersCommand : Behaviour → Editing → Command → DeskTurn → Editing → Type 0
AnswersCommand b before (command.Run limit) answer after =
    IsRunTurn b before limit answer after × (after.model ≡ before.model)
AnswersCommand b before (command.Edit e) answer after =
    IsTextOf answer (λ text. AnswersEdit b before e text after)
AnswersCommand b before (command.Ned number path) answer after =
    IsTextOf answer (λ text. text ≡ codes "refused Command") × (after ≡ before)
AnswersCommand b before command.Positions answer after =
    IsTextOf answer (λ text. text ≡ positions_text before.positions.stored) × (after ≡ before)
AnswersCommand b before command.Held answer after =
    IsTextOf answer (λ text. text ≡ held_text (length before.boxes + length before.supplied))
    × (after ≡ before)
AnswersCommand b before command.Write answer after =
    IsTextOf answer (λ text. text ≡ codes "refused Command") × (after ≡ before)
AnswersCommand b before command.Unknown answer after =
    IsTextOf answer (λ text. text ≡ codes "refused Command") × (after ≡ before)
AnswersCommand b before command.TooLarge answer after =
    IsTextOf answer (λ text. text ≡ codes "refused TooLarge") × (after ≡ before)

-- the command needs nothing but the desk: neither boxes nor files
abbrev pub IsOfDesk : Command → Type 0
IsOfDesk (command.Run limit) = ⊥
IsOfDesk (command.Ned number path) = ⊥
IsOfDesk command.Write = ⊥
IsOfDesk _ = Unit {0}

abbrev pub AnswersLine : Behaviour → Editing → List ℕ → DeskTurn → Editing → Type 0
AnswersLine b before line answer after = AnswersCommand b before (command_of line) answer after

-- WHAT LACK OF MEMORY LEAVES after a command: of a run the model and what it stored; of an edit and
-- a list everything as it was. A command that is refused by its name alone has its answer.
abbrev pub Forgoes : Behaviour → Command → Editing → Editing → Type 0
Forgoes b (command.Run limit) before after =
    MayBeDone b before limit after × (after.model ≡ before.model)
Forgoes b (command.Edit e) before after = after ≡ before
Forgoes b (command.Ned number path) before after = after ≡ before
Forgoes b command.Positions before after = after ≡ before
Forgoes b command.Held before after = after ≡ before
Forgoes b _ before after = ⊥
