-- A session, by what its boxes mean.
use Rattle.std.specs.Prelude.{◌≡◌, true, option_map}
use Rattle.module_api.specs.Behaviour.{Behaviour}
use Rattle.model_answers.specs.Answering.{answers_of}
use Rattle.model_edits.specs.declared.edit.Edit.{Edit}
use Rattle.model_agreement.specs.Models.{RestOnSame}
use Rattle.kernel_boxes.specs.Seats.{Members}
use Rattle.kernel_call_views.specs.Tables.{AreShown}
use Rattle.kernel.specs.Kernels.{boxes_in, world_in}
use Rattle.edit_session.specs.Editing.{Completed, Editing, IsChangeBy, IsKept}
use Rattle.checkpoints.specs.Stored.{counts_in}
use Rattle.checkpoint_runs.specs.Kept.{kept_up_to, standing_in, supplied_in, waiting_in, AreGood}
use Rattle.checkpoint_runs.specs.declared.phases.Stood.{Stood}
use Rattle.edit_session.specs.Reuse.{IsKnown}
use Rattle.edit_session.specs.declared.session.Change.{Change}
use Rattle.edit_session.specs.declared.session.Done.{Done}
use Rattle.edit_session.specs.declared.session.Session.{Session}

abbrev pub completed_of : Done → Completed
completed_of d = record { limit = d.limit; outcome = d.outcome }

module _ {C X : Type 0} {Y : X → Type 0} where
  -- what callers see of it
  abbrev pub editing_of : Members X Y → Session C X Y → Editing
  editing_of members s = record {
    model = s.model;
    done = option_map completed_of s.done;
    phase = s.phase;
    boxes = standing_in members s.runner;
    supplied = supplied_in members s.runner;
    known = s.known;
    positions = counts_in s.runner.positions;
  }

  -- where the run stood that was asked for last, if memory ran out for it
  abbrev pub stood_in : Session C X Y → Stood
  stood_in s = s.runner.stood

  -- what it keeps
  pub record IsSound (b : Behaviour) (members : Members X Y) (s : Session C X Y) : Type 0 where
    pub kept : IsKept b (boxes_in members s.runner.kernel) (waiting_in members s.runner)
        (world_in members s.runner.kernel) s.model s.phase (option_map completed_of s.done)
        s.known s.runner.positions
    -- what is kept of what calls show of modules
    pub shown : AreShown (answers_of s.model) (world_in members s.runner.kernel).records s.shown

  -- It is sound, and of the same model as before.
  pub record KeepsModel (b : Behaviour) (members : Members X Y)
      (before after : Session C X Y) : Type 0 where
    pub sound : IsSound b members after
    pub model : (editing_of members after).model ≡ (editing_of members before).model

  -- The change is what the edit makes of this session. Up to where it says the questions stay known
  -- and the positions good; where it says so, the values of the modules rest on what they rested on.
  pub record IsChangeOf (b : Behaviour) (members : Members X Y) (s : Session C X Y) (e : Edit)
      (change : Change) : Type 0 where
    pub by : IsChangeBy b (editing_of members s) e change
    pub known : IsKnown b (answers_of change.model) (world_in members s.runner.kernel)
        change.edited.valid_to
    pub good : AreGood b (answers_of change.model) (world_in members s.runner.kernel)
        (kept_up_to change.edited.valid_to s.runner.positions).stored
    pub same : change.same ≡ true → RestOnSame s.model change.model
