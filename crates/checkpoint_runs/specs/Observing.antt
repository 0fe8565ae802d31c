-- What the observer of a run is told of it.
use Rattle.std.specs.Prelude.{◌≡◌, ℕ, zero, suc, ◌-◌, ◌&&◌, ◌⊎◌, nat_lt, List, [], ◌∷◌, Option}
use Rattle.std.specs.Prelude.{Some, None, if◌then◌else◌}
use Rattle.module_api.specs.Behaviour.{Behaviour}
use Rattle.model_questions.specs.Answers.{Answers}
use Rattle.run_semantics.specs.declared.outcome.Outcome.{Outcome}
use Rattle.run_semantics.specs.Run.{Stage, Running, Over, after, run_to, start, is_fault, world_at}
use Rattle.checkpoint_runs.specs.declared.phases.Point.{Point}
use Rattle.checkpoint_runs.specs.declared.phases.Point.TheVariants.{Setup, Position, Start}
use Rattle.checkpoint_runs.specs.declared.phases.Progress.{Progress}
use Rattle.checkpoint_runs.specs.declared.phases.Progress.TheVariants as progress
use Rattle.checkpoint_runs.specs.declared.phases.Resumed.{Resumed}
use Rattle.checkpoint_runs.specs.declared.phases.RunStatus.{RunStatus}
use Rattle.checkpoint_runs.specs.declared.phases.RunStatus.TheVariants as status
use Rattle.checkpoint_runs.specs.declared.phases.Stood.{Stood}
use Rattle.checkpoint_runs.specs.declared.phases.Stood.TheVariants as stood
use Rattle.checkpoint_runs.specs.Positions.{lasting, start_of}
use Rattle.checkpoint_runs.specs.Telling.{Told, Began, Executed, AreTold}

-- THE EVENTS OF A RUN, so many of them from this one on, each with its time
abbrev pub executed_from : Behaviour → Answers → ℕ → ℕ → List Told
executed_from b m first zero = []
executed_from b m first (suc more) =
    Executed first (world_at (after b m first)).clock ∷ executed_from b m (suc first) more

-- those after an event, up to that one
abbrev pub executed_after : Behaviour → Answers → ℕ → ℕ → List Told
executed_after b m from last = executed_from b m (suc from) (last - from)

-- WHAT IS TOLD OF A RUN to that limit which goes on after an event, up to that one: where it goes on,
-- and each event
abbrev pub told_between : Behaviour → Answers → ℕ → ℕ → ℕ → List Told
told_between b m limit from last = Began from limit ∷ executed_after b m from last

-- nothing is of one that goes on nowhere
abbrev pub told_from : Behaviour → Answers → ℕ → Option ℕ → ℕ → List Told
told_from b m limit None last = []
told_from b m limit (Some from) last = told_between b m limit from last

-- the last event that is told of: one that ended in a fault is not
abbrev pub last_told : Behaviour → Answers → ℕ → ℕ
last_told b m limit =
    lasting (is_fault (run_to b m limit).outcome) (run_to b m limit).world.count

-- WHERE A RUN GOES ON, once event zero is done: where it begins, or where it waited. None: its first
-- event is its last one, and a fault: that is event zero, or the one for which a box was declined.
abbrev pub behind_setup : Stage → Option ℕ
behind_setup (Running w) = Some 0
behind_setup (Over w outcome) = None

abbrev pub begins_at : Behaviour → Answers → Option ℕ → Option ℕ
begins_at b m None = behind_setup (start b m)
begins_at b m (Some event) = Some event

abbrev pub went_on : Behaviour → Answers → ℕ → Option Resumed → List ℕ → Option ℕ
went_on b m limit None stored = begins_at b m (start_of limit stored)
went_on b m limit (Some r) stored =
    if r.declined && nat_lt r.count limit then None else Some r.count

-- WHAT IS TOLD OF A RUN THAT WAITS: all up to there, which is nothing where it waits at setup or at
-- a position
abbrev pub told_at : Behaviour → Answers → ℕ → Option ℕ → Point → List Told
told_at b m limit on Setup = []
told_at b m limit on Position = []
told_at b m limit on (Start k id) = told_from b m limit on k

-- WHAT IS TOLD OF A RUN that waits, or is done
abbrev pub told_by : Behaviour → Answers → ℕ → Option ℕ → Progress → List Told
told_by b m limit on (progress.Waits wait) = told_at b m limit on wait.at
told_by b m limit on (progress.Done ended) = told_from b m limit on (last_told b m limit)

-- the same of one that waits before an event, after so many
abbrev pub told_when : Behaviour → Answers → ℕ → Option ℕ → ℕ → RunStatus Outcome → List Told
told_when b m limit on count (status.Waits request) = told_from b m limit on count
told_when b m limit on count (status.Done outcome) = told_from b m limit on (last_told b m limit)

-- the last event that is told of while events are executed
abbrev pub told_to : ℕ → RunStatus Outcome → ℕ
told_to count (status.Waits request) = count
told_to count (status.Done outcome) = lasting (is_fault outcome) count

module _ {O : Type 0} where
  -- the events were told that it executed up to where it stands
  abbrev pub AreExecuted : Behaviour → Answers → ℕ → (O → Told → O → Type 0) → O → Stood → O
      → Type 0
  AreExecuted b m from told old stood.Before new = ⊥
  AreExecuted b m from told old (stood.After k) new =
      AreTold told old (executed_after b m from k) new
  AreExecuted b m from told old (stood.Untaken k) new =
      AreTold told old (executed_after b m from k) new
  AreExecuted b m from told old stood.Ending new = ⊥

  -- all up to an event was told, or nothing of a run that would go on there
  abbrev pub AreToldUpTo : Behaviour → Answers → ℕ → Option ℕ → (O → Told → O → Type 0) → O → ℕ
      → O → Type 0
  AreToldUpTo b m limit on told old k new =
      ((on ≡ Some k) × AreTold told old [] new) ⊎ AreTold told old (told_from b m limit on k) new

  -- WHAT WAS TOLD BY WHERE A RUN STOOD when memory ran out: before event zero was done nothing; after
  -- an event all up to that one, or nothing yet where it goes on there; in its end all
  abbrev pub IsTold : Behaviour → Answers → ℕ → Option ℕ → (O → Told → O → Type 0) → O → Stood → O
      → Type 0
  IsTold b m limit on told old stood.Before new = AreTold told old [] new
  IsTold b m limit on told old (stood.After k) new = AreToldUpTo b m limit on told old k new
  IsTold b m limit on told old (stood.Untaken k) new = AreToldUpTo b m limit on told old k new
  IsTold b m limit on told old stood.Ending new =
      AreTold told old (told_from b m limit on (last_told b m limit)) new
