-- Stored positions, and how a run leaves them.
use Rattle.std.specs.Prelude.{◌≡◌, ◌≤◌, ℕ, suc, ◌-◌, ◌<◌, ◌&&◌, not, Bool, true, false, List, []}
use Rattle.std.specs.Prelude.{◌∷◌, Option, Some, None, option_map, if◌then◌else◌}
use Rattle.checkpoints.specs.Stored.{counts_in, cut_after, ends_at, begun, is_multiple}
use Rattle.checkpoints.specs.Stored.{with_position, AreBelow, Timeline}
use Rattle.kernel_actions.specs.declared.position.Position.{Position}
use Rattle.kernel_boxes.specs.Seats.{Members}
use Rattle.kernel.specs.Kernels.{ran_in, world_in}
use Rattle.kernel_actions.specs.Positions.{cut_to, position_of, IsGrownFrom}
use Rattle.kernel_boxes.specs.Seats.{BoxAt}
use Rattle.module_api.specs.Behaviour.{Behaviour}
use Rattle.model_questions.specs.Answers.{Answers}
use Rattle.run_semantics.specs.declared.outcome.Outcome.{Outcome}
use Rattle.run_semantics.specs.Run.{Running, Part, after, first_unknown, run_to, standing, is_fault}
use Rattle.run_semantics.specs.Laws.{GoesOn}
use Rattle.run_semantics.specs.World.{World, HasRoom}
use Rattle.kernel_boxes.specs.Saved.{seats_held}
use Rattle.kernel_boxes.specs.Staying.{first_without}
use Rattle.checkpoint_runs.specs.Positions.{behind, lasting, numbers_from, positions_after}
use Rattle.checkpoint_runs.specs.Positions.{positions_begun, starts_within, CanGoOn, HasLeft}
use Rattle.kernel.specs.declared.request.Request.{Request}
use Rattle.checkpoint_runs.specs.Running.{first_wait, fresh_run, kept_back, needed_back, needed_in}
use Rattle.checkpoint_runs.specs.Running.{parts_in}
use Rattle.checkpoint_runs.specs.Running.{refused_if, IsHeldUp, IsPaused, IsStopped}
use Rattle.checkpoint_runs.specs.declared.phases.Phase.{Phase}
use Rattle.checkpoint_runs.specs.declared.phases.Phase.TheVariants.{Idle, Waiting, Declined}
use Rattle.checkpoint_runs.specs.declared.phases.Point.TheVariants.{Setup, Position as AtPosition}
use Rattle.checkpoint_runs.specs.declared.phases.Point.TheVariants.{Start}
use Rattle.checkpoint_runs.specs.declared.phases.Resumed.{Resumed}
use Rattle.checkpoint_runs.specs.declared.running.Runner.{Runner}
use Rattle.checkpoint_runs.specs.declared.phases.RunStatus.{RunStatus}
use Rattle.checkpoint_runs.specs.declared.phases.RunStatus.TheVariants as status
use Rattle.checkpoint_runs.specs.declared.phases.Stood.TheVariants as stood

-- A POSITION IS GOOD: the run of the model goes on after its events, and it is the position of the
-- world there, whose lists have only grown since. Which of its modules have boxes is not said:
-- those that were deleted since have none.
pub record IsGood (b : Behaviour) (m : Answers) (w : World) (p : Position) : Type 0 where
  pub world : World
  pub stage : after b m p.count ≡ Running world
  pub position : p ≡ position_of world
  pub room : HasRoom world
  pub grown : IsGrownFrom world w

abbrev pub AreGood : Behaviour → Answers → World → List Position → Type 0
AreGood b m w [] = Unit {0}
AreGood b m w (p ∷ ps) = IsGood b m w p × AreGood b m w ps

-- those up to an event are left; up to none there is none
abbrev pub kept_up_to : Option ℕ → Timeline Position → Timeline Position
kept_up_to None t = begun t.first
kept_up_to (Some event) t = cut_after event t

-- the lists that only grow, cut to what a position has of them
abbrev pub cut_to_last : Option Position → World → World
cut_to_last None w = w
cut_to_last (Some p) w = cut_to p.lengths w

-- ---- how a run adds to them

-- it is taken, where it is due
abbrev pub taken_if : Bool → Position → Timeline Position → Timeline Position
taken_if due p t = if due then with_position p t else t

-- whether a run owes a position after its last event: where none is stored there
abbrev pub is_owed : Bool → ℕ → List ℕ → Bool
is_owed faulted last counts = not faulted && not (ends_at last counts)

-- A run went on from so many events to its end: after the positions that there were stand those of
-- the multiples. Where it did not end in a fault it could go on from there.
pub record HasGoneOn (b : Behaviour) (m : Answers) (from : ℕ) (before new : Timeline Position)
    (w : World) (outcome : Outcome) : Type 0 where
  pub grew : from ≤ w.count
  pub faulted : is_fault outcome ≡ true → from < w.count
  pub lasts : is_fault outcome ≡ false → Running w ≡ after b m w.count
  pub counts : counts_in new ≡ behind is_multiple (counts_in before)
      (numbers_from (suc from) (lasting (is_fault outcome) w.count - from))

-- of the modules of a position the first one that has none of these boxes
abbrev pub lacking_at : Option Position → List Part → Option ℕ
lacking_at None boxes = None
lacking_at (Some p) boxes =
    option_map (λ (part : Part). part.id) (first_without boxes (standing p.modules))

-- Where a run waits before a start event, it began before that one, and no position is stored after
-- it.
abbrev pub HasAllBelow : Phase → List Position → Type 0
HasAllBelow Idle ps = Unit {0}
HasAllBelow (Waiting from Setup) ps = Unit {0}
HasAllBelow (Waiting from AtPosition) ps = Unit {0}
HasAllBelow (Waiting from (Start k id)) ps = AreBelow (suc k) ps × starts_within from k
HasAllBelow (Declined from Setup) ps = Unit {0}
HasAllBelow (Declined from AtPosition) ps = Unit {0}
HasAllBelow (Declined from (Start k id)) ps = AreBelow (suc k) ps × starts_within from k

-- ---- in a runner

module _ {C X : Type 0} {Y : X → Type 0} where
  -- its positions are good
  abbrev pub HasGood : Behaviour → Answers → Members X Y → Runner C X Y → Type 0
  HasGood b m members r = AreGood b m (world_in members r.kernel) r.positions.stored

  -- the run of the model goes on from where its kernel stands, which is up to the limit; numbers
  -- are far from running out
  pub record IsGoing (b : Behaviour) (m : Answers) (members : Members X Y) (limit : ℕ)
      (r : Runner C X Y) : Type 0 where
    pub going : Running (world_in members r.kernel) ≡ after b m (world_in members r.kernel).count
    pub within : (world_in members r.kernel).count ≤ limit
    pub room : HasRoom (world_in members r.kernel)
    pub good : HasGood b m members r
    pub below : AreBelow (suc (world_in members r.kernel).count) r.positions.stored
    pub stood : r.stood ≡ stood.After (world_in members r.kernel).count

  -- what the boxes are that wait for the start of their modules
  abbrev pub waiting_in : Members X Y → Runner C X Y → List BoxAt
  waiting_in members r = seats_held members r.waiting

  -- THE MODULES THAT WERE STARTED, and have their boxes
  abbrev pub standing_in : Members X Y → Runner C X Y → List Part
  standing_in members r = standing (world_in members r.kernel).modules

  -- those whose boxes wait for their start
  abbrev pub supplied_in : Members X Y → Runner C X Y → List Part
  supplied_in members r = parts_in (waiting_in members r)

  -- A run that waited before a start event can go on from there: its kernel stands there, with the
  -- boxes that wait, and its positions are those up to there.
  pub record CanGoOnWith (b : Behaviour) (m : Answers) (members : Members X Y) (limit : ℕ)
      (at : Resumed) (r : Runner C X Y) : Type 0 where
    pub paused : IsPaused b m (world_in members r.kernel) (waiting_in members r) at.count
    pub refused : refused_if b m (world_in members r.kernel) (waiting_in members r) at.declined
    pub within : at.count ≤ limit
    pub below : AreBelow (suc at.count) r.positions.stored
    pub began : starts_within at.from at.count

  -- A run that goes back to a position waits there: it has the boxes that stay, and needs one more.
  pub record IsHeldBack (b : Behaviour) (m : Answers) (members : Members X Y) (event : ℕ)
      (request : Request) (before after : Runner C X Y) : Type 0 where
    pub going : CanGoOn b m event
    pub none : waiting_in members after ≡ []
    pub kept : standing_in members after ≡ kept_back b m event (standing_in members before)
    pub wanted : needed_back b m event (kept_back b m event (standing_in members before))
        ≡ Some request
    pub positions : after.positions ≡ cut_after event before.positions
    pub stood : after.stood ≡ stood.After event

  -- A run has gone back to a position, and goes on from there: the boxes that stayed are enough.
  pub record HasGoneBack (b : Behaviour) (m : Answers) (members : Members X Y) (limit event : ℕ)
      (before after : Runner C X Y) : Type 0 where
    pub going : IsGoing b m members limit after
    pub count : (world_in members after.kernel).count ≡ event
    pub records : GoesOn (world_in members after.kernel).records
        (world_in members before.kernel).records
    pub none : waiting_in members after ≡ []
    pub needs_none : needed_back b m event (kept_back b m event (standing_in members before))
        ≡ None
    pub positions : after.positions ≡ cut_after event before.positions

  -- A run that went on from there waits for a box, after its last event.
  pub record IsHeldUpIn (b : Behaviour) (m : Answers) (members : Members X Y) (limit : ℕ)
      (before after : Runner C X Y) (request : Request) : Type 0 where
    pub held : IsHeldUp b m limit (world_in members before.kernel).count
        (supplied_in members before) (world_in members after.kernel) (waiting_in members after)
        request
    pub stood : after.stood ≡ stood.After (world_in members after.kernel).count
    pub counts : counts_in after.positions ≡ behind is_multiple (counts_in before.positions)
        (numbers_from (suc (world_in members before.kernel).count)
        ((world_in members after.kernel).count - (world_in members before.kernel).count))

  -- Its events are executed: no box was wanted.
  pub record IsRunOut (b : Behaviour) (m : Answers) (members : Members X Y) (limit : ℕ)
      (before after : Runner C X Y) (outcome : Outcome) : Type 0 where
    pub none : first_wait b m (world_in members before.kernel).count
        (limit - (world_in members before.kernel).count) (supplied_in members before) ≡ None
    pub ran : IsStopped b m limit (ran_in members outcome after.kernel)
    pub gone : HasGoneOn b m (world_in members before.kernel).count before.positions
        after.positions (world_in members after.kernel) outcome

  -- It has ended too: it is a fresh run, and has left its positions, and no box waits.
  pub record IsRunThrough (b : Behaviour) (m : Answers) (members : Members X Y) (limit : ℕ)
      (before after : Runner C X Y) (outcome : Outcome) : Type 0 where
    pub none : first_wait b m (world_in members before.kernel).count
        (limit - (world_in members before.kernel).count) (supplied_in members before) ≡ None
    pub whole : fresh_run b m limit ≡ ran_in members outcome after.kernel
    pub left : HasLeft (world_in members before.kernel).count (counts_in before.positions)
        (counts_in after.positions) (run_to b m limit)
    pub empty : waiting_in members after ≡ []

  abbrev pub HasRun : Behaviour → Answers → Members X Y → ℕ → Runner C X Y → Runner C X Y
      → RunStatus Outcome → Type 0
  HasRun b m members limit before after (status.Waits request) =
      IsHeldUpIn b m members limit before after request
  HasRun b m members limit before after (status.Done outcome) =
      IsRunOut b m members limit before after outcome

  abbrev pub HasRunOn : Behaviour → Answers → Members X Y → ℕ → Runner C X Y → Runner C X Y
      → RunStatus Outcome → Type 0
  HasRunOn b m members limit before after (status.Waits request) =
      IsHeldUpIn b m members limit before after request
  HasRunOn b m members limit before after (status.Done outcome) =
      IsRunThrough b m members limit before after outcome

  -- A run that was started waits, or has ended.
  pub record IsHeldUpSince (b : Behaviour) (m : Answers) (members : Members X Y) (limit : ℕ)
      (old : Timeline ℕ) (after : Runner C X Y) (request : Request) : Type 0 where
    pub held : IsHeldUp b m limit 0 [] (world_in members after.kernel) (waiting_in members after)
        request
    pub counts : counts_in after.positions
        ≡ positions_begun old None (suc (world_in members after.kernel).count - 0)

  pub record IsWhole (b : Behaviour) (m : Answers) (members : Members X Y) (limit : ℕ)
      (old : Timeline ℕ) (after : Runner C X Y) (outcome : Outcome) : Type 0 where
    pub none : first_wait b m 0 limit [] ≡ None
    pub known : first_unknown b (needed_in b m 0) ≡ None
    pub whole : fresh_run b m limit ≡ ran_in members outcome after.kernel
    pub empty : waiting_in members after ≡ []
    pub left : counts_in after.positions ≡ positions_after b m limit None old

  abbrev pub HasStarted : Behaviour → Answers → Members X Y → ℕ → Timeline ℕ → Runner C X Y
      → RunStatus Outcome → Type 0
  HasStarted b m members limit old after (status.Waits request) =
      IsHeldUpSince b m members limit old after request
  HasStarted b m members limit old after (status.Done outcome) =
      IsWhole b m members limit old after outcome

  -- Where there is a start the run waits there or goes on from there, and of the positions those up
  -- to it are left; else nothing has changed.
  abbrev pub IsBack : Behaviour → Answers → Members X Y → ℕ → Option ℕ → Runner C X Y
      → Runner C X Y → RunStatus (Option ℕ) → Type 0
  IsBack b m members limit start before after (status.Waits request) =
      (event : ℕ) × (start ≡ Some event) × IsHeldBack b m members event request before after
  IsBack b m members limit start before after (status.Done None) =
      (start ≡ None) × (after ≡ before)
  IsBack b m members limit start before after (status.Done (Some event)) =
      (start ≡ Some event) × HasGoneBack b m members limit event before after

  -- all but its kernel and its boxes stays
  abbrev pub IsBesideKernel : Runner C X Y → Runner C X Y → Type 0
  IsBesideKernel before after = (after.positions ≡ before.positions) × (after.stood ≡ before.stood)
