-- A run that gets its boxes and gets on, and what it leaves.
use Rattle.std.specs.Prelude.{◌≡◌, ◌≤◌, ◌<◌, ◌^◌, ◌-◌, ◌==◌, bytes_eq, ℕ, zero, suc, nat_le, nat_lt}
use Rattle.std.specs.Prelude.{Bool, true, false, List, [], ◌∷◌, Option, Some, None, map, option_map}
use Rattle.std.specs.Prelude.{if◌then◌else◌}
use Rattle.std.specs.List.{filter}
use Rattle.module_api.specs.Behaviour.{Behaviour}
use Rattle.model_questions.specs.Answers.{Answers}
use Rattle.run_semantics.specs.declared.outcome.Outcome.{Outcome}
use Rattle.run_semantics.specs.World.{World, HasRoom}
use Rattle.run_semantics.specs.Perform.{Flow, On, Stopped, Broken}
use Rattle.run_semantics.specs.Run.{Part, first_unknown, prepared, standing, start, wanted, Over}
use Rattle.run_semantics.specs.Run.{Running}
use Rattle.run_semantics.specs.Run.{Ran, Stage, after, run_to, world_at}
use Rattle.run_semantics.specs.Ending.{ending}
use Rattle.kernel.specs.declared.request.Request.{Request}
use Rattle.kernel_boxes.specs.Seats.{BoxAt, instance_of}
use Rattle.kernel_boxes.specs.Staying.{first_without}
use Rattle.kernel.specs.Seats.{AreFirst, AreFresh, IsUnstarted, missing_of, missing_part, needs}
use Rattle.kernel.specs.Seats.{request_for}
use Rattle.kernel.specs.Starts.{wanted_of, AreFirstOf}
use Rattle.checkpoint_runs.specs.declared.phases.AtSetup.{AtSetup}
use Rattle.checkpoint_runs.specs.declared.phases.AtSetup.TheVariants.{Anew, Filling, Refused}
use Rattle.checkpoint_runs.specs.declared.phases.Ended.{Ended}
use Rattle.checkpoint_runs.specs.declared.phases.Phase.{Phase}
use Rattle.checkpoint_runs.specs.declared.phases.Phase.TheVariants.{Idle, Waiting, Declined}
use Rattle.checkpoint_runs.specs.declared.phases.Point.{Point}
use Rattle.checkpoint_runs.specs.declared.phases.Point.TheVariants.{Setup, Position, Start}
use Rattle.checkpoint_runs.specs.declared.phases.Progress.{Progress}
use Rattle.checkpoint_runs.specs.declared.phases.Progress.TheVariants as progress
use Rattle.checkpoint_runs.specs.declared.phases.Resumed.{Resumed}
use Rattle.checkpoint_runs.specs.declared.phases.RunStatus.{RunStatus}
use Rattle.checkpoint_runs.specs.declared.phases.RunStatus.TheVariants as status
use Rattle.checkpoint_runs.specs.declared.phases.Wait.{Wait}
use Rattle.checkpoints.specs.Stored.{Timeline}
use Rattle.checkpoint_runs.specs.Positions.{cut, first_behind, positions_after, positions_begun}
use Rattle.checkpoint_runs.specs.Positions.{behind, numbers_from, start_of, starts_within}
use Rattle.checkpoints.specs.Stored.{is_multiple}

-- A FRESH RUN of the model, stopped after at most so many events, with its ending
abbrev pub fresh_run : Behaviour → Answers → ℕ → Ran
fresh_run b m limit = ending b m (run_to b m limit)

-- ---- boxes that a run needs

-- the modules of boxes
abbrev pub parts_in : List BoxAt → List Part
parts_in seats = standing (map instance_of seats)

-- the box that a run needs next for its start once there are these: setup makes the modules, and of
-- those that need one the first without one is asked for
abbrev pub wanted_after : Flow → List Part → Option Request
wanted_after (On w) boxes = missing_of w boxes
wanted_after (Stopped w) boxes = None
wanted_after (Broken w path f) boxes = None

abbrev pub wanted_by : Answers → List Part → Option Request
wanted_by m boxes = wanted_after (prepared m) boxes

-- a box is that of one of these modules: of its id, and of its kind
abbrev pub is_one_of : List Part → Part → Bool
is_one_of [] box = false
is_one_of (p ∷ ps) box = if p.id == box.id then bytes_eq p.kind box.kind else is_one_of ps box

-- THE BOXES THAT STAY where a run goes back to that event: those of the modules that stood after it
abbrev pub kept_back : Behaviour → Answers → ℕ → List Part → List Part
kept_back b m event boxes = filter (is_one_of (standing (world_at (after b m event)).modules)) boxes

-- what is wanted where a run goes back to this world and there are these boxes: one for the first
-- of the modules that stand there and have none
abbrev pub wanted_back : World → List Part → Option Request
wanted_back w boxes = option_map (request_for w) (first_without boxes (standing w.modules))

abbrev pub needed_back : Behaviour → Answers → ℕ → List Part → Option Request
needed_back b m event boxes = wanted_back (world_at (after b m event)) boxes

-- what is wanted before the next event, where these boxes were supplied for it: one for the first of
-- the modules that it starts which has none
abbrev pub wanted_next : Answers → Stage → List Part → Option Request
wanted_next m (Running w) supplied = wanted_of w (wanted m w) supplied
wanted_next m (Over w outcome) supplied = None

-- ---- where a run waits

-- where a phase stands in event zero: a run is set up anew, unless one waits for the start of its
-- network, or was told that there is no such box
abbrev pub at_setup : Phase → AtSetup
at_setup (Waiting from Setup) = Filling
at_setup (Waiting from Position) = Anew
at_setup (Waiting from (Start count id)) = Anew
at_setup (Declined from Setup) = Refused
at_setup (Declined from Position) = Anew
at_setup (Declined from (Start count id)) = Anew
at_setup Idle = Anew

-- a run that waits there goes on with the boxes that were supplied; any other begins with none
abbrev pub kept_at_setup : AtSetup → List Part → List Part
kept_at_setup Anew supplied = []
kept_at_setup Filling supplied = supplied
kept_at_setup Refused supplied = supplied

-- once a box is declined no other is asked for
abbrev pub wanted_at_setup : AtSetup → Answers → List Part → Option Request
wanted_at_setup Anew m supplied = wanted_by m supplied
wanted_at_setup Filling m supplied = wanted_by m supplied
wanted_at_setup Refused m supplied = None

-- A RUN GOES ON where it waited before a start event, unless that is above the limit: it began
-- there, has executed so many events, and its box may have been declined
abbrev pub resumed_if : Bool → Resumed → Option Resumed
resumed_if true r = Some r
resumed_if false r = None

abbrev pub resumed : ℕ → Phase → Option Resumed
resumed limit (Waiting from (Start k id)) =
    resumed_if (nat_le k limit) (record { from = from; count = k; declined = false })
resumed limit (Declined from (Start k id)) =
    resumed_if (nat_le k limit) (record { from = from; count = k; declined = true })
resumed limit (Waiting from Setup) = None
resumed limit (Waiting from Position) = None
resumed limit (Declined from Setup) = None
resumed limit (Declined from Position) = None
resumed limit Idle = None

-- where it began
abbrev pub began_at : ℕ → Option Resumed → List ℕ → Option ℕ
began_at limit None stored = start_of limit stored
began_at limit (Some r) stored = r.from

-- THE FIRST EVENT THAT NEEDS A BOX, of so many after the event k: the number of events before it,
-- and what is wanted. Before the first of them these boxes were supplied, before each other none.
abbrev pub wait_or : ℕ → Option Request → Option (ℕ × Request) → Option (ℕ × Request)
wait_or k (Some request) later = Some (k, request)
wait_or k None later = later

abbrev pub first_wait : Behaviour → Answers → ℕ → ℕ → List Part → Option (ℕ × Request)
first_wait b m k zero supplied = None
first_wait b m k (suc more) supplied =
    wait_or k (wanted_next m (after b m k) supplied) (first_wait b m (suc k) more [])

-- the wait of a run that began there: where it begins, or else before the first event that needs a
-- box
abbrev pub wait_before : Option ℕ → ℕ × Request → Wait
wait_before from w = record { from = from; at = Start w.0 (Some w.1.id); request = w.1 }

abbrev pub wait_first : Option ℕ → Point → Option Request → Option (ℕ × Request) → Option Wait
wait_first from at (Some request) later = Some (record { from = from; at = at; request = request })
wait_first from at None later = option_map (wait_before from) later

-- of one that goes on
abbrev pub wait_onwards : Behaviour → Answers → ℕ → Resumed → List Part → Option Wait
wait_onwards b m limit r supplied = if r.declined then None
    else option_map (wait_before r.from) (first_wait b m r.count (limit - r.count) supplied)

-- of one that begins, with setup or at a position
abbrev pub wait_anew : Behaviour → Answers → ℕ → AtSetup → Option ℕ → List Part → List Part
    → Option Wait
wait_anew b m limit at None boxes supplied =
    wait_first None Setup (wanted_at_setup at m (kept_at_setup at supplied))
    (first_wait b m 0 limit [])
wait_anew b m limit at (Some event) boxes supplied =
    wait_first (Some event) Position (needed_back b m event (kept_back b m event boxes))
    (first_wait b m event (limit - event) [])

-- WHERE A RUN to that limit WAITS, and for which box; none: it is done. There are boxes of modules
-- that were started, and others that were supplied for a start.
abbrev pub wait_of : Behaviour → Answers → ℕ → AtSetup → Option Resumed → List ℕ → List Part
    → List Part → Option Wait
wait_of b m limit at (Some r) stored boxes supplied = wait_onwards b m limit r supplied
wait_of b m limit at None stored boxes supplied =
    wait_anew b m limit at (start_of limit stored) boxes supplied

-- ---- what a run keeps that waits

-- the boxes of its modules that were started
abbrev pub boxes_at : Behaviour → Answers → Option ℕ → Point → List Part → List Part
boxes_at b m from Setup boxes = []
boxes_at b m None Position boxes = boxes
boxes_at b m (Some event) Position boxes = kept_back b m event boxes
boxes_at b m from (Start k id) boxes = standing (world_at (after b m k)).modules

-- those that were supplied for the start before which it waits: they stay where it waited there
-- before
abbrev pub supplied_before : Option Resumed → ℕ → List Part → List Part
supplied_before None k supplied = []
supplied_before (Some r) k supplied = if r.count == k then supplied else []

abbrev pub supplied_at : AtSetup → Option Resumed → Point → List Part → List Part
supplied_at at r Setup supplied = kept_at_setup at supplied
supplied_at at r Position supplied = []
supplied_at at r (Start k id) supplied = supplied_before r k supplied

-- its positions: those up to where it began, and those that were due since
abbrev pub positions_at : ℕ → Option Resumed → Point → Timeline ℕ → Timeline ℕ
positions_at limit r Setup old = cut None old
positions_at limit r Position old = cut (start_of limit old.stored) old
positions_at limit None (Start k id) old = positions_begun old (start_of limit old.stored)
    (suc k - first_behind (start_of limit old.stored))
positions_at limit (Some r) (Start k id) old =
    behind is_multiple old (numbers_from (suc r.count) (k - r.count))

-- the last event whose questions are known
abbrev pub known_at : Option ℕ → Point → Option ℕ
known_at from Setup = None
known_at from Position = from
known_at from (Start k id) = Some k

-- whether a run waits that goes back to a position
abbrev pub is_back : Phase → Bool
is_back (Waiting from Setup) = false
is_back (Waiting from Position) = true
is_back (Waiting from (Start k id)) = false
is_back Idle = false
is_back (Declined from at) = false

-- a module among others, in its place by its id
abbrev pub with_part : Part → List Part → List Part
with_part p [] = p ∷ []
with_part p (q ∷ qs) = if nat_lt p.id q.id then p ∷ q ∷ qs else q ∷ with_part p qs

-- THE BOXES THAT A RUN LEAVES that is done: one for each simple module that stands in its end
abbrev pub boxes_left : Behaviour → Answers → ℕ → List Part
boxes_left b m limit = standing (fresh_run b m limit).world.modules

-- ---- what is left of a start for one of whose modules there is no box

-- of these modules those before the first one whose class the catalogue doesn't know
abbrev pub known_first : Behaviour → List Part → List Part
known_first b [] = []
known_first b (p ∷ ps) = if b.known p.kind then p ∷ known_first b ps else []

-- where there is such a one their start can't be made, and the boxes are those that were supplied
-- before it was asked for; else each of them has got its box, and none is left
abbrev pub left_unless : Option Part → List Part → List Part
left_unless None supplied = []
left_unless (Some unknown) supplied = supplied

abbrev pub left_of_start : Behaviour → List Part → List Part
left_of_start b parts = left_unless (first_unknown b parts) (known_first b parts)

-- the modules whose boxes event zero needs, and those whose boxes the event after a stage needs
abbrev pub needed_by_setup : Flow → List Part
needed_by_setup (On w) = needs w
needed_by_setup (Stopped w) = []
needed_by_setup (Broken w path f) = []

abbrev pub needed_next : Answers → Stage → List Part
needed_next m (Running w) = wanted m w
needed_next m (Over w outcome) = []

-- those whose boxes the event of that number needs
abbrev pub needed_in : Behaviour → Answers → ℕ → List Part
needed_in b m zero = needed_by_setup (prepared m)
needed_in b m (suc k) = needed_next m (after b m k)

-- THE BOXES FOR A START THAT A RUN LEAVES that is done: where its last event could not start its
-- modules those that were supplied for it, of the modules before the one that has none
abbrev pub supplied_left : Behaviour → Answers → ℕ → List Part
supplied_left b m limit = left_of_start b (needed_in b m (run_to b m limit).world.count)

-- ---- where a run stands

-- A network that was set up, and is not started: no module has a state, and the boxes that wait are
-- those of the first modules that need one.
pub record IsFilled (b : Behaviour) (m : Answers) (w : World) (waiting : List BoxAt) : Type 0 where
  pub prepared_is : On w ≡ prepared m
  pub next : w.next ≡ 0
  pub none : w.modules ≡ []
  pub unstarted : IsUnstarted w
  pub first : AreFirst b w waiting

-- the next box was declined
pub record IsDeclined (b : Behaviour) (m : Answers) (w : World)
    (waiting : List BoxAt) : Type 0 where
  pub filled : IsFilled b m w waiting
  pub part : Part
  pub missing : missing_part w (parts_in waiting) ≡ Some part
  pub unknown : b.known part.kind ≡ false

-- A run waits after so many events, before a start event: the boxes that wait are those of the first
-- modules that this one starts.
pub record IsPaused (b : Behaviour) (m : Answers) (w : World) (waiting : List BoxAt)
    (k : ℕ) : Type 0 where
  pub count : w.count ≡ k
  pub going : Running w ≡ after b m k
  pub room : HasRoom w
  pub first : AreFirstOf b (wanted m w) waiting

-- it asks for the box of that module, or none is asked for until it goes on
abbrev pub AsksFor : Answers → World → List BoxAt → Option ℕ → Type 0
AsksFor m w waiting None = Unit {0}
AsksFor m w waiting (Some id) =
    option_map (λ (r : Request). r.id) (wanted_of w (wanted m w) (parts_in waiting)) ≡ Some id

-- the next box for that start was declined
pub record IsRefused (b : Behaviour) (m : Answers) (w : World) (waiting : List BoxAt) : Type 0 where
  pub part : Part
  pub missing : first_without (parts_in waiting) (wanted m w) ≡ Some part
  pub unknown : b.known part.kind ≡ false

abbrev pub refused_if : Behaviour → Answers → World → List BoxAt → Bool → Type 0
refused_if b m w waiting true = IsRefused b m w waiting
refused_if b m w waiting false = Unit {0}

-- where a run stands
abbrev pub IsLive : Behaviour → Answers → World → List BoxAt → Phase → Type 0
IsLive b m w waiting Idle = Unit {0}
IsLive b m w waiting (Waiting from Setup) = IsFilled b m w waiting
IsLive b m w waiting (Waiting from Position) = waiting ≡ []
IsLive b m w waiting (Waiting from (Start k id)) =
    IsPaused b m w waiting k × AsksFor m w waiting id
IsLive b m w waiting (Declined from Setup) = IsDeclined b m w waiting
IsLive b m w waiting (Declined from Position) = ⊥
IsLive b m w waiting (Declined from (Start k id)) =
    IsPaused b m w waiting k × IsRefused b m w waiting

-- where it stands in event zero
abbrev pub IsLiveAtSetup : Behaviour → Answers → World → List BoxAt → AtSetup → Type 0
IsLiveAtSetup b m w waiting Anew = Unit {0}
IsLiveAtSetup b m w waiting Filling = IsFilled b m w waiting
IsLiveAtSetup b m w waiting Refused = IsDeclined b m w waiting

-- each module that needs a box has one that waits
pub record CanStart (b : Behaviour) (m : Answers) (w : World) (waiting : List BoxAt) : Type 0 where
  pub prepared_is : On w ≡ prepared m
  pub next : w.next ≡ 0
  pub none : w.modules ≡ []
  pub fresh : AreFresh b (needs w) waiting

-- a fresh run, stopped after at most n events, with its end
abbrev pub whole_run : Behaviour → Answers → ℕ → World → Outcome → Type 0
whole_run b m n w outcome = fresh_run b m n ≡ record { world = w; outcome = outcome }

-- A run of the model, stopped after at most so many events, left this; numbers are far from running
-- out.
pub record IsStopped (b : Behaviour) (m : Answers) (limit : ℕ) (ran : Ran) : Type 0 where
  pub room : HasRoom ran.world
  pub count : ran.world.count < 2 ^ 64
  pub ran_is : run_to b m limit ≡ ran

-- ---- how a run gets on

-- where a run stands that has its boxes, waits for one, or can't begin
abbrev pub Stands : Behaviour → Answers → List Part → World → List BoxAt
    → RunStatus (Option Outcome) → Type 0
Stands b m kept w waiting (status.Done (Some outcome)) =
    (Over w outcome ≡ start b m) × (w.modules ≡ [])
    × (parts_in waiting ≡ left_of_start b (needed_by_setup (prepared m)))
Stands b m kept w waiting (status.Waits request) =
    IsFilled b m w waiting × (missing_of w (parts_in waiting) ≡ Some request)
    × (parts_in waiting ≡ kept)
Stands b m kept w waiting (status.Done None) = CanStart b m w waiting

-- what it waits for is what is wanted; it doesn't go on while there is such a box
abbrev pub Wants : Option Request → RunStatus (Option Outcome) → Type 0
Wants wanted (status.Waits request) = wanted ≡ Some request
Wants wanted (status.Done over) = wanted ≡ None

-- A run that went on after so many events, with these boxes supplied, waits before a start event.
pub record IsHeldUp (b : Behaviour) (m : Answers) (limit from : ℕ) (supplied : List Part)
    (w : World) (waiting : List BoxAt) (request : Request) : Type 0 where
  pub paused : IsPaused b m w waiting w.count
  pub grew : from ≤ w.count
  pub within : w.count < limit
  pub kept : parts_in waiting ≡ (if from == w.count then supplied else [])
  pub asks : wanted_of w (wanted m w) (parts_in waiting) ≡ Some request
  pub wait : first_wait b m from (limit - from) supplied ≡ Some (w.count, request)

-- A RUN WAITS, and where: of its boxes and positions there are those that it keeps there.
pub record IsWaiting (b : Behaviour) (m : Answers) (limit : ℕ) (at : AtSetup) (r : Option Resumed)
    (boxes supplied : List Part) (old : Timeline ℕ) (w : World) (waiting : List BoxAt)
    (new : Timeline ℕ) (wait : Wait) : Type 0 where
  pub is : wait_of b m limit at r old.stored boxes supplied ≡ Some wait
  pub live : IsLive b m w waiting (Waiting wait.from wait.at)
  pub boxes_are : standing w.modules ≡ boxes_at b m wait.from wait.at boxes
  pub supplied_are : parts_in waiting ≡ supplied_at at r wait.at supplied
  pub positions : new ≡ positions_at limit r wait.at old
  pub began : wait.from ≡ began_at limit r old.stored

-- A RUN IS DONE, and has left its positions. Boxes wait only where it could not start their modules.
pub record IsEnded (b : Behaviour) (m : Answers) (limit : ℕ) (at : AtSetup) (r : Option Resumed)
    (boxes supplied : List Part) (old : Timeline ℕ) (w : World) (waiting : List BoxAt)
    (new : Timeline ℕ) (ended : Ended) : Type 0 where
  pub none : wait_of b m limit at r old.stored boxes supplied ≡ None
  pub whole : whole_run b m limit w ended.outcome
  pub left : parts_in waiting ≡ supplied_left b m limit
  pub began : ended.start ≡ began_at limit r old.stored
  pub within : starts_within ended.start w.count
  pub positions : new ≡ positions_after b m limit r old

-- where a run is after it was asked for, with the boxes and positions before and after
abbrev pub Advances : Behaviour → Answers → ℕ → AtSetup → Option Resumed → List Part → List Part
    → Timeline ℕ → World → List BoxAt → Timeline ℕ → Progress → Type 0
Advances b m limit at r boxes supplied old w waiting new (progress.Waits wait) =
    IsWaiting b m limit at r boxes supplied old w waiting new wait
Advances b m limit at r boxes supplied old w waiting new (progress.Done ended) =
    IsEnded b m limit at r boxes supplied old w waiting new ended

-- how far a run is that began there and has executed so many events
abbrev pub progress_of : Option ℕ → ℕ → RunStatus Outcome → Progress
progress_of from count (status.Waits request) =
    progress.Waits (record { from = from; at = Start count (Some request.id); request = request })
progress_of from count (status.Done outcome) =
    progress.Done (record { start = from; outcome = outcome })
