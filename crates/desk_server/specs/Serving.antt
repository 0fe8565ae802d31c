-- A desk with a client, from one turn to the next.
use Rattle.std.specs.Prelude.{◌≡◌, ◌⊎◌, ◌≤◌, ◌<◌, ◌^◌, ℕ, suc, ◌+◌, ◌-◌, ◌*◌, List, [], ◌∷◌, ◌++◌}
use Rattle.std.specs.Prelude.{length, Option, Some, None, IsSome, option_map}
use Rattle.module_api.specs.Behaviour.{Behaviour}
use Rattle.model_data.specs.declared.model.Model.{Model}
use Rattle.desk_commands.specs.declared.commands.Command.{Command}
use Rattle.desk_commands.specs.declared.commands.Command.TheVariants as command
use Rattle.module_network.specs.Library.{box_of}
use Rattle.module_network.specs.declared.library.LibraryModule.{LibraryModule}
use Rattle.edit_session.specs.Editing.{Completed, Editing, completed, declined_at, wait_in}
use Rattle.edit_session.specs.Editing.{wanted_of, IsFor}
use Rattle.edit_session.specs.Files.{scalars_of_run, vectors_of_run}
use Rattle.model_questions.specs.Answers.{Answers}
use Rattle.model_answers.specs.Answering.{answers_of}
use Rattle.checkpoints.specs.Stored.{Timeline}
use Rattle.checkpoint_runs.specs.Positions.{cut, first_behind, positions_begun, start_of}
use Rattle.checkpoint_runs.specs.Positions.{starts_within, CanGoOn}
use Rattle.checkpoint_runs.specs.Running.{at_setup, positions_at, resumed}
use Rattle.kernel_boxes.specs.Seats.{Members}
use Rattle.desk_answers.specs.Turns.{editing_at, IsSettled}
use Rattle.checkpoint_runs.specs.declared.phases.Phase.{Phase}
use Rattle.checkpoint_runs.specs.declared.phases.Phase.TheVariants.{Idle, Waiting, Declined}
use Rattle.checkpoint_runs.specs.declared.phases.Point.TheVariants as point
use Rattle.checkpoint_runs.specs.declared.phases.Resumed.{Resumed}
use Rattle.checkpoint_runs.specs.declared.phases.Wait.{Wait}
use Rattle.desk_server.specs.Boxes.{left_of, most_turns}
use Rattle.desk_server.specs.Served.{Machine, AreHeard, BeginsToHear, Hears, HearsRun, IsBroken}
use Rattle.desk_server.specs.Served.{command_asked}
use Rattle.transcripts.specs.Heard.{Heard}
use Rattle.transcripts.specs.declared.asked.AskedLine.{AskedLine}
use Rattle.desk_server.specs.declared.serving.Next.{Next}
use Rattle.desk_server.specs.declared.serving.Next.TheVariants as next
use Rattle.desk_server.specs.declared.serving.Server.{Server}
use Rattle.desk_client.specs.declared.clients.ServeEnd.{ServeEnd}
use Rattle.desk_client.specs.declared.clients.ServeEnd.TheVariants as stop
use Rattle.desk_server.specs.declared.serving.ServerStep.{ServerStep}
use Rattle.desk_server.specs.declared.serving.ServerStep.TheVariants as turn

-- what is seen of a desk with a client: its session; what the client asked and heard, and how often
-- it may still ask; and the limit of the run that is going on, if there is one
pub record Seen : Type 0 where
  pub editing : Editing
  pub asked : List AskedLine
  pub heard : List Heard
  pub may : ℕ
  pub running : Option ℕ

abbrev pub seen : Editing → List AskedLine → List Heard → ℕ → Option ℕ → Seen
seen e asked heard may running =
    record { editing = e; asked = asked; heard = heard; may = may; running = running }

-- ---- what stays true

-- The session is where the plain machine is: no run waits.
pub record IsAt (b : Behaviour) (e : Editing) (s : Machine) : Type 0 where
  pub model : e.model ≡ s.model
  pub done : e.done ≡ option_map (completed b s.model) s.last
  pub idle : e.phase ≡ Idle
  pub held : length e.boxes + length e.supplied ≡ s.held
  pub known : e.known ≡ s.known
  pub positions : e.positions ≡ s.positions

-- A run that begins does so at the same position of the session and of the plain machine, and up to
-- there the same ones stay, with the same interval.
pub record BeginsAlike (limit : ℕ) (old machine : Timeline ℕ) : Type 0 where
  pub start : start_of limit old.stored ≡ start_of limit machine.stored
  pub kept : cut (start_of limit old.stored) old ≡ cut (start_of limit machine.stored) machine

-- A run that waited goes on. It began where one of the plain machine would begin, and of the
-- positions those are stored that were due from there up to so many events.
pub record GoesOnAlike (b : Behaviour) (m : Answers) (limit : ℕ) (r : Resumed)
    (old machine : Timeline ℕ) : Type 0 where
  pub going : CanGoOn b m r.count
  pub limited : r.count ≤ limit
  pub start : start_of limit machine.stored ≡ r.from
  pub within : starts_within r.from r.count
  pub positions : old ≡ positions_begun machine r.from (suc r.count - first_behind r.from)

abbrev pub StartsAlike : Behaviour → Answers → ℕ → Option Resumed → Timeline ℕ → Timeline ℕ → Type 0
StartsAlike b m limit None old machine = BeginsAlike limit old machine
StartsAlike b m limit (Some r) old machine = GoesOnAlike b m limit r old machine

-- A RUN to that limit IS THE SAME of the session and of the plain machine, of which it is a fresh
-- one: of the same model, and it begins alike, or goes on.
pub record RunsAlike (b : Behaviour) (limit : ℕ) (e : Editing) (s : Machine) : Type 0 where
  pub model : e.model ≡ s.model
  pub starts : StartsAlike b (answers_of s.model) limit (resumed limit e.phase) e.positions
      s.positions

-- All that was asked is heard.
pub record IsServed (b : Behaviour) (s : Machine) (v : Seen) : Type 0 where
  pub machine : Machine
  pub at : IsAt b v.editing machine
  pub heard : AreHeard b s v.asked v.heard machine

-- A run to that limit was asked last, and goes on; all before is heard.
pub record IsGoing (b : Behaviour) (s : Machine) (limit : ℕ) (v : Seen) : Type 0 where
  pub before : List AskedLine
  pub last : AskedLine
  pub all : v.asked ≡ before ++ last ∷ []
  pub runs : command_asked last ≡ command.Run limit
  pub machine : Machine
  pub alike : RunsAlike b limit v.editing machine
  pub heard : AreHeard b s before v.heard machine

abbrev pub StandsBy : Option ℕ → Behaviour → Machine → Seen → Type 0
StandsBy None b s v = IsServed b s v
StandsBy (Some limit) b s v = IsGoing b s limit v

-- what was asked is heard, but for a run that goes on
abbrev pub Stands : Behaviour → Machine → Seen → Type 0
Stands b s v = StandsBy v.running b s v

-- it did, and it does still
abbrev pub GoesOnServing : Behaviour → Seen → Seen → Type 0
GoesOnServing b before after = (s : Machine) → Stands b s before → Stands b s after

-- ---- what is left to be done

abbrev pub left_in_run : Behaviour → ℕ → Editing → ℕ
left_in_run b limit e = left_of b e.model limit (at_setup e.phase) (resumed limit e.phase)
    e.positions.stored e.boxes e.supplied

abbrev pub going : Behaviour → Option ℕ → Editing → ℕ
going b None e = 0
going b (Some limit) e = left_in_run b limit e + 1

-- how many turns are left at most: for each thing that may be asked as many as a run may take, and
-- three more
abbrev pub left_seen : Behaviour → Seen → ℕ
left_seen b v = v.may * (most_turns + 3) + going b v.running v.editing

-- ---- how it ends

-- all that was asked is heard; or not all of the last
abbrev pub EndsServing : Behaviour → Machine → Seen → ServeEnd → Type 0
EndsServing b s v stop.End = IsServed b s v
EndsServing b s v stop.Gone = IsServed b s v ⊎ IsBroken b s v.asked v.heard
EndsServing b s v (stop.Device page written) = IsBroken b s v.asked v.heard

abbrev pub Ends : Behaviour → Machine → List AskedLine → List Heard → ServeEnd → Type 0
Ends b s asked heard stop.End = (s' : Machine) × AreHeard b s asked heard s'
Ends b s asked heard stop.Gone = ((s' : Machine) × AreHeard b s asked heard s')
    ⊎ IsBroken b s asked heard
Ends b s asked heard (stop.Device page written) = IsBroken b s asked heard

-- A client is served no more only where that is true of it which it says of the reason.
abbrev pub MayStopAt : (ServeEnd → Type 0) → Next → Type 0
MayStopAt stops next.GoOn = Unit {0}
MayStopAt stops (next.Stop why) = stops why

abbrev pub MayStopIn : (ServeEnd → Type 0) → ServerStep → Type 0
MayStopIn stops (turn.Need made) = Unit {0}
MayStopIn stops (turn.Over n) = MayStopAt stops n

-- one thing is heard, or the client is gone
abbrev pub HearsOne : Heard → List Heard → List Heard → Next → Type 0
HearsOne h before after next.GoOn = after ≡ before ++ h ∷ []
HearsOne h before after (next.Stop stop.Gone) = after ≡ before
HearsOne h before after (next.Stop _) = ⊥

-- ---- turns

abbrev pub IsNextServing : Behaviour → Seen → Seen → Next → Type 0
IsNextServing b before after next.GoOn =
    GoesOnServing b before after × (left_seen b after < left_seen b before)
IsNextServing b before after (next.Stop why) = (s : Machine) → Stands b s before
    → EndsServing b s after why

-- a run to that limit waits where it begins, or before an event that is not after the limit
abbrev pub WaitsAt : ℕ → List ℕ → Phase → Type 0
WaitsAt limit stored (Waiting from point.Setup) = start_of limit stored ≡ None
WaitsAt limit stored (Waiting from point.Position) =
    (event : ℕ) × (from ≡ Some event) × (start_of limit stored ≡ Some event)
WaitsAt limit stored (Waiting from (point.Start k id)) = k ≤ limit
WaitsAt limit stored Idle = ⊥
WaitsAt limit stored (Declined from at) = ⊥

-- the run to that limit goes on, and waits there
abbrev pub IsHeldAt : Option ℕ → Editing → Type 0
IsHeldAt None e = ⊥
IsHeldAt (Some limit) e = WaitsAt limit e.positions.stored e.phase

-- A run waits for a box, and a module was made for it.
pub record NeedsBox (b : Behaviour) (before after : Seen) (made : LibraryModule) : Type 0 where
  pub goes_on : GoesOnServing b before after
  pub wanted : IsFor b (wanted_of b after.editing) (box_of made)
  pub waits : IsSome (wanted_of b after.editing)
  pub going : IsHeldAt after.running after.editing
  pub left : left_seen b after ≤ left_seen b before

abbrev pub IsServingTurn : Behaviour → Seen → Seen → ServerStep → Type 0
IsServingTurn b before after (turn.Need made) = NeedsBox b before after made
IsServingTurn b before after (turn.Over n) = IsNextServing b before after n

-- ---- what a command comes to that is asked where no run goes on

-- All of it is heard, and the session is where the machine then is.
abbrev pub IsHeardNow : Behaviour → Command → Seen → Seen → Type 0
IsHeardNow b c before after = (s : Machine) → IsAt b before.editing s
    → (front : List Heard) × (s' : Machine) × (after.heard ≡ before.heard ++ front)
    × Hears b s c front s' × IsAt b after.editing s'

-- The same of a run, whatever was done before.
abbrev pub IsHeardRun : Behaviour → ℕ → Seen → Seen → Type 0
IsHeardRun b limit before after = (after.asked ≡ before.asked) × (after.may ≡ before.may)
    × (after.running ≡ None)
    × ((s : Machine) → RunsAlike b limit before.editing s
    → (front : List Heard) × (s' : Machine) × (after.heard ≡ before.heard ++ front)
    × HearsRun b s limit front s' × IsAt b after.editing s')

-- The first part of it is heard, or nothing, and no more, wherever the machine may be.
pub record IsCutOff (b : Behaviour) (c : Command) (may_be : Machine → Type 0)
    (before after : Seen) : Type 0 where
  pub asked : after.asked ≡ before.asked
  pub more : List Heard
  pub heard : after.heard ≡ before.heard ++ more
  pub begins : (s : Machine) → may_be s → BeginsToHear b s c more

abbrev pub HearsNext : Behaviour → Command → Seen → Seen → Next → Type 0
HearsNext b c before after next.GoOn =
    (after.asked ≡ before.asked) × (after.may ≡ before.may) × (after.running ≡ None)
    × IsHeardNow b c before after
HearsNext b c before after (next.Stop stop.End) = ⊥
HearsNext b c before after (next.Stop why) = IsCutOff b c (IsAt b before.editing) before after

-- the files of the last run, where one is done
abbrev pub AreFilled : Behaviour → Model → Option Completed → List ℕ → List ℕ → Type 0
AreFilled b m None scalars vectors = ⊥
AreFilled b m (Some done) scalars vectors =
    (scalars ≡ scalars_of_run b m done.limit) × (vectors ≡ vectors_of_run b m done.limit)

-- ---- a server

module _ {O K X : Type 0} {Y : X → Type 0} where
  -- what is seen of a server, by what its client says of itself
  abbrev pub seen_in : Members X Y → (K → List AskedLine) → (K → List Heard) → (K → ℕ)
      → Server O K X Y → Seen
  seen_in members asked heard may server = seen (editing_at members server.desk)
      (asked server.client) (heard server.client) (may server.client) server.running

  -- what it keeps
  abbrev pub IsServer : Behaviour → Members X Y → Server O K X Y → Type 0
  IsServer b members server = IsSettled b members server.desk

  -- What each step that answers a command takes for granted.
  pub record IsReady (b : Behaviour) (members : Members X Y) (keeps : K → Type 0)
      (server : Server O K X Y) : Type 0 where
    -- the desk keeps what it keeps
    pub sound : IsServer b members server
    -- no run goes on
    pub idle : server.running ≡ None
    -- the client keeps true of itself what it says
    pub kept : keeps server.client

  -- What each step comes to, by what the client says of itself. The step's own relation, and which
  -- of its answers end it, are handed over: it answers a `Next` or a `ServerStep`.
  pub record Serves {R : Type 0} (b : Behaviour) (members : Members X Y)
      (asked_of : K → List AskedLine) (heard_of : K → List Heard) (may_ask : K → ℕ)
      (keeps : K → Type 0) (label_of : K → ℕ) (stops_of : K → ServeEnd → Type 0)
      (may_stop : (ServeEnd → Type 0) → R → Type 0) (is_step : Seen → Seen → R → Type 0)
      (before after : Server O K X Y) (answer : R) : Type 0 where
    -- the client keeps true of itself what it says
    pub kept : keeps after.client
    -- its label is that from before
    pub label : label_of after.client ≡ label_of before.client
    -- it is served no more only where that is true of it which it says of the reason
    pub stops : may_stop (stops_of after.client) answer
    -- the desk keeps what it keeps
    pub sound : IsServer b members after
    -- what is seen before and after the step, and what it answers, are as its relation says
    pub comes : is_step (seen_in members asked_of heard_of may_ask before)
        (seen_in members asked_of heard_of may_ask after) answer

  -- The client hears this, an answer or that memory ran out, or is gone, and nothing else changes
  -- but which run goes on.
  pub record Tells (asked_of : K → List AskedLine) (heard_of : K → List Heard) (may_ask : K → ℕ)
      (keeps : K → Type 0) (label_of : K → ℕ) (stops_of : K → ServeEnd → Type 0) (told : Heard)
      (goes_on : Option ℕ) (before after : Server O K X Y) (answer : Next) : Type 0 where
    -- the client keeps true of itself what it says
    pub kept : keeps after.client
    -- its label is that from before
    pub label : label_of after.client ≡ label_of before.client
    -- it is served no more only where that is true of it which it says of the reason
    pub stops : MayStopAt (stops_of after.client) answer
    -- the desk is that from before
    pub desk : after.desk ≡ before.desk
    -- the limit of the run that goes on, if there is one
    pub running : after.running ≡ goes_on
    -- it asked nothing
    pub asked : asked_of after.client ≡ asked_of before.client
    -- it may ask as often as before
    pub left : may_ask after.client ≡ may_ask before.client
    -- it heard what it is told, or is gone
    pub heard : HearsOne told (heard_of before.client) (heard_of after.client) answer

-- ---- runs

-- where it stands that waits there: it waits still, or was told that there is no such box
abbrev pub StandsThere : Wait → Phase → Type 0
StandsThere wait phase =
    (phase ≡ Waiting wait.from wait.at) ⊎ (phase ≡ Declined wait.from wait.at)

-- It waits for a box that is missing first, or was told that there is none: of the positions those
-- are left that it has up to there.
pub record WaitsIn (b : Behaviour) (before after : Seen) (limit : ℕ) : Type 0 where
  pub asked : after.asked ≡ before.asked
  pub heard : after.heard ≡ before.heard
  pub may : after.may ≡ before.may
  pub running : after.running ≡ Some limit
  pub limited : limit < 2 ^ 64
  pub model : after.editing.model ≡ before.editing.model
  pub wait : Wait
  pub is : wait_in b before.editing limit ≡ Some wait
  pub phase : StandsThere wait after.editing.phase
  pub positions : after.editing.positions
      ≡ positions_at limit (resumed limit before.editing.phase) wait.at before.editing.positions

-- a box is made for what the run waits for, or there may be no such box, and the run is told so
abbrev pub IsMetIn : Behaviour → Editing → Editing → ServerStep → Type 0
IsMetIn b before after (turn.Need made) =
    (after ≡ before) × IsFor b (wanted_of b after) (box_of made)
IsMetIn b before after (turn.Over next.GoOn) =
    after ≡ record before { phase = declined_at before.phase }
IsMetIn b before after (turn.Over (next.Stop why)) = ⊥

-- A run to that limit is done and its answer is heard, or memory ran out; it waits for a box of
-- what is made, or was told that there is none; or the client is gone.
abbrev pub IsRunIn : Behaviour → ℕ → Seen → Seen → ServerStep → Type 0
IsRunIn b limit before after (turn.Need made) =
    WaitsIn b before after limit × IsFor b (wanted_of b after.editing) (box_of made)
    × IsSome (wanted_of b after.editing) × IsHeldAt (Some limit) after.editing
    × (left_in_run b limit after.editing ≤ left_in_run b limit before.editing)
IsRunIn b limit before after (turn.Over next.GoOn) =
    (WaitsIn b before after limit
    × (left_in_run b limit after.editing < left_in_run b limit before.editing))
    ⊎ IsHeardRun b limit before after
IsRunIn b limit before after (turn.Over (next.Stop stop.Gone)) =
    IsCutOff b (command.Run limit) (RunsAlike b limit before.editing) before after
IsRunIn b limit before after (turn.Over (next.Stop _)) = ⊥

-- What a command comes to that is asked where no run goes on: a run goes on or is heard; all else
-- is heard at once.
abbrev pub ComesTo : Behaviour → Command → Seen → Seen → ServerStep → Type 0
ComesTo b (command.Run limit) before after t = IsRunIn b limit before after t
ComesTo b c before after (turn.Over n) = HearsNext b c before after n
ComesTo b c before after (turn.Need made) = ⊥
