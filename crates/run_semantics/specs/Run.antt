-- Whole runs.
pub use Rattle.run_semantics.specs.Building.{record_under, with_submodules, room_in, unless_many}
pub use Rattle.run_semantics.specs.Building.{created, inside_of, if_compound, compounds_from, built}
pub use Rattle.run_semantics.specs.Building.{set_up}
unfoldable pub use Rattle.run_semantics.specs.Building.{most_nested}
pub use Rattle.run_semantics.specs.Starting.{Part, with_class, parts_from, parts_of, needs_of, fresh}
pub use Rattle.run_semantics.specs.Starting.{with_instance, with_instances, placed, first_unknown}
pub use Rattle.run_semantics.specs.Starting.{unless_unknown, part_of, standing, stages_in}
pub use Rattle.run_semantics.specs.Starting.{most_stages, initialize, one_stage, stages_from}
pub use Rattle.run_semantics.specs.Starting.{with_started, started, place_parts, start_modules}
pub use Rattle.run_semantics.specs.Starting.{starting, unstarted}
use Rattle.std.specs.Prelude.{◌≡◌, ℕ, suc, zero, Bool, true, false, List, [], ◌∷◌, Option, Some}
use Rattle.std.specs.Prelude.{None, if◌then◌else◌}
use Rattle.module_api.specs.Behaviour.{Behaviour}
use Rattle.model_questions.specs.declared.answer.Answer.{Answer}
use Rattle.model_questions.specs.declared.answer.Answer.TheVariants as answer
use Rattle.model_questions.specs.declared.answer.Question.TheVariants.{Root, BeyondLimit}
use Rattle.model_questions.specs.Answers.{Answers, answer_of}
use Rattle.model_questions.specs.declared.record.Origin.TheVariants as origin
use Rattle.model_questions.specs.declared.record.Record.{Record}
use Rattle.sim_values.specs.declared.model_fault.ModelFault.TheVariants.{UnknownType}
use Rattle.run_semantics.specs.declared.outcome.RunFault.TheVariants as fault
use Rattle.run_semantics.specs.declared.outcome.Outcome.{Outcome}
use Rattle.run_semantics.specs.declared.outcome.Outcome.TheVariants.{Ended, EventLimit}
use Rattle.run_semantics.specs.declared.outcome.Outcome.TheVariants.{NoMoreEvents, TimeLimit, Fault}
use Rattle.event_set.specs.declared.pending.Happening.{Happening}
use Rattle.event_set.specs.declared.pending.Happening.TheVariants as happening
use Rattle.event_set.specs.declared.pending.Pending.{Pending}
use Rattle.run_semantics.specs.World.{World, empty}
use Rattle.run_semantics.specs.Perform.{Flow, On, Stopped, Broken, ◌>>=◌, asking}
use Rattle.run_semantics.specs.Event.{event}
use Rattle.run_semantics.specs.Upcoming.{Upcoming, Comes, Nothing, upcoming}

-- ---- setup

-- the network has the id 1
abbrev pub network_record : List ℕ → Record
network_record name =
    record { parent = 0; name = name; index = None; class = None; origin = origin.Built }

abbrev pub with_network : List ℕ → World → World
with_network name w = record w { records = network_record name ∷ [] }

-- the network, or the fault of one of its parameters
abbrev pub rooted : Answer → World → Flow
rooted (answer.Root name) w = On (with_network name w)
rooted (answer.Fault path f) w = Broken w path (fault.Model f)
rooted (answer.Class class) w = Broken w [] (fault.Model UnknownType)
rooted (answer.Inside bs) w = Broken w [] (fault.Model UnknownType)
rooted (answer.Value v) w = Broken w [] (fault.Model UnknownType)
rooted (answer.Gate g) w = Broken w [] (fault.Model UnknownType)
rooted (answer.Next next) w = Broken w [] (fault.Model UnknownType)
rooted (answer.Beyond beyond) w = Broken w [] (fault.Model UnknownType)
rooted (answer.Injection i) w = Broken w [] (fault.Model UnknownType)
rooted answer.Absent w = Broken w [] (fault.Model UnknownType)

-- the network is created and set up, as the model answers
abbrev pub root_asked : Answers → Flow
root_asked m = asking m Root rooted empty

abbrev pub prepared : Answers → Flow
prepared m = root_asked m >>= set_up most_nested m 1

-- ---- runs

-- a run between two events: it may go on, or it is over
pub data Stage : Type 0 where
  Running : (world : World) → Stage
  Over : (world : World) (outcome : Outcome) → Stage

-- what an outcome in code says of the world beside it
abbrev pub stage_of : Option Outcome → World → Stage
stage_of None w = Running w
stage_of (Some outcome) w = Over w outcome

-- its world
abbrev pub world_at : Stage → World
world_at (Running w) = w
world_at (Over w outcome) = w

-- the end of an event: a fault ends the run, and what was done before it stands
abbrev pub settled : Flow → Stage
settled (On w) = Running w
settled (Stopped w) = Running w
settled (Broken w path f) = Over w (Fault w.count path f)

-- the network is started, with all modules that live
abbrev pub start_all : Behaviour → Answers → World → Flow
start_all b m w = start_modules b m (unstarted w) 1 w

-- EVENT ZERO: setup, the boxes, and initialization
abbrev pub start : Behaviour → Answers → Stage
start b m = settled (prepared m >>= start_all b m)

-- whether the answer says that a time is later than the limit
abbrev pub says_beyond : Answer → Bool
says_beyond (answer.Beyond beyond) = beyond
says_beyond (answer.Root name) = false
says_beyond (answer.Class class) = false
says_beyond (answer.Inside bs) = false
says_beyond (answer.Value v) = false
says_beyond (answer.Gate g) = false
says_beyond (answer.Next next) = false
says_beyond (answer.Fault path f) = false
says_beyond (answer.Injection i) = false
says_beyond answer.Absent = false

-- whether an event to come is later than the option sim-time-limit allows
abbrev pub is_after_limit : Answers → List Record → Pending → Bool
is_after_limit m records p = says_beyond (answer_of m records (BeyondLimit p.time))

-- THE NEXT EVENT; where there is none, or it is too late, nothing is noted, and no injection counts
-- as delivered
abbrev pub went : Behaviour → Answers → World → Upcoming → Stage
went b m w (Nothing asked) = Over w NoMoreEvents
went b m w (Comes asked p rest) = if is_after_limit m asked.records p then Over w TimeLimit
    else settled (event b m p rest asked)

abbrev pub next_stage : Behaviour → Answers → Stage → Stage
next_stage b m (Running w) = if w.ended then Over w Ended else went b m w (upcoming m w)
next_stage b m (Over w outcome) = Over w outcome

-- the run after n events, or where it ended before
abbrev pub after : Behaviour → Answers → ℕ → Stage
after b m zero = start b m
after b m (suc n) = next_stage b m (after b m n)

-- what a run leaves: its world before the modules are finished, and its outcome
pub record Ran : Type 0 where
  pub world : World
  pub outcome : Outcome

-- a run that the caller's limit stops
abbrev pub stopped : Stage → Ran
stopped (Running w) = record { world = w; outcome = if w.ended then Ended else EventLimit }
stopped (Over w outcome) = record { world = w; outcome = outcome }

-- A RUN, stopped after at most n events
abbrev pub run_to : Behaviour → Answers → ℕ → Ran
run_to b m n = stopped (after b m n)

-- the run got as far as event n
abbrev pub IsReached : Stage → ℕ → Type 0
IsReached stage n = (world_at stage).count ≡ n

abbrev pub is_fault : Outcome → Bool
is_fault Ended = false
is_fault EventLimit = false
is_fault NoMoreEvents = false
is_fault TimeLimit = false
is_fault (Fault event path f) = true

-- ---- boxes that are wanted

-- those of the modules that an event starts
abbrev pub wanted_for : Pending → Happening → World → List Part
wanted_for p (happening.Start last) w = needs_of (starting p.id last w) w
wanted_for p (happening.Timer timer kind) w = []
wanted_for p (happening.Arrival kind bits payload) w = []
wanted_for p (happening.Delivery d) w = []

abbrev pub wanted_by : Answers → Upcoming → List Part
wanted_by m (Nothing w) = []
wanted_by m (Comes w p rest) = if is_after_limit m w.records p then [] else wanted_for p p.what w

-- THE BOXES THAT ARE WANTED between two events, by rising id: those that the next event needs,
-- where there is one
abbrev pub wanted : Answers → World → List Part
wanted m w = if w.ended then [] else wanted_by m (upcoming m w)
