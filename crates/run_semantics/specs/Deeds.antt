-- Where an event stands, and what modules do that asks nothing and calls no module.
use Rattle.std.specs.Prelude.{ℕ, ℤ, ◌+◌, nat_lt, true, List, [], ◌∷◌, ◌++◌, Option, Some, None}
use Rattle.std.specs.Prelude.{if◌then◌else◌}
use Rattle.sim_time.specs.Time.{time_sum}
use Rattle.module_api.specs.declared.reply.Action.{Action}
use Rattle.module_api.specs.declared.reply.Action.TheVariants.{Emit, RecordScalar, Send}
use Rattle.module_api.specs.declared.reply.Action.TheVariants.{SendDelayed, SendDirect, ScheduleAt}
use Rattle.module_api.specs.declared.reply.Action.TheVariants.{ScheduleAfter, Cancel, Create, Delete}
use Rattle.module_api.specs.declared.reply.Action.TheVariants.{Connect, Disconnect, End, Fail}
use Rattle.module_api.specs.declared.reply.Appointment.{Appointment}
use Rattle.module_api.specs.declared.reply.Schedule.{Schedule}
use Rattle.module_api.specs.Names.{is_scalar_name}
use Rattle.model_questions.specs.declared.answer.Answer.{Answer}
use Rattle.model_questions.specs.declared.answer.Question.{Question}
use Rattle.model_questions.specs.Answers.{Answers, answer_of}
use Rattle.model_questions.specs.Records.{path_of}
use Rattle.run_semantics.specs.declared.outcome.RunFault.{RunFault}
use Rattle.run_semantics.specs.declared.outcome.RunFault.TheVariants as fault
use Rattle.run_semantics.specs.declared.outcome.EventFlow.{EventFlow}
use Rattle.run_semantics.specs.declared.outcome.EventFlow.TheVariants.{GoOn, Stop, Break}
use Rattle.event_set.specs.declared.pending.Happening.TheVariants.{Timer}
use Rattle.event_set.specs.Order.{inserted}
use Rattle.event_set.specs.Timers.{has_timer, without_timer}
use Rattle.run_semantics.specs.World.{World, asked}

-- where an event stands: it goes on; the rest of it is discarded; or a fault, told with a path, has
-- ended the run
pub data Flow : Type 0 where
  On : (world : World) → Flow
  Stopped : (world : World) → Flow
  Broken : (world : World) (path : List ℕ) (fault : RunFault) → Flow

-- what a turn in code says of the world that it leaves
abbrev pub flow_of : EventFlow → World → Flow
flow_of GoOn w = On w
flow_of Stop w = Stopped w
flow_of (Break path f) w = Broken w path f

-- the next part of an event, where it goes on
infixl 10 ◌>>=◌
abbrev pub ◌>>=◌ : Flow → (World → Flow) → Flow
On w >>= f = f w
Stopped w >>= f = Stopped w
Broken w path fault >>= f = Broken w path fault

-- one part for each of these, in order
abbrev pub for_each : {X : Type 0} → (X → World → Flow) → List X → World → Flow
for_each part [] w = On w
for_each part (x ∷ xs) w = part x w >>= for_each part xs

-- A QUESTION that a run asks of its model: it is noted, and what goes on is told the answer
abbrev pub asking : Answers → Question → (Answer → World → Flow) → World → Flow
asking m q next w = next (answer_of m w.records q) (asked q w)

-- a fault of the module of that id
abbrev pub broken : ℕ → RunFault → World → Flow
broken id f w = Broken w (path_of w.records id) f

-- ---- deeds: actions that ask nothing and call no module

-- a timer of a module, with the priority and the kind of its message, at a time that is not before
-- now
abbrev pub scheduled_at : ℕ → ℕ → ℤ → ℤ → World → ℕ → Flow
scheduled_at id timer priority kind w time =
    if has_timer id timer w.pending then broken id fault.AlreadyScheduled w
    else On (record w {
      pending = inserted (record {
        time = time;
        priority = priority;
        number = w.next;
        id = id;
        what = Timer timer kind;
      }) w.pending;
      next = w.next + 1;
    })

-- from now on, where that is a time
abbrev pub scheduled : ℕ → Schedule → World → Option ℕ → Flow
scheduled id s w None = broken id fault.TimeOverflow w
scheduled id s w (Some time) = scheduled_at id s.timer s.priority s.kind w time

-- at a time of the run
abbrev pub appointed : ℕ → Appointment → World → Flow
appointed id a w = if nat_lt a.at w.clock then broken id fault.Past w
    else scheduled_at id a.timer a.priority a.kind w a.at

-- a timer is no more among the events to come, if it was
abbrev pub with_cancelled : ℕ → ℕ → World → World
with_cancelled id timer w = record w { pending = without_timer id timer w.pending }

-- a scalar more
abbrev pub with_scalar : ℕ → List ℕ → ℤ → World → World
with_scalar id name value w =
    record w { scalars = w.scalars ++ record { id = id; name = name; value = value } ∷ [] }

-- ONE DEED of the module of that id
abbrev pub deed : ℕ → Action → World → Flow
deed id (Emit signal value) w =
    On (record w {
      emissions = w.emissions ++ record {
        id = id;
        signal = signal;
        event = w.count;
        time = w.clock;
        value = value;
      } ∷ [];
    })
deed id (RecordScalar name value) w = if is_scalar_name name then On (with_scalar id name value w)
    else broken id fault.BadName w
deed id (ScheduleAt a) w = appointed id a w
deed id (ScheduleAfter s) w = scheduled id s w (time_sum w.clock s.delay)
deed id (Cancel timer) w = On (with_cancelled id timer w)
deed id (Fail text) w = broken id (fault.ModuleFailed text) w
deed id End w = Stopped (record w { ended = true })
-- what is sent, created, deleted or joined asks of the model or calls modules: it is no deed
deed id (Create c) w = On w
deed id (Delete path finish) w = On w
deed id (Connect from to link) w = On w
deed id (Disconnect place) w = On w
deed id (Send gate message) w = On w
deed id (SendDelayed gate message delay) w = On w
deed id (SendDirect place message flight) w = On w
