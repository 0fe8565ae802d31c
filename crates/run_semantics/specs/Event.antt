-- One event.
pub use Rattle.run_semantics.specs.Calls.{call_of, instance_in, with_state, changed, replied, called}
pub use Rattle.run_semantics.specs.Calls.{calling}
pub use Rattle.run_semantics.specs.Perform.{call_module}
use Rattle.std.specs.Prelude.{ℤ, pos, ◌+◌, List, []}
use Rattle.module_api.specs.declared.call.CallReason.TheVariants as prompt
use Rattle.module_api.specs.declared.message.Message.{Message}
use Rattle.module_api.specs.declared.message.Origin.TheVariants as origin
use Rattle.module_api.specs.Behaviour.{Behaviour}
use Rattle.model_questions.specs.declared.answer.Question.TheVariants.{BeyondLimit}
use Rattle.model_questions.specs.Answers.{Answers}
use Rattle.event_set.specs.declared.pending.Happening.{Happening}
use Rattle.event_set.specs.declared.pending.Happening.TheVariants.{Arrival, Delivery, Start, Timer}
use Rattle.event_set.specs.declared.pending.Pending.{Pending}
use Rattle.run_semantics.specs.Perform.{Flow}
use Rattle.run_semantics.specs.Starting.{start_modules, starting}
use Rattle.run_semantics.specs.World.{World, timed}

-- the message that arrives
abbrev pub message_by : ℤ → Happening → Message
message_by priority (Timer timer kind) =
    record { kind = kind; priority = priority; bits = 0; payload = []; origin = origin.Timer timer }
message_by priority (Arrival kind bits payload) = record {
  kind = kind;
  priority = priority;
  bits = bits;
  payload = payload;
  origin = origin.Outside;
}
message_by priority (Delivery d) = record {
  kind = d.kind;
  priority = priority;
  bits = d.bits;
  payload = d.payload;
  origin = origin.Gate d.gate d.index;
}
-- a start has none
message_by priority (Start last) =
    record { kind = pos 0; priority = priority; bits = 0; payload = []; origin = origin.Outside }

abbrev pub message_of : Pending → Message
message_of p = message_by p.priority p.what

-- the event that is taken out is counted: these are left
abbrev pub counted : Pending → List Pending → World → World
counted p rest w = record w { clock = p.time; count = w.count + 1; pending = rest }

-- it begins: it is asked whether the time limit allows it
abbrev pub begun : Pending → List Pending → World → World
begun p rest w = timed (BeyondLimit p.time) (counted p rest w)

-- what happens: modules that were created are started, or a module is called with a message
abbrev pub happens : Behaviour → Answers → Pending → Happening → World → Flow
happens b m p (Start last) w = start_modules b m (starting p.id last w) p.id w
happens b m p (Timer timer kind) w = call_module b m p.id (prompt.Message (message_of p)) w
happens b m p (Arrival kind bits payload) w = call_module b m p.id (prompt.Message (message_of p)) w
happens b m p (Delivery d) w = call_module b m p.id (prompt.Message (message_of p)) w

-- ONE EVENT, with those that are left to come after it
abbrev pub event : Behaviour → Answers → Pending → List Pending → World → Flow
event b m p rest w = happens b m p p.what (begun p rest w)
