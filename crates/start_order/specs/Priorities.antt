-- Priorities of what modules send and set.
use Rattle.std.specs.Prelude.{◌≤ℤ◌, ℕ, ℤ, List}
use Rattle.module_api.specs.Behaviour.{Behaviour, State}
use Rattle.module_api.specs.declared.call.Call.{Call}
use Rattle.module_api.specs.declared.call.CallReason.{CallReason}
use Rattle.module_api.specs.declared.call.CallReason.TheVariants.{Initialize, Message, Finish}
use Rattle.module_api.specs.declared.reply.Action.{Action}
use Rattle.module_api.specs.declared.reply.Action.TheVariants.{Emit, RecordScalar, Send}
use Rattle.module_api.specs.declared.reply.Action.TheVariants.{SendDelayed, SendDirect, ScheduleAt}
use Rattle.module_api.specs.declared.reply.Action.TheVariants.{ScheduleAfter, Cancel, Create, Delete}
use Rattle.module_api.specs.declared.reply.Action.TheVariants.{Connect, Disconnect, End, Fail}
use Rattle.run_semantics.specs.Creating.{least_priority}
use Rattle.run_semantics.specs.Laws.{Each}

-- a priority is no less than the least of 16 bits; that it is no greater than the greatest, nothing
-- rests on
abbrev pub IsShort : ℤ → Type 0
IsShort priority = least_priority ≤ℤ priority

-- any whole number
abbrev pub AnyPriority : ℤ → Type 0
AnyPriority priority = Unit {0}

-- where a module is called with a message, that holds of its priority
abbrev pub IsToldOf : (ℤ → Type 0) → CallReason → Type 0
IsToldOf S (Message message) = S message.priority
IsToldOf S (Initialize stage) = Unit {0}
IsToldOf S Finish = Unit {0}

-- where an action sends a message or sets a timer, that holds of its priority
abbrev pub SendsOf : (ℤ → Type 0) → Action → Type 0
SendsOf S (Send gate message) = S message.priority
SendsOf S (SendDelayed gate message delay) = S message.priority
SendsOf S (SendDirect place message flight) = S message.priority
SendsOf S (ScheduleAt a) = S a.priority
SendsOf S (ScheduleAfter s) = S s.priority
SendsOf S (Emit signal value) = Unit {0}
SendsOf S (RecordScalar name value) = Unit {0}
SendsOf S (Cancel timer) = Unit {0}
SendsOf S (Create c) = Unit {0}
SendsOf S (Delete path finish) = Unit {0}
SendsOf S (Connect from to link) = Unit {0}
SendsOf S (Disconnect place) = Unit {0}
SendsOf S End = Unit {0}
SendsOf S (Fail text) = Unit {0}

-- THE PRIORITIES OF REPLIES in a catalogue: where a module is called with no message but of the first
-- sort, it sends and sets nothing but of the second
pub record RepliesWith (told sent : ℤ → Type 0) (b : Behaviour) : Type 0 where
  pub replies : (kind : List ℕ) (state : State) (call : Call) → IsToldOf told call.prompt
      → Each (SendsOf sent) ((b.naming kind).reply state call).reply.actions
