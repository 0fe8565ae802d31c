-- What follows a reply.
use Rattle.std.specs.Prelude.{ℕ, nat_lt, Bool, true, false, List, [], ◌∷◌, Option, Some, None}
use Rattle.std.specs.Prelude.{if◌then◌else◌, length}
use Rattle.module_api.specs.declared.reply.Action.{Action}
use Rattle.module_api.specs.declared.reply.Action.TheVariants.{Emit, RecordScalar, Send}
use Rattle.module_api.specs.declared.reply.Action.TheVariants.{SendDelayed, SendDirect, ScheduleAt}
use Rattle.module_api.specs.declared.reply.Action.TheVariants.{ScheduleAfter, Cancel, Create, Delete}
use Rattle.module_api.specs.declared.reply.Action.TheVariants.{Connect, Disconnect, End, Fail}
use Rattle.module_api.specs.Actions.{has_large_payload}
use Rattle.module_api.specs.declared.reply.Read.{Read}
use Rattle.module_api.specs.declared.reply.Read.TheVariants as read
use Rattle.module_api.specs.declared.reply.Reply.{Reply}
use Rattle.model_questions.specs.declared.answer.Answer.{Answer}
use Rattle.model_questions.specs.declared.answer.Answer.TheVariants as answer
use Rattle.model_questions.specs.declared.answer.Question.{Question}
use Rattle.model_questions.specs.declared.answer.Question.TheVariants.{Param, GateSize}
use Rattle.model_questions.specs.Answers.{Answers, answer_of}
use Rattle.model_questions.specs.declared.record.Record.{Record}
use Rattle.run_semantics.specs.declared.outcome.RunFault.{RunFault}
use Rattle.run_semantics.specs.declared.outcome.RunFault.TheVariants as fault
use Rattle.run_semantics.specs.declared.occasions.Occasion.{Occasion}
use Rattle.run_semantics.specs.declared.occasions.Occasion.TheVariants as occasion
use Rattle.run_semantics.specs.Deeds.{Flow, broken, for_each}
use Rattle.run_semantics.specs.World.{World, asked}

-- ---- reads

-- the question that a read asks
abbrev pub question_of : ℕ → Read → Question
question_of id (read.Parameter name) = Param id name
question_of id (read.Gate name) = GateSize id name

-- all values that a reply used are asked, in order
abbrev pub ask_all : ℕ → List Read → World → World
ask_all id [] w = w
ask_all id (r ∷ rs) w = ask_all id rs (asked (question_of id r) w)

abbrev pub parameter_fault : Answer → Option RunFault
parameter_fault (answer.Value v) = None
parameter_fault (answer.Fault path f) = Some (fault.Model f)
parameter_fault (answer.Root name) = Some fault.NoParameter
parameter_fault (answer.Class class) = Some fault.NoParameter
parameter_fault (answer.Inside bs) = Some fault.NoParameter
parameter_fault (answer.Gate g) = Some fault.NoParameter
parameter_fault (answer.Next next) = Some fault.NoParameter
parameter_fault (answer.Beyond beyond) = Some fault.NoParameter
parameter_fault (answer.Injection i) = Some fault.NoParameter
parameter_fault answer.Absent = Some fault.NoParameter

abbrev pub gate_fault : Answer → Option RunFault
gate_fault (answer.Gate g) = None
gate_fault (answer.Root name) = Some fault.NoGate
gate_fault (answer.Class class) = Some fault.NoGate
gate_fault (answer.Inside bs) = Some fault.NoGate
gate_fault (answer.Value v) = Some fault.NoGate
gate_fault (answer.Next next) = Some fault.NoGate
gate_fault (answer.Fault path f) = Some fault.NoGate
gate_fault (answer.Beyond beyond) = Some fault.NoGate
gate_fault (answer.Injection i) = Some fault.NoGate
gate_fault answer.Absent = Some fault.NoGate

-- what is wrong with a read, by its answer
abbrev pub fault_of_read : Read → Answer → Option RunFault
fault_of_read (read.Parameter name) a = parameter_fault a
fault_of_read (read.Gate name) a = gate_fault a

abbrev pub first_fault : Option RunFault → Option RunFault → Option RunFault
first_fault (Some f) other = Some f
first_fault None other = other

-- the fault of the first read that has one
abbrev pub read_fault : Answers → List Record → ℕ → List Read → Option RunFault
read_fault m records id [] = None
read_fault m records id (r ∷ rs) =
    first_fault (fault_of_read r (answer_of m records (question_of id r)))
    (read_fault m records id rs)

-- whether an action is for a reply to the end
abbrev pub is_last_action : Action → Bool
is_last_action (Emit signal value) = true
is_last_action (RecordScalar name value) = true
is_last_action (Send gate message) = false
is_last_action (SendDelayed gate message delay) = false
is_last_action (SendDirect place message flight) = false
is_last_action (ScheduleAt a) = false
is_last_action (ScheduleAfter s) = false
is_last_action (Cancel timer) = true
is_last_action (Create c) = false
is_last_action (Delete path finish) = false
is_last_action (Connect from to link) = false
is_last_action (Disconnect place) = false
is_last_action End = false
is_last_action (Fail text) = true

-- whether a reply may have that action, by what the module is called for
abbrev pub is_allowed : Occasion → Action → Bool
is_allowed occasion.Event action = true
is_allowed occasion.Deletion action = is_last_action action
is_allowed occasion.End action = is_last_action action

-- an action of a reply, where it may have that, done so. A payload that is too large is told before
-- any other fault.
abbrev pub act : (Action → World → Flow) → Occasion → ℕ → Action → World → Flow
act does o id action w =
    if has_large_payload action then broken id fault.PayloadTooLarge w
    else (if is_allowed o action then does action w else broken id fault.NotInFinish w)

-- its actions, in order
abbrev pub act_all : (Action → World → Flow) → Occasion → ℕ → List Action → World → Flow
act_all does o id actions w = for_each (act does o id) actions w

-- ---- a reply

-- its actions, where there are at most 1,000
abbrev pub acted : (Action → World → Flow) → Occasion → ℕ → List Action → World → Flow
acted does o id actions w = if nat_lt 1000 (length actions) then broken id fault.TooManyActions w
    else act_all does o id actions w

-- whether the questions of what a reply read are noted: those of the end belong to no event
abbrev pub is_noted : Occasion → Bool
is_noted occasion.Event = true
is_noted occasion.Deletion = true
is_noted occasion.End = false

abbrev pub ask_noted : Occasion → ℕ → List Read → World → World
ask_noted o id reads w = if is_noted o then ask_all id reads w else w

abbrev pub unless_fault : ℕ → Option RunFault → (World → Flow) → World → Flow
unless_fault id (Some f) go w = broken id f w
unless_fault id None go w = go w

-- WHAT FOLLOWS A REPLY: all its reads are asked, then the first that has no value is the fault,
-- then its actions are performed in order, each as it is done
abbrev pub answered_by : Answers → (Action → World → Flow) → Occasion → ℕ → Reply → World → Flow
answered_by m does o id reply w =
    unless_fault id (read_fault m w.records id reply.reads) (acted does o id reply.actions)
    (ask_noted o id reply.reads w)
