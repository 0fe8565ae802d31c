-- WHAT A MODULE DOES OVER A LIST OF CALLS: it answers each of them in the state that the last one
-- left. Whatever the calls are: nothing is said of what makes them.
use Rattle.std.specs.Prelude.{ℕ, ℤ, List, [], ◌∷◌, flat_map, if◌then◌else◌}
use Rattle.std.specs.Str.{bytes_eq}
use Rattle.module_api.specs.declared.call.Call.{Call}
use Rattle.module_api.specs.declared.message.Outgoing.{Outgoing}
use Rattle.module_api.specs.declared.reply.Action.{Action}
use Rattle.module_api.specs.declared.reply.Action.TheVariants.{Emit, Send, SendDelayed}
use Rattle.module_api.specs.declared.reply.Reply.{Reply}
use Rattle.module_api.specs.Behaviour.{Behaviour, Naming, State}
use Rattle.module_parts.specs.Asking.{AskingEnd, told, bare}
use Rattle.module_parts.specs.Scripts.{Script}

-- a call, and the reply to it
pub record Turn : Type 0 where
  pub call : Call
  pub reply : Reply

-- what becomes of one call, in that state
abbrev pub answered : {S : Type 0} → Script S → S → Call → AskingEnd S
answered script s call = told (script.asks s (bare call)) call

-- each call with its reply, from that state on
abbrev pub turns_from : {S : Type 0} → Script S → S → List Call → List Turn
turns_from script s [] = []
turns_from script s (call ∷ calls) =
    record { call = call; reply = (answered script s call).reply }
    ∷ turns_from script (answered script s call).state calls

-- the state that all of them leave
abbrev pub left_from : {S : Type 0} → Script S → S → List Call → S
left_from script s [] = s
left_from script s (call ∷ calls) = left_from script (answered script s call).state calls

-- the same, from the state that the module is in at first
abbrev pub turns : {S : Type 0} → Script S → List Call → List Turn
turns script calls = turns_from script script.initial calls

abbrev pub left_by : {S : Type 0} → Script S → List Call → S
left_by script calls = left_from script script.initial calls

-- the same, of a module whose states are bytes, from those on
abbrev pub turns_in : Naming → State → List Call → List Turn
turns_in naming state [] = []
turns_in naming state (call ∷ calls) =
    record { call = call; reply = (naming.reply state call).reply }
    ∷ turns_in naming (naming.reply state call).state calls

-- of a module of that kind of a catalogue, from its state at first on
abbrev pub turns_of_kind : Behaviour → List ℕ → List Call → List Turn
turns_of_kind b kind calls = turns_in (b.naming kind) (b.naming kind).initial calls

-- it holds of each of them
abbrev pub Each : {X : Type 0} → (X → Type 0) → List X → Type 0
Each P [] = Unit {0}
Each P (x ∷ xs) = P x × Each P xs

-- ---- what is done

-- the values of a signal that are emitted, in order
abbrev pub value_emitted : List ℕ → Action → List ℤ
value_emitted signal (Emit name value) = if bytes_eq name signal then value ∷ [] else []
value_emitted signal _ = []

abbrev pub values_in : List ℕ → List Action → List ℤ
values_in signal actions = flat_map (value_emitted signal) actions

abbrev pub emitted : List ℕ → List Turn → List ℤ
emitted signal ts = flat_map (λ (t : Turn). values_in signal t.reply.actions) ts

-- the messages that are sent through the gate of that name, at once or later, in order
abbrev pub message_sent : List ℕ → Action → List Outgoing
message_sent gate (Send own message) = if bytes_eq own.name gate then message ∷ [] else []
message_sent gate (SendDelayed own message delay) =
    if bytes_eq own.name gate then message ∷ [] else []
message_sent gate _ = []

abbrev pub messages_in : List ℕ → List Action → List Outgoing
messages_in gate actions = flat_map (message_sent gate) actions

abbrev pub sent_through : List ℕ → List Turn → List Outgoing
sent_through gate ts = flat_map (λ (t : Turn). messages_in gate t.reply.actions) ts
