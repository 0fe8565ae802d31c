-- A MODULE BEFORE A CHANNEL, as time goes on: when its timer comes, and until when the channel
-- behind its gate `out` is busy.
use Rattle.std.specs.Prelude.{◌≡◌, ℕ, ◌+◌, ◌≤◌, ◌==◌, ◌&&◌, pos, Bool, false, List, [], ◌∷◌, Option}
use Rattle.std.specs.Prelude.{Some, None, IfSome, IsTrue, codes, if◌then◌else◌}
use Rattle.std.specs.Str.{bytes_eq}
use Rattle.sim_time.specs.Time.{IsTime}
use Rattle.sim_values.specs.declared.value.Dimension.TheVariants.{Rate}
use Rattle.sim_values.specs.declared.value.Value.TheVariants.{Quantity}
use Rattle.module_api.specs.declared.call.Call.{Call}
use Rattle.module_api.specs.declared.call.CallReason.{CallReason}
use Rattle.module_api.specs.declared.call.CallReason.TheVariants as prompt
use Rattle.module_api.specs.declared.reply.Action.{Action}
use Rattle.module_api.specs.declared.reply.Action.TheVariants.{Send, SendDelayed, ScheduleAt}
use Rattle.module_api.specs.declared.reply.Action.TheVariants.{ScheduleAfter, Cancel}
use Rattle.module_api.specs.Values.{value_of}
use Rattle.module_parts.specs.Cues.{is_timer}
use Rattle.channels.specs.Travel.{duration_of, is_busy}
use Rattle.network_laws.specs.Played.{Turn}

-- the time; when the module's timer 0 comes, where it is set; and when the last transmission on the
-- channel ends, where there was one
pub record Line : Type 0 where
  pub time : ℕ
  pub due : Option ℕ
  pub busy_until : Option ℕ

-- before all calls
abbrev pub unused : Line
unused = record { time = 0; due = None; busy_until = None }

abbrev pub with_due : Option ℕ → Line → Line
with_due due l = record { time = l.time; due = due; busy_until = l.busy_until }

abbrev pub with_end : ℕ → Line → Line
with_end end l = record { time = l.time; due = l.due; busy_until = Some end }

-- what an action of the module changes: a message that goes through `out` is transmitted at that
-- rate, from now on, or so much later; the module's timer is set, or taken back
abbrev pub acted : ℕ → Action → Line → Line
acted rate (Send own m) l =
    if bytes_eq own.name (codes "out") then with_end (l.time + duration_of m.bits rate) l else l
acted rate (SendDelayed own m delay) l =
    if bytes_eq own.name (codes "out") then with_end (l.time + delay + duration_of m.bits rate) l
    else l
acted rate (ScheduleAt s) l = if s.timer == 0 then with_due (Some s.at) l else l
acted rate (ScheduleAfter s) l = if s.timer == 0 then with_due (Some (l.time + s.delay)) l else l
acted rate (Cancel timer) l = if timer == 0 then with_due None l else l
acted rate _ l = l

abbrev pub acted_all : ℕ → List Action → Line → Line
acted_all rate [] l = l
acted_all rate (x ∷ xs) l = acted_all rate xs (acted rate x l)

-- whether a call is for a timer of the module
abbrev pub is_for_timer : CallReason → Bool
is_for_timer (prompt.Initialize stage) = false
is_for_timer (prompt.Message m) = is_timer m.origin
is_for_timer prompt.Finish = false

-- when a call comes, it is its time, and a timer that comes is set no longer
abbrev pub reached : Bool → ℕ → Line → Line
reached is_due time l =
    record { time = time; due = if is_due then None else l.due; busy_until = l.busy_until }

abbrev pub comes_to : Call → Line → Line
comes_to call l = reached (is_for_timer call.prompt) call.time l

abbrev pub after_turn : ℕ → Turn → Line → Line
after_turn rate t l = acted_all rate t.reply.actions (comes_to t.call l)

abbrev pub after_turns : ℕ → List Turn → Line → Line
after_turns rate [] l = l
after_turns rate (t ∷ ts) l = after_turns rate ts (after_turn rate t l)

-- HOW CALLS COME in a run: none is earlier than the one before it; a timer comes at just the time
-- for which it is set; and where a transmission would not end by the greatest time the run is over
pub record ComesInTime (l : Line) (call : Call) : Type 0 where
  pub later : l.time ≤ call.time
  pub on_time : IsTrue (is_for_timer call.prompt) → l.due ≡ Some call.time
  pub transmitted : IfSome l.busy_until IsTime

abbrev pub ComeInTime : ℕ → Line → List Turn → Type 0
ComeInTime rate l [] = Unit {0}
ComeInTime rate l (t ∷ ts) = ComesInTime l t.call × ComeInTime rate (after_turn rate t l) ts

-- an action that sends a message through `out` while the channel is busy, with which the run ends
abbrev pub finds_busy : Line → Action → Bool
finds_busy l (Send own m) = bytes_eq own.name (codes "out") && is_busy l.time l.busy_until
finds_busy l (SendDelayed own m delay) =
    bytes_eq own.name (codes "out") && is_busy (l.time + delay) l.busy_until
finds_busy l _ = false

-- none of these actions, one after another, does so
abbrev pub FindFree : ℕ → Line → List Action → Type 0
FindFree rate l [] = Unit {0}
FindFree rate l (x ∷ xs) = (finds_busy l x ≡ false) × FindFree rate (acted rate x l) xs

-- nor does any in these replies
abbrev pub NeverFindBusy : ℕ → Line → List Turn → Type 0
NeverFindBusy rate l [] = Unit {0}
NeverFindBusy rate l (t ∷ ts) = FindFree rate (comes_to t.call l) t.reply.actions
    × NeverFindBusy rate (after_turn rate t l) ts

-- a call whose parameter `datarate` is that rate
abbrev pub HasDatarate : ℕ → Call → Type 0
HasDatarate rate call =
    value_of (codes "datarate") call.parameters ≡ Some (Quantity Rate (pos rate))
