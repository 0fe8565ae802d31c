-- How far a Sender is ahead of what is acknowledged.
use Rattle.std.specs.Prelude.{◌≡◌, ◌⊎◌, ℕ, ℤ, pos, ◌≤◌, ◌<◌, ◌&&◌, List, ◌++◌, Option, Some, None}
use Rattle.std.specs.Prelude.{codes, length, map, nat_abs, sum_by, if◌then◌else◌}
use Rattle.std.specs.Ordering.{int_eq}
use Rattle.module_api.specs.declared.call.Call.{Call}
use Rattle.module_api.specs.declared.call.CallReason.{CallReason}
use Rattle.module_api.specs.declared.call.CallReason.TheVariants as prompt
use Rattle.module_api.specs.declared.message.Outgoing.{Outgoing}
use Rattle.module_api.specs.declared.reply.Action.{Action}
use Rattle.module_api.specs.Values.{value_of}
use Rattle.module_parts.specs.Cues.{is_from}
use Rattle.module_parts.specs.Looking.{short_found, value_or}
use Rattle.module_parts.specs.declared.pairs.Pair.{Pair}
use Rattle.module_network.specs.declared.frame.Frame.{Frame}
use Rattle.module_network.specs.declared.sender.Sender.{Sender}
use Rattle.module_network.specs.Frames.{frame_in}
use Rattle.module_network.specs.Sender.{sender_script}
use Rattle.network_laws.specs.Played.{Turn, Each, answered, emitted, values_in}
use Rattle.network_laws.specs.Played.{messages_in}
use Rattle.network_laws.specs.Taken.{number_in}

-- a call whose parameter `window` is no greater; one that is missing or wrong counts as 0
abbrev pub HasWindow : ℕ → Call → Type 0
HasWindow most call =
    value_or 0 (short_found (value_of (codes "window") call.parameters)) ≤ most

-- how many frames were sent: it emits `sent` of each, the first time
abbrev pub frames_sent : List Turn → ℕ
frames_sent ts = length (emitted (codes "sent") ts)

-- how many are acknowledged: it emits as `acked` how many more are
abbrev pub frames_acked : List Turn → ℕ
frames_acked ts = sum_by nat_abs (emitted (codes "acked") ts)

-- the number in an acknowledgement, where a call brings one: a message of kind 1 with a frame, by
-- the gate `in` or from outside
abbrev pub number_acked : CallReason → Option ℤ
number_acked (prompt.Initialize stage) = None
number_acked (prompt.Message m) =
    if is_from (codes "in") m.origin && int_eq m.kind (pos 1) then number_in m.payload else None
number_acked prompt.Finish = None

-- how many are acknowledged changes by an acknowledgement alone, to the number in it
abbrev pub KnowsWhatComes : Sender → Call → Type 0
KnowsWhatComes s call = ((answered sender_script s call).state.sent.first ≡ s.sent.first)
    ⊎ (number_acked call.prompt ≡ Some (pos (answered sender_script s call).state.sent.first))

-- the numbers of the frames in the messages that are sent, in order, are those that are emitted: of
-- those that are sent again, and then of the new ones
abbrev pub IsAsEmitted : List Action → Type 0
IsAsEmitted actions =
    map (λ (m : Outgoing). number_in m.payload) (messages_in (codes "out") actions)
    ≡ map Some (values_in (codes "resent") actions ++ values_in (codes "sent") actions)

-- there is a frame, and its number is at least the first of these two and below the second
abbrev pub IsNumbered : ℕ → ℕ → Option Frame → Type 0
IsNumbered low end None = ⊥
IsNumbered low end (Some f) = (low ≤ f.number) × (f.number < end)

-- a message has a frame that was sent and is not acknowledged
abbrev pub IsOut : Pair → Outgoing → Type 0
IsOut p m = IsNumbered p.first p.second (frame_in m.payload)

-- every message that is sent to answer this call has such a frame, and its number is emitted
pub record SendsWhatIsOut (s : Sender) (call : Call) : Type 0 where
  pub out : Each (IsOut (answered sender_script s call).state.sent)
      (messages_in (codes "out") (answered sender_script s call).reply.actions)
  pub emitted : IsAsEmitted (answered sender_script s call).reply.actions
