-- What a Receiver is. It takes the frames in the order of their numbers, and answers each that comes
-- with the number that it waits for.
use Rattle.std.specs.Prelude.{ℕ, ◌+◌, ◌-◌, ◌*◌, ◌/◌, ◌==◌, min, pos, Bool, true, false, List, []}
use Rattle.std.specs.Prelude.{◌∷◌, ◌++◌, Option, Some, None, ◌&&◌, codes, if◌then◌else◌}
use Rattle.std.specs.Option.{option_map}
use Rattle.std.specs.Ordering.{int_eq}
use Rattle.module_api.specs.declared.call.CallReason.{CallReason}
use Rattle.module_api.specs.declared.call.CallReason.TheVariants as prompt
use Rattle.module_api.specs.declared.message.Message.{Message}
use Rattle.module_api.specs.declared.message.Outgoing.{Outgoing}
use Rattle.module_api.specs.declared.reply.Action.{Action}
use Rattle.module_api.specs.declared.reply.Action.TheVariants.{Emit, RecordScalar}
use Rattle.module_parts.specs.Asking.{Asking}
use Rattle.module_parts.specs.Cues.{is_from}
use Rattle.module_parts.specs.Looking.{reading, bits, does, simply, quiet}
use Rattle.module_parts.specs.Numbers.{limit, next_number}
use Rattle.module_parts.specs.Replies.{sent}
use Rattle.module_parts.specs.Scripts.{Script}
use Rattle.module_network.specs.declared.frame.Frame.{Frame}
use Rattle.module_parts.specs.declared.pairs.Pair.{Pair}
use Rattle.module_network.specs.declared.receiver.Receiver.{Receiver}
use Rattle.module_network.specs.Frames.{framed, frame_in, frame_bytes}
use Rattle.module_network.specs.Meter.{delayed}
use Rattle.module_parts.specs.Pairs.{paired, pair_bytes, read_pair}

abbrev pub having : Pair → Receiver
having p = record { taken = p }

-- so many bits more; no more than the greatest number
abbrev pub sum_of : ℕ → ℕ → ℕ
sum_of n length = min (n + length) (limit - 1)

-- so many bits in that time, in whole bits per second; 0 at the time 0
abbrev pub goodput : ℕ → ℕ → ℕ
goodput n now = if now == 0 then 0 else min (n * 1000000000000 / now) (limit - 1)

-- the answer to a frame: back to where it comes from, with its stamp and the number waited for
abbrev pub answer_to : Frame → ℕ → Frame
answer_to f next = framed f.source f.destination f.stamp next

abbrev pub acknowledgement : ℕ → Frame → ℕ → Outgoing
acknowledgement length f next =
    record { kind = pos 1; priority = pos 0; bits = length; payload = frame_bytes (answer_to f next) }

-- what is taken, where the frame is the one that it waits for
abbrev pub next_of : Bool → Pair → ℕ → Pair
next_of true p length = paired (next_number p.first) (sum_of p.second length)
next_of false p length = p

abbrev pub noted : Bool → Pair → Frame → ℕ → List ℕ → List Action
noted true p f now payload = Emit (codes "received") (pos p.first) ∷ delayed now payload
noted false p f now payload = Emit (codes "discarded") (pos (min f.number (limit - 1))) ∷ []

abbrev pub taken_by : Bool → Pair → ℕ → Message → Frame → Asking Receiver
taken_by is_next p now m f =
    reading (bits (codes "ackBits") (λ length.
    does (having p) (noted is_next p f now m.payload
    ++ sent (codes "out") 0 (acknowledgement length f (next_of is_next p m.bits).first) ∷ [])
    (having (next_of is_next p m.bits))))

abbrev pub taken : Pair → ℕ → Message → Frame → Asking Receiver
taken p now m f = taken_by (f.number == p.first) p now m f

abbrev pub framed_heard : Option Frame → Receiver → ℕ → Message → Asking Receiver
framed_heard None r now m = quiet r
framed_heard (Some f) r now m = taken r.taken now m f

-- it hears frames of the kind 0 of its gate `in` and from outside
abbrev pub heard : Bool → Receiver → ℕ → Message → Asking Receiver
heard true r now m = framed_heard (frame_in m.payload) r now m
heard false r now m = quiet r

abbrev pub finished : Receiver → ℕ → Asking Receiver
finished r now = simply (RecordScalar (codes "receivedBits") (pos r.taken.second)
    ∷ RecordScalar (codes "goodput") (pos (goodput r.taken.second now)) ∷ []) r

abbrev pub told_by : CallReason → Receiver → ℕ → Asking Receiver
told_by (prompt.Initialize stage) r now = quiet r
told_by (prompt.Message m) r now =
    heard (is_from (codes "in") m.origin && int_eq m.kind (pos 0)) r now m
told_by prompt.Finish r now = finished r now

unfoldable pub receiver_script : Script Receiver
receiver_script = record {
  code = λ r. pair_bytes r.taken;
  read = λ state. option_map having (read_pair state);
  initial = having (paired 0 0);
  asks = λ r call. told_by call.prompt r call.time;
}
