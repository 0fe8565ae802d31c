-- What a Sender is. It sends frames 0, 1, .., at most a window of them not acknowledged, and all of
-- these again when its timeout is over.
use Rattle.std.specs.Prelude.{ℕ, zero, suc, ◌+◌, ◌-◌, min, max, nat_lt, nat_le, pos, Bool, true, false}
use Rattle.std.specs.Prelude.{◌&&◌, List, [], ◌∷◌, ◌++◌, Option, Some, None, codes}
use Rattle.std.specs.Option.{option_map}
use Rattle.std.specs.Ordering.{int_eq}
use Rattle.module_api.specs.declared.call.CallReason.{CallReason}
use Rattle.module_api.specs.declared.call.CallReason.TheVariants as prompt
use Rattle.module_api.specs.declared.message.Message.{Message}
use Rattle.module_api.specs.declared.message.Outgoing.{Outgoing}
use Rattle.module_api.specs.declared.reply.Action.{Action}
use Rattle.module_api.specs.declared.reply.Action.TheVariants.{Emit, Cancel}
use Rattle.module_parts.specs.Asking.{Asking}
use Rattle.module_parts.specs.Cues.{is_from, is_timer}
use Rattle.module_parts.specs.Looking.{Looking, reading, bits, time, does, acts, quiet}
use Rattle.module_parts.specs.Looking.{short_number}
use Rattle.module_parts.specs.Replies.{timer_set, sent}
use Rattle.module_parts.specs.Scripts.{Script}
use Rattle.module_parts.specs.Numbers.{limit}
use Rattle.module_network.specs.declared.frame.Frame.{Frame}
use Rattle.module_parts.specs.declared.pairs.Pair.{Pair}
use Rattle.module_network.specs.declared.sender.Sender.{Sender}
use Rattle.module_network.specs.declared.sender.Terms.{Terms}
use Rattle.module_network.specs.Frames.{framed, frame_in, frame_bytes, delay_of}
use Rattle.module_parts.specs.Pairs.{paired, pair_bytes, read_pair}

abbrev pub having : Pair → Sender
having p = record { sent = p }

-- what its parameters say of frames
abbrev pub with_terms : (Terms → Looking Sender) → Looking Sender
with_terms follows =
    bits (codes "count") (λ count. bits (codes "bits") (λ length.
    short_number (codes "window") (λ window. time (codes "timeout") (λ timeout.
    short_number (codes "address") (λ source. short_number (codes "destAddress") (λ destination.
    follows (record {
      count = count;
      bits = length;
      window = window;
      timeout = timeout;
      source = source;
      destination = destination;
    })))))))

abbrev pub frame : Terms → ℕ → ℕ → Outgoing
frame t now i = record {
  kind = pos 0;
  priority = pos 0;
  bits = t.bits;
  payload = frame_bytes (framed t.destination t.source now i);
}

-- so many frames, from i on, and of each its number emitted
abbrev pub frames : List ℕ → Terms → ℕ → ℕ → ℕ → List Action
frames signal t now i zero = []
frames signal t now i (suc more) =
    Emit signal (pos i) ∷ sent (codes "out") 0 (frame t now i) ∷ frames signal t now (i + 1) more

-- the number before which all frames are sent that may be: the window after those that are
-- acknowledged, but no more than there are, and never fewer than were sent
abbrev pub end_of : Terms → ℕ → ℕ → ℕ
end_of t base next = max (min (min (base + t.window) t.count) (limit - 1)) next

abbrev pub timer_if : Bool → ℕ → List Action
timer_if true timeout = timer_set timeout (pos 0) ∷ []
timer_if false timeout = []

-- to initialization: the first timer
abbrev pub begun : Sender → Asking Sender
begun s = reading (bits (codes "count") (λ count. time (codes "start") (λ start.
    acts s (timer_if (nat_lt 0 count) start))))

-- the new frames that the window allows, and the timer, where some frame is not acknowledged
abbrev pub new_sent : Terms → ℕ → ℕ → ℕ → List Action
new_sent t now base next =
    frames (codes "sent") t now next (end_of t base next - next)
    ++ timer_if (nat_lt base (end_of t base next)) t.timeout

abbrev pub rtt_emitted : Option ℕ → List Action
rtt_emitted None = []
rtt_emitted (Some rtt) = Emit (codes "rtt") (pos rtt) ∷ []

-- what is done first: at the timeout all that is not acknowledged is sent again; where all frames
-- before some number have arrived, that is emitted, and the timeout does not come
abbrev pub done_first : Option Frame → Pair → Terms → ℕ → List Action
done_first None p t now = frames (codes "resent") t now p.first (p.second - p.first)
done_first (Some f) p t now =
    Emit (codes "acked") (pos (f.number - p.first)) ∷ (rtt_emitted (delay_of f now) ++ Cancel 0 ∷ [])

-- how many are acknowledged then
abbrev pub base_of : Option Frame → Pair → ℕ
base_of None p = p.first
base_of (Some f) p = f.number

abbrev pub turned : Option Frame → Pair → ℕ → Asking Sender
turned frame_heard p now =
    reading (with_terms (λ t. does (having p)
    (done_first frame_heard p t now ++ new_sent t now (base_of frame_heard p) p.second)
    (having (paired (base_of frame_heard p) (end_of t (base_of frame_heard p) p.second)))))

abbrev pub acknowledged_if : Bool → Sender → ℕ → Frame → Asking Sender
acknowledged_if true s now f = turned (Some f) s.sent now
acknowledged_if false s now f = quiet s

-- one that says nothing new, or of frames that were never sent, is ignored
abbrev pub framed_heard : Option Frame → Sender → ℕ → Asking Sender
framed_heard None s now = quiet s
framed_heard (Some f) s now =
    acknowledged_if (nat_lt s.sent.first f.number && nat_le f.number s.sent.second) s now f

abbrev pub message_heard : Bool → Sender → ℕ → Message → Asking Sender
message_heard true s now m = framed_heard (frame_in m.payload) s now
message_heard false s now m = quiet s

abbrev pub heard : Bool → Sender → ℕ → Message → Asking Sender
heard true s now m = turned None s.sent now
heard false s now m =
    message_heard (is_from (codes "in") m.origin && int_eq m.kind (pos 1)) s now m

abbrev pub told_by : CallReason → Sender → ℕ → Asking Sender
told_by (prompt.Initialize stage) s now = begun s
told_by (prompt.Message m) s now = heard (is_timer m.origin) s now m
told_by prompt.Finish s now = quiet s

unfoldable pub sender_script : Script Sender
sender_script = record {
  code = λ s. pair_bytes s.sent;
  read = λ state. option_map having (read_pair state);
  initial = having (paired 0 0);
  asks = λ s call. told_by call.prompt s call.time;
}
