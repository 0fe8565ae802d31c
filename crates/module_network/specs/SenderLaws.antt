-- The laws of a Sender.
use Rattle.std.proofs.Common.{ℕ, ◌<◌, nat_lt, nat_le, Bool}
use Rattle.std.proofs.Common.{true, false, ◌&&◌, pos, Option, Some, None, IsTrue}
use Rattle.std.proofs.Common.{codes, refl, ap, lit<, arith}
use Rattle.std.specs.Option.{option_map}
use Rattle.std.specs.Ordering.{int_eq}
use Rattle.module_api.specs.declared.call.CallReason.{CallReason}
use Rattle.module_api.specs.declared.call.CallReason.TheVariants as prompt
use Rattle.module_api.specs.declared.message.Message.{Message}
use Rattle.module_parts.specs.Asking.{Leaves}
use Rattle.module_parts.specs.Cues.{is_from, is_timer}
use Rattle.module_parts.specs.declared.looks.Verdict.{Verdict}
use Rattle.module_parts.specs.Looking.{left, value_or, bits_found, time_found, short_found}
use Rattle.module_parts.specs.LookingLaws.{left-is}
use Rattle.module_parts.specs.Numbers.{limit}
use Rattle.module_parts.specs.ScriptLaws.{KeepsOwn}
use Rattle.module_network.specs.declared.frame.Frame.{Frame}
use Rattle.module_parts.specs.declared.pairs.Pair.{Pair}
use Rattle.module_network.specs.declared.sender.Sender.{Sender}
use Rattle.module_network.specs.declared.sender.Terms.{Terms}
use Rattle.module_network.specs.Frames.{frame_in}
use Rattle.module_parts.specs.PairLaws.{AreSmall, pair_reads_back, pair_is_read}
use Rattle.module_parts.specs.Pairs.{paired}
use Rattle.module_network.specs.Sender.{having, end_of, base_of, turned, acknowledged_if, framed_heard}
use Rattle.module_network.specs.Sender.{message_heard, heard, told_by, sender_script}

abbrev pub HasSmall : Sender → Type 0
HasSmall s = AreSmall s.sent

pub end-lt : (t : Terms) (base next : ℕ) → next < limit → end_of t base next < limit
end-lt t base next h = omega arith

left-small : (t : Terms) (f : Option Frame) (p : Pair) (v : Verdict) → AreSmall p
    → base_of f p < limit → HasSmall
    (left v (having p) (having (paired (base_of f p) (end_of t (base_of f p) p.second))))
left-small t f p v small base = left-is HasSmall v (having p)
    (having (paired (base_of f p) (end_of t (base_of f p) p.second))) small
    (base, end-lt t (base_of f p) p.second small.1)

turned-small : (f : Option Frame) (p : Pair) (now : ℕ) → AreSmall p → base_of f p < limit
    → Leaves HasSmall (turned f p now)
turned-small f p now small base = λ count length window timeout source destination.
    left-small (record {
      count = value_or 0 (bits_found count);
      bits = value_or 0 (bits_found length);
      window = value_or 0 (short_found window);
      timeout = value_or 0 (time_found timeout);
      source = value_or 0 (short_found source);
      destination = value_or 0 (short_found destination);
    }) f p _ small base

acknowledged-small : (is_new : Bool) (s : Sender) (now : ℕ) (f : Frame) → HasSmall s
    → (IsTrue is_new → f.number < limit) → Leaves HasSmall (acknowledged_if is_new s now f)
acknowledged-small true s now f small known = turned-small (Some f) s.sent now small (known refl)
acknowledged-small false s now f small known = small

below : (base next number : ℕ) → next < limit
    → IsTrue (nat_lt base number && nat_le number next) → number < limit
below base next number small h = grind arith

framed-small : (f : Option Frame) (s : Sender) (now : ℕ) → HasSmall s
    → Leaves HasSmall (framed_heard f s now)
framed-small None s now small = small
framed-small (Some f) s now small =
    acknowledged-small (nat_lt s.sent.first f.number && nat_le f.number s.sent.second) s now f small
    (below s.sent.first s.sent.second f.number small.1)

message-small : (hears : Bool) (s : Sender) (now : ℕ) (m : Message) → HasSmall s
    → Leaves HasSmall (message_heard hears s now m)
message-small true s now m small = framed-small (frame_in m.payload) s now small
message-small false s now m small = small

heard-small : (due : Bool) (s : Sender) (now : ℕ) (m : Message) → HasSmall s
    → Leaves HasSmall (heard due s now m)
heard-small true s now m small = turned-small None s.sent now small small.0
heard-small false s now m small =
    message-small (is_from (codes "in") m.origin && int_eq m.kind (pos 1)) s now m small

told-small : (p : CallReason) (s : Sender) (now : ℕ) → HasSmall s → Leaves HasSmall (told_by p s now)
told-small (prompt.Initialize stage) s now small = λ count start. small
told-small (prompt.Message m) s now small = heard-small (is_timer m.origin) s now m small
told-small prompt.Finish s now small = small

pub sender_keeps : KeepsOwn sender_script HasSmall
unfolding sender_script
sender_keeps = record {
  reads_back = λ s small. ap (option_map having)
      (pair_reads_back s.sent.first s.sent.second small.0 small.1);
  are_read = pair_is_read HasSmall having (λ p small. small);
  starts = (lit< tt, lit< tt);
  goes_on = λ s call small. told-small call.prompt s call.time small;
}
