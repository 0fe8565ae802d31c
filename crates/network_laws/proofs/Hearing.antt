-- How many frames a Sender knows to have arrived changes by an acknowledgement alone.
use Rattle.std.proofs.Common.{◌≡◌, ◌⊎◌, inl, inr, ℕ, ℤ, pos, ◌&&◌, nat_lt, nat_le, Bool, true, false, List, [], Option, Some, None, codes, refl, if◌then◌else◌}
use Rattle.std.specs.Option.{option_map}
use Rattle.std.specs.Ordering.{int_eq}
use Rattle.module_api.specs.declared.call.Call.{Call}
use Rattle.module_api.specs.declared.call.CallReason.{CallReason}
use Rattle.module_api.specs.declared.call.CallReason.TheVariants as prompt
use Rattle.module_api.specs.declared.message.Message.{Message}
use Rattle.module_api.specs.declared.reply.Action.{Action}
use Rattle.module_parts.specs.Cues.{is_from, is_timer}
use Rattle.module_parts.specs.LookingLaws.{left-is}
use Rattle.module_parts.specs.declared.pairs.Pair.{Pair}
use Rattle.module_network.specs.declared.frame.Frame.{Frame}
use Rattle.module_network.specs.declared.sender.Sender.{Sender}
use Rattle.module_network.specs.Frames.{frame_in}
use Rattle.module_network.specs.Sender.{having, base_of, turned, acknowledged_if, framed_heard, message_heard, heard, told_by, sender_script}
use Rattle.network_laws.specs.Taken.{number_in}
use Rattle.network_laws.specs.Window.{KnowsWhatComes, number_acked}
use Rattle.network_laws.proofs.Ends.{EndsAs, told_ends}

abbrev Hears : ℕ → Option ℤ → List Action → Sender → Type 0
Hears first number actions next = (next.sent.first ≡ first) ⊎ (number ≡ Some (pos next.sent.first))

turned-hears : (f : Option Frame) (p : Pair) (now : ℕ) (number : Option ℤ) (call : Call) → (base_of f p ≡ p.first) ⊎ (number ≡ Some (pos (base_of f p))) → EndsAs (Hears p.first number) call (turned f p now)
turned-hears f p now number call h = λ count e1 length e2 window e3 timeout e4 source e5 destination e6.
    left-is (λ (next : Sender). Hears p.first number [] next) _ (having p) _ (inl refl) h

acked-hears : (is_new : Bool) (s : Sender) (now : ℕ) (f : Frame) (call : Call) → EndsAs (Hears s.sent.first (Some (pos f.number))) call (acknowledged_if is_new s now f)
acked-hears true s now f call = turned-hears (Some f) s.sent now (Some (pos f.number)) call (inr refl)
acked-hears false s now f call = inl refl

framed-hears : (f : Option Frame) (s : Sender) (now : ℕ) (call : Call) → EndsAs (Hears s.sent.first (option_map (λ (g : Frame). pos g.number) f)) call (framed_heard f s now)
framed-hears None s now call = inl refl
framed-hears (Some f) s now call = acked-hears (nat_lt s.sent.first f.number && nat_le f.number s.sent.second) s now f call

message-hears : (hears : Bool) (s : Sender) (now : ℕ) (m : Message) (call : Call) → EndsAs (Hears s.sent.first (if hears then number_in m.payload else None)) call (message_heard hears s now m)
message-hears true s now m call = framed-hears (frame_in m.payload) s now call
message-hears false s now m call = inl refl

heard-hears : (due : Bool) (s : Sender) (now : ℕ) (m : Message) (call : Call) → EndsAs (Hears s.sent.first (number_acked (prompt.Message m))) call (heard due s now m)
heard-hears true s now m call = turned-hears None s.sent now (number_acked (prompt.Message m)) call (inl refl)
heard-hears false s now m call = message-hears (is_from (codes "in") m.origin && int_eq m.kind (pos 1)) s now m call

told-hears : (p : CallReason) (s : Sender) (now : ℕ) (call : Call) → EndsAs (Hears s.sent.first (number_acked p)) call (told_by p s now)
told-hears (prompt.Initialize stage) s now call = λ count e1 start e2. inl refl
told-hears (prompt.Message m) s now call = heard-hears (is_timer m.origin) s now m call
told-hears prompt.Finish s now call = inl refl

pub knows_what_comes : (s : Sender) (call : Call) → KnowsWhatComes s call
unfolding sender_script
knows_what_comes s call = told_ends (Hears s.sent.first (number_acked call.prompt)) (told_by call.prompt s call.time) call (told-hears call.prompt s call.time call)
