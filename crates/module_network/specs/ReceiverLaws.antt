-- The laws of a Receiver.
use Rattle.std.proofs.Common.{ℕ, ◌+◌, ◌-◌, ◌<◌, Bool, true, false, ◌==◌, ◌&&◌, pos, Option, Some}
use Rattle.std.proofs.Common.{None, codes, ap, lit<}
use Rattle.std.proofs.Math.Nat.{lt_of_le_of_lt, min-le_right}
use Rattle.std.specs.Option.{option_map}
use Rattle.std.specs.Ordering.{int_eq}
use Rattle.module_api.specs.declared.call.CallReason.{CallReason}
use Rattle.module_api.specs.declared.call.CallReason.TheVariants as prompt
use Rattle.module_api.specs.declared.message.Message.{Message}
use Rattle.module_parts.specs.Asking.{Leaves}
use Rattle.module_parts.specs.Cues.{is_from}
use Rattle.module_parts.specs.LookingLaws.{left-is}
use Rattle.module_parts.specs.Numbers.{limit}
use Rattle.module_parts.specs.NumberLaws.{next_number-lt}
use Rattle.module_parts.specs.ScriptLaws.{KeepsOwn}
use Rattle.module_network.specs.declared.frame.Frame.{Frame}
use Rattle.module_parts.specs.declared.pairs.Pair.{Pair}
use Rattle.module_network.specs.declared.receiver.Receiver.{Receiver}
use Rattle.module_network.specs.Frames.{frame_in}
use Rattle.module_parts.specs.PairLaws.{AreSmall, pair_reads_back, pair_is_read}
use Rattle.module_network.specs.Receiver.{having, sum_of, next_of, taken_by, framed_heard, heard}
use Rattle.module_network.specs.Receiver.{told_by, receiver_script}

abbrev pub HasSmall : Receiver → Type 0
HasSmall r = AreSmall r.taken

sum-lt : (n length : ℕ) → sum_of n length < limit
sum-lt n length = lt_of_le_of_lt (min-le_right (n + length) (limit - 1)) (lit< tt)

next-small : (is_next : Bool) (p : Pair) (length : ℕ) → AreSmall p
    → AreSmall (next_of is_next p length)
next-small true p length small = (next_number-lt p.first, sum-lt p.second length)
next-small false p length small = small

taken-small : (is_next : Bool) (p : Pair) (now : ℕ) (m : Message) (f : Frame) → AreSmall p
    → Leaves HasSmall (taken_by is_next p now m f)
taken-small is_next p now m f small = λ length. left-is HasSmall _ (having p)
    (having (next_of is_next p m.bits)) small (next-small is_next p m.bits small)

framed-small : (f : Option Frame) (r : Receiver) (now : ℕ) (m : Message) → HasSmall r
    → Leaves HasSmall (framed_heard f r now m)
framed-small None r now m small = small
framed-small (Some f) r now m small =
    taken-small (f.number == r.taken.first) r.taken now m f small

heard-small : (hears : Bool) (r : Receiver) (now : ℕ) (m : Message) → HasSmall r
    → Leaves HasSmall (heard hears r now m)
heard-small true r now m small = framed-small (frame_in m.payload) r now m small
heard-small false r now m small = small

told-small : (p : CallReason) (r : Receiver) (now : ℕ) → HasSmall r
    → Leaves HasSmall (told_by p r now)
told-small (prompt.Initialize stage) r now small = small
told-small (prompt.Message m) r now small =
    heard-small (is_from (codes "in") m.origin && int_eq m.kind (pos 0)) r now m small
told-small prompt.Finish r now small = small

pub receiver_keeps : KeepsOwn receiver_script HasSmall
unfolding receiver_script
receiver_keeps = record {
  reads_back = λ r small. ap (option_map having)
      (pair_reads_back r.taken.first r.taken.second small.0 small.1);
  are_read = pair_is_read HasSmall having (λ p small. small);
  starts = (lit< tt, lit< tt);
  goes_on = λ r call small. told-small call.prompt r call.time small;
}
