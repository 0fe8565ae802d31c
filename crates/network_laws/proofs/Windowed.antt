-- A Sender is never more than a window ahead of what is acknowledged.
use Rattle.std.proofs.Common.{◌≡◌, ◌∙◌, ℕ, ℤ, zero, suc, pos, ◌+◌, ◌-◌, ◌^◌, ◌<◌, ◌≤◌, nat_lt, nat_le, ◌&&◌, Bool, true, false, List, [], ◌∷◌, ◌++◌, length, map, Option, Some, None, codes, IsTrue, nat_abs, negsuc, ltb-true, leb-true, refl, sym, ap, ap₂, subst, arith, append_assoc, append-nil, lit<, if◌then◌else◌}
use Rattle.std.specs.List.{range_with_len, sum_by}
use Rattle.std.specs.Option.{option_and_then, option_map}
use Rattle.std.specs.Ordering.{int_eq}
use Rattle.std.specs.Str.{bytes_eq}
use Rattle.std.proofs.lemmas.Bool.{and_parts}
use Rattle.std.proofs.lemmas.Grind.{flat_map-append}
use Rattle.std.proofs.lemmas.List.{map-append}
use Rattle.std.proofs.lemmas.List.Sums.{sum_by-append}
use Rattle.std.proofs.lemmas.List.FromFn.{length-map-range_with_len}
use Rattle.sim_time.specs.Time.{greatest}
use Rattle.sim_values.specs.declared.value.Value.{Value}
use Rattle.sim_values.specs.declared.value.Value.TheVariants.{Whole, Truth, Text, Quantity}
use Rattle.module_api.specs.declared.call.Call.{Call}
use Rattle.module_api.specs.declared.call.CallReason.{CallReason}
use Rattle.module_api.specs.declared.call.CallReason.TheVariants as prompt
use Rattle.module_api.specs.declared.message.Message.{Message}
use Rattle.module_api.specs.declared.message.Outgoing.{Outgoing}
use Rattle.module_api.specs.declared.reply.Action.{Action}
use Rattle.module_api.specs.declared.reply.Action.TheVariants.{Cancel, Fail}
use Rattle.module_parts.specs.Bytes.{word, long, take_word, take_long}
use Rattle.module_parts.specs.ByteLaws.{take_word-word, take_long-long}
use Rattle.module_parts.specs.Cues.{is_from, is_timer}
use Rattle.module_parts.specs.declared.pairs.Pair.{Pair}
use Rattle.module_parts.specs.declared.found.Found.TheVariants.{Wrong, Is}
use Rattle.module_parts.specs.declared.looks.Verdict.{Verdict}
use Rattle.module_parts.specs.declared.looks.Verdict.TheVariants as verdict
use Rattle.module_parts.specs.Looking.{allowed, judged, value_or, bits_found, time_found, short_found}
use Rattle.module_parts.specs.Numbers.{limit}
use Rattle.module_parts.specs.Pairs.{paired}
use Rattle.module_network.specs.declared.frame.Frame.{Frame}
use Rattle.module_network.specs.declared.sender.Sender.{Sender}
use Rattle.module_network.specs.Frames.{framed, frame_in, frame_bytes, delay_of}
use Rattle.module_network.specs.Sender.{having, begun, frames, end_of, timer_if, new_sent, rtt_emitted, done_first, base_of, turned, acknowledged_if, framed_heard, message_heard, heard, told_by, sender_script}
use Rattle.network_laws.specs.Played.{answered, turns_from, left_from, Each, value_emitted, values_in, emitted, message_sent, messages_in}
use Rattle.network_laws.specs.Taken.{counted, number_in}
use Rattle.network_laws.specs.Window.{HasWindow, IsNumbered, IsOut, IsAsEmitted, SendsWhatIsOut, frames_sent, frames_acked}
use Rattle.network_laws.proofs.Ends.{EndsAs, told_ends, by_verdict}
use Rattle.network_laws.proofs.Taking.{counted_more}

-- ---- what the parameters say of frames; the module's own record of it is not seen from here

record Said : Type 0 where
  count : ℕ
  bits : ℕ
  window : ℕ
  timeout : ℕ
  source : ℕ
  destination : ℕ

abbrev frames_by : List ℕ → Said → ℕ → ℕ → ℕ → List Action
frames_by signal t now i n = frames signal (record { count = t.count; bits = t.bits; window = t.window; timeout = t.timeout; source = t.source; destination = t.destination }) now i n

abbrev end_by : Said → ℕ → ℕ → ℕ
end_by t base next = end_of (record { count = t.count; bits = t.bits; window = t.window; timeout = t.timeout; source = t.source; destination = t.destination }) base next

abbrev new_by : Said → ℕ → ℕ → ℕ → List Action
new_by t now base next = new_sent (record { count = t.count; bits = t.bits; window = t.window; timeout = t.timeout; source = t.source; destination = t.destination }) now base next

abbrev done_by : Option Frame → Pair → Said → ℕ → List Action
done_by f p t now = done_first f p (record { count = t.count; bits = t.bits; window = t.window; timeout = t.timeout; source = t.source; destination = t.destination }) now

end_few : (t : Said) (base next : ℕ) → next < limit → end_by t base next < limit
end_few t base next h = omega (arith, h)

-- ---- frames and their bytes

abbrev with_number : ℕ → ℕ → ℕ → Option (ℕ × List ℕ) → Option Frame
with_number d s t = option_map (λ number. framed d s t number.0)

abbrev with_stamp : ℕ → ℕ → Option (ℕ × List ℕ) → Option Frame
with_stamp d s = option_and_then (λ stamp. with_number d s stamp.0 (take_long stamp.1))

abbrev with_source : ℕ → Option (ℕ × List ℕ) → Option Frame
with_source d = option_and_then (λ source. with_stamp d source.0 (take_long source.1))

abbrev with_all : Option (ℕ × List ℕ) → Option Frame
with_all = option_and_then (λ destination. with_source destination.0 (take_word destination.1))

pub frame_is_read : (d s t n : ℕ) → d < 2 ^ 16 → s < 2 ^ 16 → t < 2 ^ 64 → n < 2 ^ 64 → frame_in (frame_bytes (framed d s t n)) ≡ Some (framed d s t n)
unfolding frame_in frame_bytes
frame_is_read d s t n hd hs ht hn =
    ap with_all (take_word-word d (word s ++ (long t ++ long n)) hd)
    ∙ (ap (with_source d) (take_word-word s (long t ++ long n) hs)
    ∙ (ap (with_stamp d s) (take_long-long t (long n) ht)
    ∙ (ap (λ bytes. with_number d s t (take_long bytes)) (sym (append-nil (long n)))
    ∙ ap (with_number d s t) (take_long-long n [] hn))))

-- ---- what is found in actions

abbrev out_of : List Action → List Outgoing
out_of actions = messages_in (codes "out") actions

each_more : {X : Type 0} (P : X → Type 0) (xs ys : List X) → Each P xs → Each P ys → Each P (xs ++ ys)
each_more P [] ys h k = k
each_more P (x ∷ xs) ys h k = (h.0, each_more P xs ys h.1 k)

out_more : (P : Outgoing → Type 0) (xs ys : List Action) → Each P (out_of xs) → Each P (out_of ys) → Each P (out_of (xs ++ ys))
out_more P xs ys h k = subst (Each P) (sym (flat_map-append (message_sent (codes "out")) xs ys)) (each_more P (out_of xs) (out_of ys) h k)

values_more : (signal : List ℕ) (xs ys : List Action) → values_in signal (xs ++ ys) ≡ values_in signal xs ++ values_in signal ys
values_more signal xs ys = flat_map-append (value_emitted signal) xs ys

-- of frames under another signal
none_of_frames : (wanted signal : List ℕ) (t : Said) (now i n : ℕ) → bytes_eq signal wanted ≡ false → values_in wanted (frames_by signal t now i n) ≡ []
none_of_frames wanted signal t now i zero e = refl
none_of_frames wanted signal t now i (suc n) e =
    ap (λ (b : Bool). (if b then pos i ∷ [] else []) ++ values_in wanted (frames_by signal t now (i + 1) n)) e ∙ none_of_frames wanted signal t now (i + 1) n e

numbers_of_frames : (signal : List ℕ) (t : Said) (now i n : ℕ) → bytes_eq signal signal ≡ true → values_in signal (frames_by signal t now i n) ≡ map pos (range_with_len i n)
numbers_of_frames signal t now i zero e = refl
numbers_of_frames signal t now i (suc n) e =
    ap (λ (b : Bool). (if b then pos i ∷ [] else []) ++ values_in signal (frames_by signal t now (i + 1) n)) e ∙ ap (λ vs. pos i ∷ vs) (numbers_of_frames signal t now (i + 1) n e)

record HasAddresses (t : Said) : Type 0 where
  source : t.source < 2 ^ 16
  destination : t.destination < 2 ^ 16

frames_are_out : (p : Pair) (signal : List ℕ) (t : Said) (now i n : ℕ) → HasAddresses t → now < 2 ^ 64 → p.first ≤ i → i + n ≤ p.second → p.second < limit
    → Each (IsOut p) (out_of (frames_by signal t now i n))
frames_are_out p signal t now i zero small time low high few = tt
frames_are_out p signal t now i (suc n) small time low high few =
    let next_low : p.first ≤ i + 1 = omega (arith, low) in
    let next_high : i + 1 + n ≤ p.second = omega (arith, high) in
    let this : i < p.second = omega (arith, high) in
    let short : i < 2 ^ 64 = omega (arith, this, few) in (
      subst (IsNumbered p.first p.second) (sym (frame_is_read t.destination t.source now i small.destination small.source time short)) (low, this),
      frames_are_out p signal t now (i + 1) n small time next_low next_high few,
    )

-- the numbers in the messages
abbrev numbers_out : List Action → List (Option ℤ)
numbers_out actions = map (λ (m : Outgoing). number_in m.payload) (out_of actions)

numbers_more : (xs ys : List Action) → numbers_out (xs ++ ys) ≡ numbers_out xs ++ numbers_out ys
numbers_more xs ys =
    ap (map (λ (m : Outgoing). number_in m.payload)) (flat_map-append (message_sent (codes "out")) xs ys)
    ∙ map-append (λ (m : Outgoing). number_in m.payload) (out_of xs) (out_of ys)

frames_have_numbers : (signal : List ℕ) (t : Said) (now i n : ℕ) → HasAddresses t → now < 2 ^ 64 → i + n < limit
    → numbers_out (frames_by signal t now i n) ≡ map Some (map pos (range_with_len i n))
frames_have_numbers signal t now i zero small time few = refl
frames_have_numbers signal t now i (suc n) small time few =
    let short : i < 2 ^ 64 = omega (arith, few) in
    let next_few : i + 1 + n < limit = omega (arith, few) in
    ap₂ (λ k ks. k ∷ ks) (ap (option_map (λ (f : Frame). pos f.number)) (frame_is_read t.destination t.source now i small.destination small.source time short))
    (frames_have_numbers signal t now (i + 1) n small time next_few)

-- ---- one call

record Turned (p : Pair) (call : Call) (actions : List Action) (next : Sender) : Type 0 where
  few : next.sent.second < limit
  above : next.sent.first ≤ next.sent.second
  grown : p.second ≤ next.sent.second
  near : (window : ℕ) → HasWindow window call → p.second ≤ p.first + window → next.sent.second ≤ next.sent.first + window
  numbers : values_in (codes "sent") actions ≡ map pos (range_with_len p.second (next.sent.second - p.second))
  acked : p.first + sum_by nat_abs (values_in (codes "acked") actions) ≡ next.sent.first
  are_out : call.time < 2 ^ 64 → Each (IsOut next.sent) (out_of actions)
  as_emitted : call.time < 2 ^ 64 → IsAsEmitted actions

record IsSound (p : Pair) : Type 0 where
  few : p.second < limit
  above : p.first ≤ p.second

none_sent : (n : ℕ) → [] ≡ map pos (range_with_len n (n - n))
none_sent n = let e : 0 ≡ n - n = omega arith in ap (λ k. map pos (range_with_len n k)) e

-- nothing is sent, emitted as sent or acknowledged, and the state stays
stays : (p : Pair) (call : Call) (actions : List Action) → IsSound p → out_of actions ≡ [] → values_in (codes "resent") actions ≡ [] → values_in (codes "sent") actions ≡ [] → values_in (codes "acked") actions ≡ []
    → Turned p call actions (having p)
stays p call actions sound out resent sent acked = record {
  few = sound.few;
  above = sound.above;
  grown = omega arith;
  near = λ window has near. near;
  numbers = sent ∙ none_sent p.second;
  acked = ap (λ vs. p.first + sum_by nat_abs vs) acked ∙ (omega arith);
  are_out = λ time. subst (Each (IsOut p)) (sym out) tt;
  as_emitted = λ time. ap (map (λ (m : Outgoing). number_in m.payload)) out ∙ sym (ap (map Some) (ap₂ (λ vs ws. vs ++ ws) resent sent));
}

rtt_sent : (rtt : Option ℕ) → values_in (codes "sent") (rtt_emitted rtt ++ Cancel 0 ∷ []) ≡ []
rtt_sent None = refl
rtt_sent (Some rtt) = refl

rtt_acked : (rtt : Option ℕ) → values_in (codes "acked") (rtt_emitted rtt ++ Cancel 0 ∷ []) ≡ []
rtt_acked None = refl
rtt_acked (Some rtt) = refl

rtt_resent : (rtt : Option ℕ) → values_in (codes "resent") (rtt_emitted rtt ++ Cancel 0 ∷ []) ≡ []
rtt_resent None = refl
rtt_resent (Some rtt) = refl

rtt_out : (rtt : Option ℕ) → out_of (rtt_emitted rtt ++ Cancel 0 ∷ []) ≡ []
rtt_out None = refl
rtt_out (Some rtt) = refl

timer_values : (signal : List ℕ) (there : Bool) (timeout : ℕ) → values_in signal (timer_if there timeout) ≡ []
timer_values signal true timeout = refl
timer_values signal false timeout = refl

timer_out : (there : Bool) (timeout : ℕ) → out_of (timer_if there timeout) ≡ []
timer_out true timeout = refl
timer_out false timeout = refl

-- of what is done first
done_sent : (f : Option Frame) (p : Pair) (t : Said) (now : ℕ) → values_in (codes "sent") (done_by f p t now) ≡ []
done_sent None p t now = none_of_frames (codes "sent") (codes "resent") t now p.first (p.second - p.first) refl
done_sent (Some f) p t now = rtt_sent (delay_of f now)

done_acked : (f : Option Frame) (p : Pair) (t : Said) (now : ℕ) → p.first ≤ base_of f p → p.first + sum_by nat_abs (values_in (codes "acked") (done_by f p t now)) ≡ base_of f p
done_acked None p t now h =
    ap (λ vs. p.first + sum_by nat_abs vs) (none_of_frames (codes "acked") (codes "resent") t now p.first (p.second - p.first) refl) ∙ (omega arith)
done_acked (Some f) p t now h =
    ap (λ vs. p.first + sum_by nat_abs (pos (f.number - p.first) ∷ vs)) (rtt_acked (delay_of f now)) ∙ (omega (arith, h))

done_out : (f : Option Frame) (p : Pair) (t : Said) (now end : ℕ) → HasAddresses t → now < 2 ^ 64 → p.first ≤ p.second → p.second ≤ end → end < limit
    → Each (IsOut (paired (base_of f p) end)) (out_of (done_by f p t now))
done_out None p t now end small time above grown few =
    let high : p.first + (p.second - p.first) ≤ end = omega (arith, above, grown) in
    frames_are_out (paired p.first end) (codes "resent") t now p.first (p.second - p.first) small time (omega arith) high few
done_out (Some f) p t now end small time above grown few = subst (Each (IsOut (paired f.number end))) (sym (rtt_out (delay_of f now))) tt

-- the numbers in its messages are those that are emitted as sent again
done_as_emitted : (f : Option Frame) (p : Pair) (t : Said) (now : ℕ) → HasAddresses t → now < 2 ^ 64 → p.first ≤ p.second → p.second < limit
    → numbers_out (done_by f p t now) ≡ map Some (values_in (codes "resent") (done_by f p t now))
done_as_emitted None p t now small time above few =
    let n : ℕ = p.second - p.first in
    let room : p.first + n < limit = omega (arith, above, few) in
    frames_have_numbers (codes "resent") t now p.first n small time room
    ∙ ap (map Some) (sym (numbers_of_frames (codes "resent") t now p.first n refl))
done_as_emitted (Some f) p t now small time above few =
    ap (map (λ (m : Outgoing). number_in m.payload)) (rtt_out (delay_of f now)) ∙ sym (ap (map Some) (rtt_resent (delay_of f now)))

-- of new frames
new_numbers : (t : Said) (now base next : ℕ) → values_in (codes "sent") (new_by t now base next) ≡ map pos (range_with_len next (end_by t base next - next))
new_numbers t now base next =
    let n : ℕ = end_by t base next - next in
    let timer : List Action = timer_if (nat_lt base (end_by t base next)) t.timeout in
    values_more (codes "sent") (frames_by (codes "sent") t now next n) timer
    ∙ (ap (λ vs. vs ++ values_in (codes "sent") timer) (numbers_of_frames (codes "sent") t now next n refl)
    ∙ (ap (λ vs. map pos (range_with_len next n) ++ vs) (timer_values (codes "sent") (nat_lt base (end_by t base next)) t.timeout)
    ∙ append-nil (map pos (range_with_len next n))))

new_acked : (t : Said) (now base next : ℕ) → values_in (codes "acked") (new_by t now base next) ≡ []
new_acked t now base next =
    let n : ℕ = end_by t base next - next in
    let timer : List Action = timer_if (nat_lt base (end_by t base next)) t.timeout in
    values_more (codes "acked") (frames_by (codes "sent") t now next n) timer
    ∙ (ap (λ vs. vs ++ values_in (codes "acked") timer) (none_of_frames (codes "acked") (codes "sent") t now next n refl)
    ∙ timer_values (codes "acked") (nat_lt base (end_by t base next)) t.timeout)

new_out : (t : Said) (now base next : ℕ) → HasAddresses t → now < 2 ^ 64 → base ≤ next → end_by t base next < limit
    → Each (IsOut (paired base (end_by t base next))) (out_of (new_by t now base next))
new_out t now base next small time above few =
    let n : ℕ = end_by t base next - next in
    let timer : List Action = timer_if (nat_lt base (end_by t base next)) t.timeout in
    let end : ℕ = end_by t base next in
    let grown : next ≤ end = grown_end t base next in
    let high : next + n ≤ end = omega (arith, grown) in
    out_more (IsOut (paired base end)) (frames_by (codes "sent") t now next n) timer
    (frames_are_out (paired base end) (codes "sent") t now next n small time above high few)
    (subst (Each (IsOut (paired base end))) (sym (timer_out (nat_lt base end) t.timeout)) tt)
  where
    grown_end : (t : Said) (base next : ℕ) → next ≤ end_by t base next
    grown_end t base next = omega arith

new_resent : (t : Said) (now base next : ℕ) → values_in (codes "resent") (new_by t now base next) ≡ []
new_resent t now base next =
    let n : ℕ = end_by t base next - next in
    let timer : List Action = timer_if (nat_lt base (end_by t base next)) t.timeout in
    values_more (codes "resent") (frames_by (codes "sent") t now next n) timer
    ∙ (ap (λ vs. vs ++ values_in (codes "resent") timer) (none_of_frames (codes "resent") (codes "sent") t now next n refl)
    ∙ timer_values (codes "resent") (nat_lt base (end_by t base next)) t.timeout)

new_have_numbers : (t : Said) (now base next : ℕ) → HasAddresses t → now < 2 ^ 64 → next ≤ end_by t base next → end_by t base next < limit
    → numbers_out (new_by t now base next) ≡ map Some (map pos (range_with_len next (end_by t base next - next)))
new_have_numbers t now base next small time grown few =
    let end : ℕ = end_by t base next in
    let n : ℕ = end - next in
    let timer : List Action = timer_if (nat_lt base end) t.timeout in
    let room : next + n < limit = in_room next end grown few in
    numbers_more (frames_by (codes "sent") t now next n) timer
    ∙ (ap (λ ks. numbers_out (frames_by (codes "sent") t now next n) ++ ks) (ap (map (λ (m : Outgoing). number_in m.payload)) (timer_out (nat_lt base end) t.timeout))
    ∙ (append-nil (numbers_out (frames_by (codes "sent") t now next n))
    ∙ frames_have_numbers (codes "sent") t now next n small time room))
  where
    in_room : (a b : ℕ) → a ≤ b → b < limit → a + (b - a) < limit
    in_room a b h few = omega (arith, h, few)

-- all together
both_as_emitted : (xs ys : List Action) (resent sent : List ℤ) → numbers_out xs ≡ map Some resent → values_in (codes "resent") xs ≡ resent → values_in (codes "sent") xs ≡ []
    → numbers_out ys ≡ map Some sent → values_in (codes "resent") ys ≡ [] → values_in (codes "sent") ys ≡ sent → IsAsEmitted (xs ++ ys)
both_as_emitted xs ys resent sent out_x resent_x sent_x out_y resent_y sent_y =
    let again : values_in (codes "resent") (xs ++ ys) ≡ resent = values_more (codes "resent") xs ys ∙ (ap₂ (λ vs ws. vs ++ ws) resent_x resent_y ∙ append-nil resent) in
    let first : values_in (codes "sent") (xs ++ ys) ≡ sent = values_more (codes "sent") xs ys ∙ ap₂ (λ vs ws. vs ++ ws) sent_x sent_y in
    numbers_more xs ys
    ∙ (ap₂ (λ vs ws. vs ++ ws) out_x out_y
    ∙ (sym (map-append Some resent sent)
    ∙ sym (ap (map Some) (ap₂ (λ vs ws. vs ++ ws) again first))))

-- what is done, and the state that is left, where all that was read is good
turns_well : (f : Option Frame) (p : Pair) (t : Said) (call : Call) → IsSound p → p.first ≤ base_of f p → base_of f p ≤ p.second → HasAddresses t
    → ((window : ℕ) → HasWindow window call → t.window ≤ window)
    → Turned p call (done_by f p t call.time ++ new_by t call.time (base_of f p) p.second) (having (paired (base_of f p) (end_by t (base_of f p) p.second)))
turns_well f p t call sound low high small windows =
    let base : ℕ = base_of f p in
    let few : end_by t base p.second < limit = end_few t base p.second sound.few in
    record {
      few = few;
      above = above t base p.second high;
      grown = grown t base p.second;
      near = λ window has near. in_window t p.first base p.second window (windows window has) low near;
      numbers = values_more (codes "sent") (done_by f p t call.time) (new_by t call.time base p.second)
          ∙ (ap (λ vs. vs ++ values_in (codes "sent") (new_by t call.time base p.second)) (done_sent f p t call.time)
          ∙ new_numbers t call.time base p.second);
      acked = ap (λ vs. p.first + sum_by nat_abs vs) (values_more (codes "acked") (done_by f p t call.time) (new_by t call.time base p.second)
          ∙ (ap (λ vs. values_in (codes "acked") (done_by f p t call.time) ++ vs) (new_acked t call.time base p.second)
          ∙ append-nil (values_in (codes "acked") (done_by f p t call.time))))
          ∙ done_acked f p t call.time low;
      are_out = λ time. out_more (IsOut (paired base (end_by t base p.second))) (done_by f p t call.time) (new_by t call.time base p.second)
          (done_out f p t call.time (end_by t base p.second) small time sound.above (grown t base p.second) few)
          (new_out t call.time base p.second small time high few);
      as_emitted = λ time. both_as_emitted (done_by f p t call.time) (new_by t call.time base p.second)
          (values_in (codes "resent") (done_by f p t call.time)) (map pos (range_with_len p.second (end_by t base p.second - p.second)))
          (done_as_emitted f p t call.time small time sound.above sound.few) refl (done_sent f p t call.time)
          (new_have_numbers t call.time base p.second small time (grown t base p.second) few) (new_resent t call.time base p.second) (new_numbers t call.time base p.second);
    }
  where
    above : (t : Said) (base next : ℕ) → base ≤ next → base ≤ end_by t base next
    above t base next h = omega (arith, h)

    grown : (t : Said) (base next : ℕ) → next ≤ end_by t base next
    grown t base next = omega arith

    in_window : (t : Said) (first base next window : ℕ) → t.window ≤ window → first ≤ base → next ≤ first + window → end_by t base next ≤ base + window
    in_window t first base next window h low near = omega (arith, h, low, near)

short_of : (n : ℕ) (small : Bool) → nat_lt n 65536 ≡ small → value_or 0 (if small then Is n else Wrong) < 2 ^ 16
short_of n true e = ltb-true n 65536 e
short_of n false e = lit< tt

short_below : (v : Option Value) → value_or 0 (short_found v) < 2 ^ 16
short_below None = lit< tt
short_below (Some (Whole (pos n))) = short_of n (nat_lt n 65536) refl
short_below (Some (Whole (negsuc n))) = lit< tt
short_below (Some (Truth b)) = lit< tt
short_below (Some (Text t)) = lit< tt
short_below (Some (Quantity d n)) = lit< tt

turned-turns : (f : Option Frame) (p : Pair) (call : Call) → IsSound p → p.first ≤ base_of f p → base_of f p ≤ p.second → EndsAs (Turned p call) call (turned f p call.time)
turned-turns f p call sound low high = λ count e1 length e2 window e3 timeout e4 source e5 destination e6.
    let t : Said = record {
      count = value_or 0 (bits_found count);
      bits = value_or 0 (bits_found length);
      window = value_or 0 (short_found window);
      timeout = value_or 0 (time_found timeout);
      source = value_or 0 (short_found source);
      destination = value_or 0 (short_found destination);
    } in
    by_verdict (Turned p call) _ _ (having p) (having (paired (base_of f p) (end_by t (base_of f p) p.second)))
    (stays p call [] sound refl refl refl refl) (λ name. stays p call (Fail name ∷ []) sound refl refl refl refl)
    (turns_well f p t call sound low high (record { source = short_below source; destination = short_below destination })
    (λ most has. subst (λ v. value_or 0 (short_found v) ≤ most) e3 has))

acked-turns : (is_new : Bool) (s : Sender) (f : Frame) (call : Call) → IsSound s.sent → (IsTrue is_new → (s.sent.first < f.number) × (f.number ≤ s.sent.second))
    → EndsAs (Turned s.sent call) call (acknowledged_if is_new s call.time f)
acked-turns true s f call sound new =
    let low : s.sent.first ≤ f.number = let h = (new refl).0 in omega (arith, h) in
    turned-turns (Some f) s.sent call sound low (new refl).1
acked-turns false s f call sound new = stays s.sent call [] sound refl refl refl refl

is_new : (base next number : ℕ) → IsTrue (nat_lt base number && nat_le number next) → (base < number) × (number ≤ next)
is_new base next number h = let both = and_parts (nat_lt base number) (nat_le number next) h in (ltb-true base number both.0, leb-true number next both.1)

framed-turns : (f : Option Frame) (s : Sender) (call : Call) → IsSound s.sent → EndsAs (Turned s.sent call) call (framed_heard f s call.time)
framed-turns None s call sound = stays s.sent call [] sound refl refl refl refl
framed-turns (Some f) s call sound = acked-turns (nat_lt s.sent.first f.number && nat_le f.number s.sent.second) s f call sound (is_new s.sent.first s.sent.second f.number)

message-turns : (hears : Bool) (s : Sender) (m : Message) (call : Call) → IsSound s.sent → EndsAs (Turned s.sent call) call (message_heard hears s call.time m)
message-turns true s m call sound = framed-turns (frame_in m.payload) s call sound
message-turns false s m call sound = stays s.sent call [] sound refl refl refl refl

heard-turns : (due : Bool) (s : Sender) (m : Message) (call : Call) → IsSound s.sent → EndsAs (Turned s.sent call) call (heard due s call.time m)
heard-turns true s m call sound = turned-turns None s.sent call sound (omega arith) sound.above
heard-turns false s m call sound = message-turns (is_from (codes "in") m.origin && int_eq m.kind (pos 1)) s m call sound

begun-turns : (s : Sender) (call : Call) → IsSound s.sent → EndsAs (Turned s.sent call) call (begun s)
begun-turns s call sound = λ count e1 start e2. by_acts (judged (codes "start") (time_found start) (judged (codes "count") (bits_found count) verdict.Good)) (nat_lt 0 (value_or 0 (bits_found count))) (value_or 0 (time_found start))
  where
    quiet_timer : (there : Bool) (start : ℕ) → Turned s.sent call (timer_if there start) s
    quiet_timer there start = stays s.sent call (timer_if there start) sound (timer_out there start) (timer_values (codes "resent") there start) (timer_values (codes "sent") there start) (timer_values (codes "acked") there start)

    by_acts : (v : Verdict) (there : Bool) (start : ℕ) → Turned s.sent call (allowed v (timer_if there start)) s
    by_acts verdict.Good there start = quiet_timer there start
    by_acts (verdict.Wrong name) there start = stays s.sent call (Fail name ∷ []) sound refl refl refl refl
    by_acts verdict.Missing there start = stays s.sent call [] sound refl refl refl refl

told-turns : (p : CallReason) (s : Sender) (call : Call) → IsSound s.sent → EndsAs (Turned s.sent call) call (told_by p s call.time)
told-turns (prompt.Initialize stage) s call sound = begun-turns s call sound
told-turns (prompt.Message m) s call sound = heard-turns (is_timer m.origin) s m call sound
told-turns prompt.Finish s call sound = stays s.sent call [] sound refl refl refl refl

one_turned : (s : Sender) (call : Call) → IsSound s.sent → Turned s.sent call (answered sender_script s call).reply.actions (answered sender_script s call).state
unfolding sender_script
one_turned s call sound = told_ends (Turned s.sent call) (told_by call.prompt s call.time) call (told-turns call.prompt s call sound)

sound_next : (s : Sender) (call : Call) → IsSound s.sent → IsSound (answered sender_script s call).state.sent
sound_next s call sound = let one = one_turned s call sound in record { few = one.few; above = one.above }

-- ---- all calls

sound_after : (s : Sender) (calls : List Call) → IsSound s.sent → IsSound (left_from sender_script s calls).sent
sound_after s [] sound = sound
sound_after s (call ∷ calls) sound = sound_after (answered sender_script s call).state calls (sound_next s call sound)

counted_on : (a n : ℕ) → counted a ++ map pos (range_with_len a n) ≡ counted (a + n)
counted_on a zero = let e : a ≡ a + 0 = omega arith in append-nil (counted a) ∙ ap counted e
counted_on a (suc n) =
    let next : a + 1 ≡ suc a = omega arith in
    let all : a + 1 + n ≡ a + suc n = omega arith in
    sym (append_assoc (counted a) (pos a ∷ []) (map pos (range_with_len (a + 1) n)))
    ∙ (ap (λ vs. vs ++ map pos (range_with_len (a + 1) n)) (sym (counted_more a) ∙ ap counted (sym next))
    ∙ (counted_on (a + 1) n ∙ ap counted all))

sent_from : (s : Sender) (calls : List Call) → IsSound s.sent
    → counted s.sent.second ++ emitted (codes "sent") (turns_from sender_script s calls) ≡ counted (left_from sender_script s calls).sent.second
sent_from s [] sound = append-nil (counted s.sent.second)
sent_from s (call ∷ calls) sound =
    let one = one_turned s call sound in
    let next : Sender = (answered sender_script s call).state in
    let rest : List ℤ = emitted (codes "sent") (turns_from sender_script next calls) in
    let n : ℕ = next.sent.second - s.sent.second in
    let to : s.sent.second + n ≡ next.sent.second = there s.sent.second next.sent.second one.grown in
    ap (λ vs. counted s.sent.second ++ (vs ++ rest)) one.numbers
    ∙ (sym (append_assoc (counted s.sent.second) (map pos (range_with_len s.sent.second n)) rest)
    ∙ (ap (λ vs. vs ++ rest) (counted_on s.sent.second n ∙ ap counted to)
    ∙ sent_from next calls (sound_next s call sound)))
  where
    there : (a b : ℕ) → a ≤ b → a + (b - a) ≡ b
    there a b h = omega (arith, h)

acked_from : (s : Sender) (calls : List Call) → IsSound s.sent
    → s.sent.first + frames_acked (turns_from sender_script s calls) ≡ (left_from sender_script s calls).sent.first
acked_from s [] sound = omega arith
acked_from s (call ∷ calls) sound =
    let one = one_turned s call sound in
    let next : Sender = (answered sender_script s call).state in
    let here : List ℤ = values_in (codes "acked") (answered sender_script s call).reply.actions in
    let rest : List ℤ = emitted (codes "acked") (turns_from sender_script next calls) in
    ap (λ n. s.sent.first + n) (sum_by-append nat_abs here rest)
    ∙ (sums s.sent.first (sum_by nat_abs here) (sum_by nat_abs rest)
    ∙ (ap (λ n. n + sum_by nat_abs rest) one.acked ∙ acked_from next calls (sound_next s call sound)))
  where
    sums : (a b c : ℕ) → a + (b + c) ≡ a + b + c
    sums a b c = omega arith

near_from : (window : ℕ) (s : Sender) (calls : List Call) → IsSound s.sent → Each (HasWindow window) calls → s.sent.second ≤ s.sent.first + window
    → (left_from sender_script s calls).sent.second ≤ (left_from sender_script s calls).sent.first + window
near_from window s [] sound h near = near
near_from window s (call ∷ calls) sound h near =
    near_from window (answered sender_script s call).state calls (sound_next s call sound) h.1 ((one_turned s call sound).near window h.0 near)

-- ---- from the first state on

first_sound : IsSound sender_script.initial.sent
unfolding sender_script
first_sound = record { few = lit< tt; above = omega arith }

near_first : (window : ℕ) → sender_script.initial.sent.second ≤ sender_script.initial.sent.first + window
unfolding sender_script
near_first window = omega arith

pub sent_in_order : (calls : List Call) → emitted (codes "sent") (turns_from sender_script sender_script.initial calls) ≡ counted (left_from sender_script sender_script.initial calls).sent.second
unfolding sender_script
sent_in_order calls = sent_from sender_script.initial calls first_sound

pub acked_in_all : (calls : List Call) → frames_acked (turns_from sender_script sender_script.initial calls) ≡ (left_from sender_script sender_script.initial calls).sent.first
unfolding sender_script
acked_in_all calls = from_none (frames_acked (turns_from sender_script sender_script.initial calls)) ∙ acked_from sender_script.initial calls first_sound
  where
    from_none : (n : ℕ) → n ≡ 0 + n
    from_none n = omega arith

length_counted : (n : ℕ) → length (counted n) ≡ n
length_counted n = length-map-range_with_len pos 0 n

pub never_more_than_a_window : (window : ℕ) (calls : List Call) → Each (HasWindow window) calls
    → frames_sent (turns_from sender_script sender_script.initial calls) ≤ frames_acked (turns_from sender_script sender_script.initial calls) + window
never_more_than_a_window window calls h =
    let end : Sender = left_from sender_script sender_script.initial calls in
    let near : end.sent.second ≤ end.sent.first + window = near_from window sender_script.initial calls first_sound h (near_first window) in
    let sent : frames_sent (turns_from sender_script sender_script.initial calls) ≡ end.sent.second = ap length (sent_in_order calls) ∙ length_counted end.sent.second in
    let acked : frames_acked (turns_from sender_script sender_script.initial calls) ≡ end.sent.first = acked_in_all calls in
    omega (arith, near, sent, acked)

pub what_is_sent_is_out : (calls : List Call) (call : Call) → call.time ≤ greatest → SendsWhatIsOut (left_from sender_script sender_script.initial calls) call
what_is_sent_is_out calls call time =
    let short : call.time < 2 ^ 64 = omega (arith, time) in
    let one = one_turned (left_from sender_script sender_script.initial calls) call (sound_after sender_script.initial calls first_sound) in
    record { out = one.are_out short; emitted = one.as_emitted short }
