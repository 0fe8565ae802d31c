-- The laws of an L2Queue.
use Rattle.std.proofs.Common.{◌≡◌, pos, int_le, ◌<◌, Bool, true, false, IsTrue, List, [], ◌∷◌, ◌++◌}
use Rattle.std.proofs.Common.{Option, Some, None, IfSome, length, drop, codes, refl, ap, subst, arith}
use Rattle.std.specs.Option.{option_map}
use Rattle.module_api.specs.declared.call.CallReason.{CallReason}
use Rattle.module_api.specs.declared.call.CallReason.TheVariants as prompt
use Rattle.module_api.specs.declared.message.Message.{Message}
use Rattle.module_api.specs.declared.message.Outgoing.{Outgoing}
use Rattle.module_api.specs.Behaviour.{State}
use Rattle.module_parts.specs.declared.looks.Verdict.{Verdict}
use Rattle.module_parts.specs.Asking.{Leaves}
use Rattle.module_parts.specs.Cues.{is_from, is_timer}
use Rattle.module_parts.specs.Looking.{reading, whole, does, rate}
use Rattle.module_parts.specs.LookingLaws.{left-is}
use Rattle.module_parts.specs.ScriptLaws.{KeepsOwn}
use Rattle.module_stock.specs.Held.{Fits, kept, can_be_held, AllFit, read_held}
use Rattle.module_stock.specs.HeldLaws.{held_reads_back, held_are_read, can_be_held-fits}
use Rattle.module_stock.specs.HeldLaws.{all_fit_push}
use Rattle.module_network.specs.declared.l2_queue.L2Queue.{L2Queue}
use Rattle.module_network.specs.L2Queue.{holding, admitted, joined, joined_if, freed, freed_if}
use Rattle.module_network.specs.L2Queue.{second_sent}
use Rattle.module_network.specs.L2Queue.{heard, told_by, l2_queue_script}

-- where some are held
pub joined_more : (held : List Outgoing) (m : Outgoing) → 0 < length held → joined held m ≡ reading
    (whole (codes "capacity") (λ capacity. admitted (int_le (pos (length held)) capacity) held m))
joined_more [] m h = absurd (omega arith)
joined_more (front ∷ rest) m h = refl

-- where one waits
pub freed_more : (held : List Outgoing)
    → 1 < length held → freed held ≡ reading (rate (codes "datarate")
    (λ datarate. does (holding held) (second_sent datarate held) (holding (drop 1 held))))
freed_more [] h = absurd (omega arith)
freed_more (front ∷ []) h = absurd (omega arith)
freed_more (front ∷ next ∷ rest) h = refl

abbrev pub HoldsFit : L2Queue → Type 0
HoldsFit q = AllFit q.held

admitted-fits : (there : Bool) (held : List Outgoing) (m : Outgoing) (v : Verdict) → AllFit held
    → Fits m → Leaves HoldsFit (admitted there held m v)
admitted-fits true held m v fit fits =
    left-is HoldsFit v (holding held) (holding (held ++ m ∷ [])) fit (all_fit_push held m fit fits)
admitted-fits false held m v fit fits = fit

joined-fits : (held : List Outgoing) (m : Outgoing) → AllFit held → Fits m
    → Leaves HoldsFit (joined held m)
joined-fits [] m fit fits =
    λ capacity datarate. left-is HoldsFit _ (holding []) (holding (m ∷ [])) tt (fits, tt)
joined-fits (front ∷ rest) m fit fits = λ capacity. admitted-fits _ (front ∷ rest) m _ fit fits

freed-fits : (held : List Outgoing) → AllFit held → Leaves HoldsFit (freed held)
freed-fits [] fit = tt
freed-fits (front ∷ []) fit = tt
freed-fits (front ∷ next ∷ rest) fit = λ datarate.
    left-is HoldsFit _ (holding (front ∷ next ∷ rest)) (holding (next ∷ rest)) fit fit.1

joined_if-fits : (there : Bool) (held : List Outgoing) (m : Message)
    → (IsTrue there → Fits (kept m)) → AllFit held → Leaves HoldsFit (joined_if there held (kept m))
joined_if-fits true held m fits fit = joined-fits held (kept m) fit (fits refl)
joined_if-fits false held m fits fit = fit

freed_if-fits : (due : Bool) (held : List Outgoing) → AllFit held
    → Leaves HoldsFit (freed_if due held)
freed_if-fits true held fit = freed-fits held fit
freed_if-fits false held fit = fit

heard-fits : (hears : Bool) (held : List Outgoing) (m : Message) → AllFit held
    → Leaves HoldsFit (heard hears held m)
heard-fits true held m fit = joined_if-fits (can_be_held m) held m (can_be_held-fits m) fit
heard-fits false held m fit = freed_if-fits (is_timer m.origin) held fit

told_by-fits : (p : CallReason) (held : List Outgoing) → AllFit held
    → Leaves HoldsFit (told_by p held)
told_by-fits (prompt.Initialize stage) held fit = fit
told_by-fits (prompt.Message m) held fit = heard-fits (is_from (codes "in") m.origin) held m fit
told_by-fits prompt.Finish held fit = fit

with_held : (read : Option (List Outgoing)) → IfSome read AllFit
    → IfSome (option_map holding read) HoldsFit
with_held None fit = tt
with_held (Some ms) fit = fit

all_fit : (state : State) (read : Option (List Outgoing)) → read_held state ≡ read
    → IfSome read AllFit
all_fit state None e = tt
all_fit state (Some ms) e = held_are_read state ms e

holding_is_read : (state : State) (q : L2Queue) → option_map holding (read_held state) ≡ Some q
    → AllFit q.held
holding_is_read state q e = subst (λ read. IfSome read HoldsFit) e
    (with_held (read_held state) (all_fit state (read_held state) refl))

pub l2_queue_keeps : KeepsOwn l2_queue_script HoldsFit
unfolding l2_queue_script
l2_queue_keeps = record {
  reads_back = λ q fit. ap (option_map holding) (held_reads_back q.held fit);
  are_read = holding_is_read;
  starts = tt;
  goes_on = λ q call fit. told_by-fits call.prompt q.held fit;
}
