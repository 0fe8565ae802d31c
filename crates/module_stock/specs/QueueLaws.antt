-- The laws of a Queue.
use Rattle.std.proofs.Common.{◌≡◌, pos, int_le, ◌<◌, Bool, true, false, IsTrue, List, [], ◌∷◌, ◌++◌}
use Rattle.std.proofs.Common.{length, drop, codes, refl, arith}
use Rattle.module_api.specs.declared.call.CallReason.{CallReason}
use Rattle.module_api.specs.declared.call.CallReason.TheVariants as prompt
use Rattle.module_api.specs.declared.message.Message.{Message}
use Rattle.module_api.specs.declared.message.Outgoing.{Outgoing}
use Rattle.module_parts.specs.declared.looks.Verdict.{Verdict}
use Rattle.module_parts.specs.Asking.{Leaves}
use Rattle.module_parts.specs.Cues.{is_from, is_timer}
use Rattle.module_parts.specs.Looking.{reading, whole, time, does}
use Rattle.module_parts.specs.LookingLaws.{left-is}
use Rattle.module_parts.specs.Replies.{timer_set}
use Rattle.module_parts.specs.ScriptLaws.{KeepsOwn}
use Rattle.module_stock.specs.Held.{Fits, kept, can_be_held, AllFit}
use Rattle.module_stock.specs.HeldLaws.{held_reads_back, held_are_read, can_be_held-fits}
use Rattle.module_stock.specs.HeldLaws.{all_fit_push}
use Rattle.module_stock.specs.Queue.{admitted, joined, joined_if, front_sent, served, served_if}
use Rattle.module_stock.specs.Queue.{heard, told_by, queue_script}

-- where some are held
pub joined_more : (held : List Outgoing) (m : Outgoing) → 0 < length held → joined held m ≡ reading
    (whole (codes "capacity") (λ capacity. admitted (int_le (pos (length held)) capacity) held m))
joined_more [] m h = absurd (omega arith)
joined_more (front ∷ rest) m h = refl

-- where more than one is held
pub served_more : (held : List Outgoing)
    → 1 < length held → served held ≡ reading (time (codes "service")
    (λ service. does held (front_sent held ++ timer_set service (pos 0) ∷ []) (drop 1 held)))
served_more [] h = absurd (omega arith)
served_more (front ∷ []) h = absurd (omega arith)
served_more (front ∷ next ∷ rest) h = refl

-- ---- all that is held can be told by bytes

admitted-fits : (there : Bool) (held : List Outgoing) (m : Outgoing) (v : Verdict) → AllFit held
    → Fits m → Leaves AllFit (admitted there held m v)
admitted-fits true held m v fit fits =
    left-is AllFit v held (held ++ m ∷ []) fit (all_fit_push held m fit fits)
admitted-fits false held m v fit fits = fit

joined-fits : (held : List Outgoing) (m : Outgoing) → AllFit held → Fits m
    → Leaves AllFit (joined held m)
joined-fits [] m fit fits = λ capacity service. left-is AllFit _ [] (m ∷ []) tt (fits, tt)
joined-fits (front ∷ rest) m fit fits = λ capacity. admitted-fits _ (front ∷ rest) m _ fit fits

served-fits : (held : List Outgoing) → AllFit held → Leaves AllFit (served held)
served-fits [] fit = tt
served-fits (front ∷ []) fit = tt
served-fits (front ∷ next ∷ rest) fit =
    λ service. left-is AllFit _ (front ∷ next ∷ rest) (next ∷ rest) fit fit.1

joined_if-fits : (there : Bool) (held : List Outgoing) (m : Message)
    → (IsTrue there → Fits (kept m)) → AllFit held → Leaves AllFit (joined_if there held (kept m))
joined_if-fits true held m fits fit = joined-fits held (kept m) fit (fits refl)
joined_if-fits false held m fits fit = fit

served_if-fits : (due : Bool) (held : List Outgoing) → AllFit held
    → Leaves AllFit (served_if due held)
served_if-fits true held fit = served-fits held fit
served_if-fits false held fit = fit

heard-fits : (hears : Bool) (held : List Outgoing) (m : Message) → AllFit held
    → Leaves AllFit (heard hears held m)
heard-fits true held m fit = joined_if-fits (can_be_held m) held m (can_be_held-fits m) fit
heard-fits false held m fit = served_if-fits (is_timer m.origin) held fit

told_by-fits : (p : CallReason) (held : List Outgoing) → AllFit held
    → Leaves AllFit (told_by p held)
told_by-fits (prompt.Initialize stage) held fit = fit
told_by-fits (prompt.Message m) held fit = heard-fits (is_from (codes "in") m.origin) held m fit
told_by-fits prompt.Finish held fit = fit

pub queue_keeps : KeepsOwn queue_script AllFit
unfolding queue_script
queue_keeps = record {
  reads_back = held_reads_back;
  are_read = held_are_read;
  starts = tt;
  goes_on = λ held call fit. told_by-fits call.prompt held fit;
}
