-- An L2Queue of its channel's rate never finds it busy.
use Rattle.std.proofs.Common.{◌≡◌, ◌∙◌, ℕ, pos, int_le, ◌+◌, ◌-◌, ◌*◌, ◌/◌, ◌==◌, ◌≤◌, min, nat_lt, Bool, true, false, List, [], ◌∷◌, length, Option, Some, None, IfSome, codes, IsTrue, refl, sym, ap, subst, arith, if◌then◌else◌}
use Rattle.std.proofs.lemmas.Bool.Decides.{nat_tests}
use Rattle.sim_time.specs.Time.{IsTime, greatest}
use Rattle.sim_values.specs.declared.value.Dimension.TheVariants.{Rate}
use Rattle.sim_values.specs.declared.value.Value.{Value}
use Rattle.sim_values.specs.declared.value.Value.TheVariants.{Quantity}
use Rattle.module_api.specs.declared.call.Call.{Call}
use Rattle.module_api.specs.declared.call.CallReason.{CallReason}
use Rattle.module_api.specs.declared.call.CallReason.TheVariants as prompt
use Rattle.module_api.specs.declared.message.Message.{Message}
use Rattle.module_api.specs.declared.message.Origin.{Origin}
use Rattle.module_api.specs.declared.message.Origin.TheVariants.{Gate, Timer, Outside}
use Rattle.module_api.specs.declared.message.Outgoing.{Outgoing}
use Rattle.module_api.specs.declared.reply.Action.{Action}
use Rattle.module_api.specs.declared.reply.Action.TheVariants.{Emit}
use Rattle.module_parts.specs.Cues.{is_from, is_timer}
use Rattle.module_parts.specs.declared.looks.Verdict.{Verdict}
use Rattle.module_parts.specs.declared.looks.Verdict.TheVariants as verdict
use Rattle.module_parts.specs.Looking.{allowed, left, judged, value_or, rate_found, whole_found}
use Rattle.module_stock.specs.Held.{kept, can_be_held}
use Rattle.module_network.specs.declared.l2_queue.L2Queue.{L2Queue}
use Rattle.module_network.specs.L2Queue.{line_time, departed, holding, admitted, joined, joined_if, second_sent, freed, freed_if, heard, told_by, l2_queue_script}
use Rattle.channels.specs.Travel.{duration_of, is_busy}
use Rattle.network_laws.specs.Line.{Line, unused, acted_all, is_for_timer, reached, comes_to, ComesInTime, ComeInTime, FindFree, NeverFindBusy, HasDatarate}
use Rattle.network_laws.specs.Played.{Each, answered, turns_from}
use Rattle.network_laws.proofs.Ends.{EndsAs, told_ends, by_verdict}

-- ---- the line

-- the module reckons as the channel does
pub line_time_is : (bits rate : ℕ) → duration_of bits rate ≤ greatest → line_time bits rate ≡ duration_of bits rate
line_time_is bits rate h = by (rate == 0) h
  where
    d : ℕ
    d = (bits * 1000000000000 + (rate - 1)) / rate

    smaller : (n : ℕ) → n ≤ greatest → min n greatest ≡ n
    smaller n h = omega (arith, h)

    by : (none : Bool) → (if none then 0 else d) ≤ greatest → (if none then 0 else min d greatest) ≡ (if none then 0 else d)
    by true h = refl
    by false h = smaller d h

-- a line that is free stays free
still_free : (t u : ℕ) (busy : Option ℕ) → t ≤ u → is_busy t busy ≡ false → is_busy u busy ≡ false
still_free t u None later e = refl
still_free t u (Some end) later e = stays t u end later e
  where
    stays : (t u end : ℕ) → t ≤ u → nat_lt t end ≡ false → nat_lt u end ≡ false
    stays t u end later e = grind (arith, nat_tests)

free_at_end : (t : ℕ) (busy : Option ℕ) → busy ≡ Some t → is_busy t busy ≡ false
free_at_end t busy e = ap (is_busy t) e ∙ over t
  where
    over : (t : ℕ) → nat_lt t t ≡ false
    over t = grind (arith, nat_tests)

-- with nothing held the line is free; else the timer comes as the transmission ends
abbrev IsFit : List Outgoing → Line → Type 0
IsFit [] l = is_busy l.time l.busy_until ≡ false
IsFit (m ∷ ms) l = IfSome l.busy_until IsTime → l.due ≡ l.busy_until

-- the same, once a call that is for no timer has come
fit_later : (held : List Outgoing) (l : Line) (time : ℕ) → l.time ≤ time → IsFit held l → IsFit held (reached false time l)
fit_later [] l time later fit = still_free l.time time l.busy_until later fit
fit_later (m ∷ ms) l time later fit = fit

-- ---- one call

abbrev GoesWell : ℕ → Line → List Action → L2Queue → Type 0
GoesWell rate l actions next = FindFree rate l actions × IsFit next.held (acted_all rate actions l)

-- a message goes where the line is free
goes : (rate : ℕ) (l : Line) (m : Outgoing) → IfSome (Some (l.time + duration_of m.bits rate)) IsTime → Some (l.time + line_time m.bits rate) ≡ Some (l.time + duration_of m.bits rate)
goes rate l m h =
    let d : ℕ = duration_of m.bits rate in
    let short : duration_of m.bits rate ≤ greatest = less l.time (duration_of m.bits rate) h in
    ap (λ n. Some (l.time + n)) (line_time_is m.bits rate short)
  where
    less : (a b : ℕ) → a + b ≤ greatest → b ≤ greatest
    less a b h = omega (arith, h)

abbrev datarate_of : Option Value → ℕ
datarate_of v = value_or 0 (rate_found v)

datarate_is : (rate : ℕ) (v : Option Value) → v ≡ Some (Quantity Rate (pos rate)) → datarate_of v ≡ rate
datarate_is rate v e = ap datarate_of e

joined-well : (rate : ℕ) (held : List Outgoing) (m : Outgoing) (l : Line) (call : Call) → HasDatarate rate call → IsFit held l → EndsAs (GoesWell rate l) call (joined held m)
joined-well rate [] m l call has fit = λ capacity e1 datarate e2.
    by_verdict (GoesWell rate l) _ _ (holding []) (holding (m ∷ []))
    (tt, fit) (λ name. ((refl, tt), fit))
    (subst (λ d. GoesWell rate l (Emit (codes "busy") (pos 1) ∷ departed d m) (holding (m ∷ []))) (sym (datarate_is rate datarate (sym e2 ∙ has)))
    ((refl, (fit, (refl, tt))), goes rate l m))
joined-well rate (front ∷ rest) m l call has fit = λ capacity e1. by (int_le (pos (length (front ∷ rest))) (value_or (pos 0) (whole_found capacity))) (judged (codes "capacity") (whole_found capacity) verdict.Good)
  where
    by : (there : Bool) (v : Verdict) → EndsAs (GoesWell rate l) call (admitted there (front ∷ rest) m v)
    by true verdict.Good = ((refl, tt), fit)
    by true (verdict.Wrong name) = ((refl, tt), fit)
    by true verdict.Missing = (tt, fit)
    by false verdict.Good = ((refl, tt), fit)
    by false (verdict.Wrong name) = ((refl, tt), fit)
    by false verdict.Missing = (tt, fit)

freed-well : (rate : ℕ) (held : List Outgoing) (l : Line) (time : ℕ) (call : Call) → HasDatarate rate call → l.time ≤ time → IfSome l.busy_until IsTime → l.due ≡ Some time → IsFit held l
    → EndsAs (GoesWell rate (reached true time l)) call (freed held)
freed-well rate [] l time call has later known due fit = (tt, still_free l.time time l.busy_until later fit)
freed-well rate (front ∷ []) l time call has later known due fit = ((refl, tt), free_at_end time l.busy_until (sym (fit known) ∙ due))
freed-well rate (front ∷ next ∷ rest) l time call has later known due fit = λ datarate e.
    let free : is_busy time l.busy_until ≡ false = free_at_end time l.busy_until (sym (fit known) ∙ due) in
    subst (λ v. GoesWell rate (reached true time l) (allowed (judged (codes "datarate") (rate_found v) verdict.Good) (second_sent (datarate_of v) (front ∷ next ∷ rest)))
    (left (judged (codes "datarate") (rate_found v) verdict.Good) (holding (front ∷ next ∷ rest)) (holding (next ∷ rest)))) (sym has ∙ e)
    ((free, (refl, (refl, tt))), goes rate (reached true time l) next)

quiet-well : (rate : ℕ) (held : List Outgoing) (l : Line) (time : ℕ) → l.time ≤ time → IsFit held l → GoesWell rate (reached false time l) [] (holding held)
quiet-well rate held l time later fit = (tt, fit_later held l time later fit)

freed_if-well : (is_due : Bool) (rate : ℕ) (held : List Outgoing) (l : Line) (time : ℕ) (call : Call) → HasDatarate rate call → l.time ≤ time → IfSome l.busy_until IsTime → (IsTrue is_due → l.due ≡ Some time)
    → IsFit held l → EndsAs (GoesWell rate (reached is_due time l)) call (freed_if is_due held)
freed_if-well true rate held l time call has later known due fit = freed-well rate held l time call has later known (due refl) fit
freed_if-well false rate held l time call has later known due fit = quiet-well rate held l time later fit

joined_if-well : (there : Bool) (rate : ℕ) (held : List Outgoing) (m : Outgoing) (l : Line) (call : Call) → HasDatarate rate call → IsFit held l → EndsAs (GoesWell rate l) call (joined_if there held m)
joined_if-well true rate held m l call has fit = joined-well rate held m l call has fit
joined_if-well false rate held m l call has fit = (tt, fit)

no_timer : (origin : Origin) → is_from (codes "in") origin ≡ true → is_timer origin ≡ false
no_timer (Gate name index) e = refl
no_timer (Timer number) e = sym e
no_timer Outside e = refl

heard-well : (hears : Bool) (rate : ℕ) (held : List Outgoing) (m : Message) (l : Line) (time : ℕ) (call : Call) → is_from (codes "in") m.origin ≡ hears → HasDatarate rate call → l.time ≤ time → IfSome l.busy_until IsTime
    → (IsTrue (is_timer m.origin) → l.due ≡ Some time) → IsFit held l → EndsAs (GoesWell rate (reached (is_timer m.origin) time l)) call (heard hears held m)
heard-well true rate held m l time call e has later known due fit =
    subst (λ b. EndsAs (GoesWell rate (reached b time l)) call (joined_if (can_be_held m) held (kept m))) (sym (no_timer m.origin e))
    (joined_if-well (can_be_held m) rate held (kept m) (reached false time l) call has (fit_later held l time later fit))
heard-well false rate held m l time call e has later known due fit = freed_if-well (is_timer m.origin) rate held l time call has later known due fit

told-well : (p : CallReason) (rate : ℕ) (held : List Outgoing) (l : Line) (time : ℕ) (call : Call) → HasDatarate rate call → l.time ≤ time → IfSome l.busy_until IsTime
    → (IsTrue (is_for_timer p) → l.due ≡ Some time) → IsFit held l → EndsAs (GoesWell rate (reached (is_for_timer p) time l)) call (told_by p held)
told-well (prompt.Initialize stage) rate held l time call has later known due fit = quiet-well rate held l time later fit
told-well (prompt.Message m) rate held l time call has later known due fit = heard-well (is_from (codes "in") m.origin) rate held m l time call refl has later known due fit
told-well prompt.Finish rate held l time call has later known due fit = quiet-well rate held l time later fit

one_well : (rate : ℕ) (q : L2Queue) (l : Line) (call : Call) → HasDatarate rate call → ComesInTime l call → IsFit q.held l
    → GoesWell rate (comes_to call l) (answered l2_queue_script q call).reply.actions (answered l2_queue_script q call).state
unfolding l2_queue_script
one_well rate q l call has comes fit =
    told_ends (GoesWell rate (comes_to call l)) (told_by call.prompt q.held) call (told-well call.prompt rate q.held l call.time call has comes.later comes.transmitted comes.on_time fit)

-- ---- all calls

well_from : (rate : ℕ) (q : L2Queue) (l : Line) (calls : List Call) → Each (HasDatarate rate) calls → ComeInTime rate l (turns_from l2_queue_script q calls) → IsFit q.held l
    → NeverFindBusy rate l (turns_from l2_queue_script q calls)
well_from rate q l [] has comes fit = tt
well_from rate q l (call ∷ calls) has comes fit =
    let one = one_well rate q l call has.0 comes.0 fit in
    (one.0, well_from rate (answered l2_queue_script q call).state (acted_all rate (answered l2_queue_script q call).reply.actions (comes_to call l)) calls has.1 comes.1 one.1)

nothing_held : IsFit l2_queue_script.initial.held unused
unfolding l2_queue_script
nothing_held = refl

pub never_busy : (rate : ℕ) (calls : List Call) → Each (HasDatarate rate) calls → ComeInTime rate unused (turns_from l2_queue_script l2_queue_script.initial calls)
    → NeverFindBusy rate unused (turns_from l2_queue_script l2_queue_script.initial calls)
never_busy rate calls has comes = well_from rate l2_queue_script.initial unused calls has comes nothing_held
