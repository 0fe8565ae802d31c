-- A Dropper loses the messages that its pattern marks.
use Rattle.std.proofs.Common.{◌≡◌, ◌∙◌, ◌⊎◌, inl, inr, ℕ, ℤ, pos, suc, ◌+◌, ◌<◌, Bool, true, false, List, [], ◌∷◌, ◌++◌, length, Option, Some, codes, refl, sym, ap, subst, arith, if◌then◌else◌}
use Rattle.sim_values.specs.declared.value.Value.{Value}
use Rattle.sim_values.specs.declared.value.Value.TheVariants.{Text}
use Rattle.module_api.specs.declared.call.Call.{Call}
use Rattle.module_api.specs.declared.call.CallReason.{CallReason}
use Rattle.module_api.specs.declared.call.CallReason.TheVariants as prompt
use Rattle.module_api.specs.declared.message.Message.{Message}
use Rattle.module_api.specs.declared.message.Outgoing.{Outgoing}
use Rattle.module_api.specs.declared.reply.Action.{Action}
use Rattle.module_parts.specs.Cues.{is_from}
use Rattle.module_parts.specs.declared.looks.Verdict.TheVariants as verdict
use Rattle.module_parts.specs.Looking.{allowed, left, judged, value_or, text_found, truth_found}
use Rattle.module_parts.specs.Numbers.{limit, next_number}
use Rattle.module_stock.specs.Held.{kept}
use Rattle.module_network.specs.declared.dropper.Dropper.{Dropper}
use Rattle.module_network.specs.Dropper.{is_lost, passed, heard_if, told_by, dropper_script}
use Rattle.network_laws.specs.Lost.{message_heard, messages_heard, kept_from, lost_from, HasPattern}
use Rattle.network_laws.specs.Played.{answered, turns_from, Each, messages_in, sent_through, values_in, emitted}
use Rattle.network_laws.proofs.Ends.{EndsAs, told_ends}

-- ---- one call

abbrev through : List Action → List Outgoing
through actions = messages_in (codes "out") actions

abbrev dropped : List Action → List ℤ
dropped actions = values_in (codes "dropped") actions

abbrev dropped_if : Bool → ℕ → List ℤ
dropped_if is_so n = if is_so then pos (next_number n) ∷ [] else []

-- nothing comes, or one message, which is sent on or lost, and counted
abbrev Passes : (ℕ → Bool) → ℕ → List Outgoing → List Action → Dropper → Type 0
Passes lost n ms actions next =
    ((ms ≡ []) × (((through actions ≡ []) × (dropped actions ≡ [])) × (next.n ≡ n)))
    ⊎ ((m : Outgoing) × ((ms ≡ m ∷ []) × (((through actions ≡ kept_from lost n (m ∷ [])) × (dropped actions ≡ dropped_if (lost n) n)) × (next.n ≡ next_number n))))

passed-passes : (lost : ℕ → Bool) (is_so : Bool) (n : ℕ) (m : Outgoing) → lost n ≡ is_so → through (passed is_so (next_number n) m) ≡ kept_from lost n (m ∷ [])
passed-passes lost true n m e = ap (λ b. if b then [] else m ∷ []) (sym e)
passed-passes lost false n m e = ap (λ b. if b then [] else m ∷ []) (sym e)

passed-numbers : (is_so : Bool) (n : ℕ) (m : Outgoing) → dropped (passed is_so (next_number n) m) ≡ dropped_if is_so n
passed-numbers true n m = refl
passed-numbers false n m = refl

heard-passes : (hears : Bool) (d : Dropper) (m : Message) (pattern : List ℕ) (repeat : Bool) (call : Call) → HasPattern pattern repeat call
    → EndsAs (Passes (is_lost pattern repeat) d.n (if hears then kept m ∷ [] else [])) call (heard_if hears d m)
heard-passes true d m pattern repeat call h = λ v e w f.
    let Q : Option Value → Option Value → Type 0 = λ v w.
    Passes (is_lost pattern repeat) d.n (kept m ∷ [])
    (allowed (judged (codes "repeat") (truth_found w) (judged (codes "pattern") (text_found v) verdict.Good))
    (passed (is_lost (value_or [] (text_found v)) (value_or false (truth_found w)) d.n) (next_number d.n) (kept m)))
    (left (judged (codes "repeat") (truth_found w) (judged (codes "pattern") (text_found v) verdict.Good)) d (record { n = next_number d.n })) in
    subst (λ v. Q v w) (sym h.0 ∙ e) (subst (Q (Some (Text pattern))) (sym h.1 ∙ f)
    (inr (kept m, (refl, ((passed-passes (is_lost pattern repeat) (is_lost pattern repeat d.n) d.n (kept m) refl, passed-numbers (is_lost pattern repeat d.n) d.n (kept m)), refl)))))
heard-passes false d m pattern repeat call h = inl (refl, ((refl, refl), refl))

told-passes : (p : CallReason) (d : Dropper) (pattern : List ℕ) (repeat : Bool) (call : Call) → HasPattern pattern repeat call
    → EndsAs (Passes (is_lost pattern repeat) d.n (message_heard p)) call (told_by p d)
told-passes (prompt.Initialize stage) d pattern repeat call h = inl (refl, ((refl, refl), refl))
told-passes (prompt.Message m) d pattern repeat call h = heard-passes (is_from (codes "in") m.origin) d m pattern repeat call h
told-passes prompt.Finish d pattern repeat call h = inl (refl, ((refl, refl), refl))

one_passed : (d : Dropper) (pattern : List ℕ) (repeat : Bool) (call : Call) → HasPattern pattern repeat call
    → Passes (is_lost pattern repeat) d.n (message_heard call.prompt) (answered dropper_script d call).reply.actions (answered dropper_script d call).state
unfolding dropper_script
one_passed d pattern repeat call h = told_ends (Passes (is_lost pattern repeat) d.n (message_heard call.prompt)) (told_by call.prompt d) call (told-passes call.prompt d pattern repeat call h)

-- ---- all calls

one_more : (lost : ℕ → Bool) (n : ℕ) (m : Outgoing) (ms : List Outgoing) → kept_from lost n (m ∷ []) ++ kept_from lost (n + 1) ms ≡ kept_from lost n (m ∷ ms)
one_more lost n m ms = by (lost n)
  where
    rest : List Outgoing
    rest = kept_from lost (n + 1) ms

    by : (is_so : Bool) → (if is_so then [] else m ∷ []) ++ rest ≡ (if is_so then rest else m ∷ rest)
    by true = refl
    by false = refl

-- one call more, before the others
pass_step : (lost : ℕ → Bool) (n left : ℕ) (ms : List Outgoing) (actions : List Action) (next : Dropper) (later sent : List Outgoing)
    → Passes lost n ms actions next → n + suc left < limit
    → (next.n + left < limit → sent ≡ kept_from lost next.n later)
    → through actions ++ sent ≡ kept_from lost n (ms ++ later)
pass_step lost n left ms actions next later sent (inl (none, ((quiet, no_numbers), same))) room goes_on =
    let there : next.n + left < limit = omega (arith, same) in
    ap (λ xs. xs ++ sent) quiet ∙ (goes_on there ∙ (ap (λ k. kept_from lost k later) same ∙ ap (λ xs. kept_from lost n (xs ++ later)) (sym none)))
pass_step lost n left ms actions next later sent (inr (m, (is, ((through_is, numbers_are), more)))) room goes_on =
    let next_is : next.n ≡ n + 1 = omega (arith, more) in
    let there : next.n + left < limit = omega (arith, next_is) in
    ap (λ xs. xs ++ sent) through_is
    ∙ (ap (λ xs. kept_from lost n (m ∷ []) ++ xs) (goes_on there ∙ ap (λ k. kept_from lost k later) next_is)
    ∙ (one_more lost n m later ∙ ap (λ xs. kept_from lost n (xs ++ later)) (sym is)))

one_number_more : (lost : ℕ → Bool) (n : ℕ) (m : Outgoing) (ms : List Outgoing) → next_number n ≡ n + 1 → dropped_if (lost n) n ++ lost_from lost (n + 1) ms ≡ lost_from lost n (m ∷ ms)
one_number_more lost n m ms e = by (lost n)
  where
    rest : List ℤ
    rest = lost_from lost (n + 1) ms

    by : (is_so : Bool) → dropped_if is_so n ++ rest ≡ (if is_so then pos (n + 1) ∷ rest else rest)
    by true = ap (λ k. pos k ∷ rest) e
    by false = refl

lose_step : (lost : ℕ → Bool) (n left : ℕ) (ms : List Outgoing) (actions : List Action) (next : Dropper) (later : List Outgoing) (numbers : List ℤ)
    → Passes lost n ms actions next → n + suc left < limit
    → (next.n + left < limit → numbers ≡ lost_from lost next.n later)
    → dropped actions ++ numbers ≡ lost_from lost n (ms ++ later)
lose_step lost n left ms actions next later numbers (inl (none, ((quiet, no_numbers), same))) room goes_on =
    let there : next.n + left < limit = omega (arith, same) in
    ap (λ xs. xs ++ numbers) no_numbers ∙ (goes_on there ∙ (ap (λ k. lost_from lost k later) same ∙ ap (λ xs. lost_from lost n (xs ++ later)) (sym none)))
lose_step lost n left ms actions next later numbers (inr (m, (is, ((through_is, numbers_are), more)))) room goes_on =
    let plus : next_number n ≡ n + 1 = omega (arith, room) in
    let next_is : next.n ≡ n + 1 = more ∙ plus in
    let there : next.n + left < limit = omega (arith, next_is) in
    ap (λ xs. xs ++ numbers) numbers_are
    ∙ (ap (λ xs. dropped_if (lost n) n ++ xs) (goes_on there ∙ ap (λ k. lost_from lost k later) next_is)
    ∙ (one_number_more lost n m later plus ∙ ap (λ xs. lost_from lost n (xs ++ later)) (sym is)))

all_lost : (d : Dropper) (pattern : List ℕ) (repeat : Bool) (calls : List Call) → d.n + length calls < limit → Each (HasPattern pattern repeat) calls
    → emitted (codes "dropped") (turns_from dropper_script d calls) ≡ lost_from (is_lost pattern repeat) d.n (messages_heard calls)
all_lost d pattern repeat [] room h = refl
all_lost d pattern repeat (call ∷ calls) room h =
    lose_step (is_lost pattern repeat) d.n (length calls) (message_heard call.prompt) (answered dropper_script d call).reply.actions (answered dropper_script d call).state
    (messages_heard calls) (emitted (codes "dropped") (turns_from dropper_script (answered dropper_script d call).state calls))
    (one_passed d pattern repeat call h.0) room (λ there. all_lost (answered dropper_script d call).state pattern repeat calls there h.1)

all_passed : (d : Dropper) (pattern : List ℕ) (repeat : Bool) (calls : List Call) → d.n + length calls < limit → Each (HasPattern pattern repeat) calls
    → sent_through (codes "out") (turns_from dropper_script d calls) ≡ kept_from (is_lost pattern repeat) d.n (messages_heard calls)
all_passed d pattern repeat [] room h = refl
all_passed d pattern repeat (call ∷ calls) room h =
    pass_step (is_lost pattern repeat) d.n (length calls) (message_heard call.prompt) (answered dropper_script d call).reply.actions (answered dropper_script d call).state
    (messages_heard calls) (sent_through (codes "out") (turns_from dropper_script (answered dropper_script d call).state calls))
    (one_passed d pattern repeat call h.0) room (λ there. all_passed (answered dropper_script d call).state pattern repeat calls there h.1)

pub lost_by_pattern : (pattern : List ℕ) (repeat : Bool) (calls : List Call) → length calls < limit → Each (HasPattern pattern repeat) calls
    → sent_through (codes "out") (turns_from dropper_script dropper_script.initial calls) ≡ kept_from (is_lost pattern repeat) 0 (messages_heard calls)
unfolding dropper_script
lost_by_pattern pattern repeat calls room h = let there : 0 + length calls < limit = omega (arith, room) in all_passed dropper_script.initial pattern repeat calls there h

pub numbers_by_pattern : (pattern : List ℕ) (repeat : Bool) (calls : List Call) → length calls < limit → Each (HasPattern pattern repeat) calls
    → emitted (codes "dropped") (turns_from dropper_script dropper_script.initial calls) ≡ lost_from (is_lost pattern repeat) 0 (messages_heard calls)
unfolding dropper_script
numbers_by_pattern pattern repeat calls room h = let there : 0 + length calls < limit = omega (arith, room) in all_lost dropper_script.initial pattern repeat calls there h
