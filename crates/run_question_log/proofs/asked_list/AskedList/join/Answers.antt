use Rattle.std.proofs.Common.{◌≡◌, ◌-◌, List, ◌∷◌, [], ◌++◌, length, set, sym, ap, ◌∙◌, arith}
use Rattle.std.specs.List.{slice_get}
use Rattle.run_question_log.specs.declared.entry.LogEntry.{LogEntry}
use Rattle.run_question_log.specs.Entries.{noted_in}
use Rattle.run_question_log.proofs.Noted.{twice_at_most, noted_joined, counted_more}
use Rattle.run_question_log.proofs.asked_list.AskedList.join.Goals as goal

-- there are fewer than 2 ^ 63 entries, so one question more can be counted
pub overflow_add-self : goal.overflow_add-self
overflow_add-self c =
    let entries = c.self.inside.entries in
    omega (arith, twice_at_most entries.items, c.self.invariant, entries.ok.0, entries.ok.1, entries.small)

joined : (c : goal.After-self-2-1) → noted_in (set c.self.inside.entries.items (c.len-place.result - 1) c.in-Some-joined.both) ≡ noted_in c.self.inside.entries.items ++ record { event = c.args.event; question = c.args.question.now } ∷ []
joined c =
    let entries = c.self.inside.entries in
    let place : c.len-place.result - 1 ≡ length entries.items - 1 = ap (λ n. n - 1) (c.len-place.ensures ∙ entries.ok.0) in
    noted_joined _ c.in-Some.last.now c.in-Some-joined.both entries.items (c.len-place.result - 1) place
    (ap (slice_get entries.items) place ∙ sym (c.in-Some.ensures.value ∙ ap (λ (es : List LogEntry). slice_get es (length es - 1)) c.deref.ensures.value))
    c.in-Some-joined.ensures

pub invariant_of-self : goal.invariant_of-self
invariant_of-self c =
    counted_more (record { event = c.args.event; question = c.args.question.now }) c.self.inside.count (noted_in c.self.inside.entries.items)
    (noted_in (set c.self.inside.entries.items (c.len-place.result - 1) c.in-Some-joined.both)) c.self.invariant (joined c)

pub returns : goal.returns
returns c = joined c ∙ ap (λ qs. qs ++ record { event = c.args.event; question = c.args.question.now } ∷ []) c.self.view_is
