-- The questions that entries stand for.
use Rattle.std.proofs.Common.{◌≡◌, ℕ, ◌+◌, ◌-◌, ◌*◌, ◌≤◌, List, [], ◌∷◌, ◌++◌, Option, Some, length, set, take, sym, ap, ◌∙◌, arith, append_assoc, append-nil, length-append}
use Rattle.std.specs.List.{slice_get}
use Rattle.std.proofs.lemmas.List.{take_all, take_more, take_more_set, length-set, length_push}
use Rattle.std.proofs.lemmas.Option.{get_or_from_slice_get, slice_get_within}
use Rattle.model_questions.specs.declared.answer.AskedQuestion.{AskedQuestion}
use Rattle.run_question_log.specs.declared.entry.LogEntry.{LogEntry}
use Rattle.run_question_log.specs.declared.entry.LogEntry.TheVariants.{BeyondLimit, FirstInjection, Both, Other}
use Rattle.run_question_log.specs.Entries.{asked_in, asked_in_any, noted_in}

-- one entry more
pub noted_push : (entries : List LogEntry) (entry : LogEntry) → noted_in (entries ++ entry ∷ []) ≡ noted_in entries ++ asked_in entry
noted_push [] entry = append-nil (asked_in entry)
noted_push (e ∷ rest) entry = ap (λ qs. asked_in e ++ qs) (noted_push rest entry) ∙ sym (append_assoc (asked_in e) (noted_in rest) (asked_in entry))

-- an entry that stands for one question
pub noted_one_more : (a : AskedQuestion) (entry : LogEntry) (entries more : List LogEntry) → more ≡ entries ++ entry ∷ [] → asked_in entry ≡ a ∷ []
    → noted_in more ≡ noted_in entries ++ a ∷ []
noted_one_more a entry entries more m e = ap noted_in m ∙ noted_push entries entry ∙ ap (λ qs. noted_in entries ++ qs) e

two_at_most : (entry : LogEntry) → length (asked_in entry) ≤ 2
two_at_most (BeyondLimit event time) = omega arith
two_at_most (FirstInjection priority event time) = omega arith
two_at_most (Both priority event time) = omega arith
two_at_most (Other event q) = omega arith

-- no more than two questions for each entry
pub twice_at_most : (entries : List LogEntry) → length (noted_in entries) ≤ 2 * length entries
twice_at_most [] = omega arith
twice_at_most (e ∷ rest) = omega (arith, two_at_most e, twice_at_most rest, length-append (asked_in e) (noted_in rest))

at_the_end : (entries : List LogEntry) (place : ℕ) (last : LogEntry) → place + 1 ≡ length entries → slice_get entries place ≡ Some last → entries ≡ take place entries ++ last ∷ []
at_the_end entries place last end is =
    sym (take_all (place + 1) entries (omega (arith, end))) ∙ take_more entries place last (omega (arith, end))
    ∙ ap (λ e. take place entries ++ e ∷ []) (get_or_from_slice_get entries place last last is)

set_at_the_end : (entries : List LogEntry) (place : ℕ) (entry : LogEntry) → place + 1 ≡ length entries → set entries place entry ≡ take place entries ++ entry ∷ []
set_at_the_end entries place entry end =
    sym (take_all (place + 1) (set entries place entry) (omega (arith, end, length-set entries place entry)))
    ∙ take_more_set entries place entry (omega (arith, end))

-- the last entry is replaced by one that stands for one question more
pub noted_joined : (a : AskedQuestion) (last both : LogEntry) (entries : List LogEntry) (place : ℕ) → place ≡ length entries - 1 → slice_get entries place ≡ Some last
    → asked_in both ≡ asked_in last ++ a ∷ [] → noted_in (set entries place both) ≡ noted_in entries ++ a ∷ []
noted_joined a last both entries place p is e =
    let within = slice_get_within entries place last is in
    let end : place + 1 ≡ length entries = omega (arith, p, within) in
    ap noted_in (set_at_the_end entries place both end) ∙ noted_push (take place entries) both
    ∙ ap (λ qs. noted_in (take place entries) ++ qs) e ∙ sym (append_assoc (noted_in (take place entries)) (asked_in last) (a ∷ []))
    ∙ ap (λ qs. qs ++ a ∷ []) (sym (noted_push (take place entries) last) ∙ ap noted_in (sym (at_the_end entries place last end is)))

-- the last entry is replaced by what is noted of its questions but the last
pub noted_parted : (a : AskedQuestion) (entry : LogEntry) (before : Option LogEntry) (old left new : List LogEntry) → old ≡ left ++ entry ∷ []
    → asked_in entry ≡ asked_in_any before ++ a ∷ [] → noted_in new ≡ noted_in left ++ asked_in_any before → noted_in old ≡ noted_in new ++ a ∷ []
noted_parted a entry before old left new o e n =
    ap noted_in o ∙ noted_push left entry ∙ ap (λ qs. noted_in left ++ qs) e ∙ sym (append_assoc (noted_in left) (asked_in_any before) (a ∷ []))
    ∙ ap (λ qs. qs ++ a ∷ []) (sym n)

-- one more is counted
pub counted_more : (a : AskedQuestion) (count : ℕ) (old new : List AskedQuestion) → count ≡ length old → new ≡ old ++ a ∷ [] → count + 1 ≡ length new
counted_more a count old new c n = ap (λ k. k + 1) c ∙ sym (ap length n ∙ length_push old a)
