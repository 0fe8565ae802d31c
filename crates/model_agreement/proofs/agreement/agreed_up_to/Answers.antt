use Rattle.std.proofs.Common.{◌≡◌, suc, ◌∷◌, [], List, Some, None, sym, ap, ◌∙◌, subst, drop}
use Rattle.std.proofs.Math.Seq.{drop-cons}
use Rattle.std.proofs.lemmas.List.{drop_all}
use Rattle.model_answers.specs.Answering.{answers_of}
use Rattle.run_question_log.specs.declared.entry.LogEntry.{LogEntry}
use Rattle.run_question_log.specs.Entries.{asked_in, noted_in}
use Rattle.run_semantics.specs.Agreement.{IsAgreement}
use Rattle.model_agreement.specs.Narrowing.{Narrows}
use Rattle.model_agreement.proofs.Agreed.{none_left}
use Rattle.model_agreement.proofs.agreement.agreed_up_to.Goals as goal

pub returns-in-None : goal.returns-in-None
returns-in-None c =
    let narrows = subst (Narrows (answers_of c.args.one.now) (answers_of c.args.other.now) c.args.records.now (asked_in c.entry-item.result) c.loop-entry.valid) c.in-None.is c.in_ok-left.ensures in
    let behind : List LogEntry = drop (suc c.loop-entry.entry-index) c.args.asked.now in
    let here : drop c.loop-entry.entry-index c.args.asked.now ≡ c.entry-item.result ∷ behind =
    drop-cons c.args.asked.now c.loop-entry.entry-index c.entry-item.result c.loop-entry-test.true ∙ ap (λ (e : LogEntry). e ∷ behind) (sym c.entry-item.is) in
    c.loop-entry.invariant.rest None (subst (λ (es : List LogEntry). IsAgreement (answers_of c.args.one.now) (answers_of c.args.other.now) c.args.records.now c.loop-entry.valid (noted_in es) None) (sym here) (narrows (noted_in behind)))

pub returns : goal.returns
returns c =
    let none : drop c.loop-entry.entry-index c.args.asked.now ≡ [] = drop_all c.loop-entry.entry-index c.args.asked.now c.loop-entry-test.false in
    c.loop-entry.invariant.rest (Some c.loop-entry.valid)
    (subst (λ (es : List LogEntry). IsAgreement (answers_of c.args.one.now) (answers_of c.args.other.now) c.args.records.now c.loop-entry.valid (noted_in es) (Some c.loop-entry.valid)) (sym none)
    (none_left (answers_of c.args.one.now) (answers_of c.args.other.now) c.args.records.now c.loop-entry.valid))
