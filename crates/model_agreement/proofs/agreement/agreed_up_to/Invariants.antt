use Rattle.std.proofs.Common.{◌≤◌, Option, ℕ, drop}
use Rattle.model_answers.specs.Answering.{answers_of}
use Rattle.run_question_log.specs.Entries.{noted_in}
use Rattle.run_semantics.specs.Agreement.{IsAgreement}
use Rattle.model_agreement.proofs.agreement.agreed_up_to.Given as goal

abbrev pub invariant-loop-entry : goal.invariant-loop-entry
invariant-loop-entry l = record {
  within : l.valid ≤ l.last;
  rest : (found : Option ℕ) → IsAgreement (answers_of l.one) (answers_of l.other) l.records l.valid (noted_in (drop l.entry-index l.asked)) found
      → IsAgreement (answers_of l.one) (answers_of l.other) l.records l.last (noted_in l.asked) found;
}
