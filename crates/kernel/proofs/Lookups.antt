-- A parameter that a call has is one that the model answers.
use Rattle.std.proofs.Common.{◌≡◌, ℕ, true, List, Option, Some, None, is_some, refl}
use Rattle.sim_values.specs.declared.value.Value.{Value}
use Rattle.module_api.specs.declared.reply.Read.{Read}
use Rattle.module_api.specs.declared.reply.Read.TheVariants as read
use Rattle.module_api.specs.Values.{value_of}
use Rattle.model_questions.specs.Answers.{Answers, answer_of, parameters_of}
use Rattle.model_questions.specs.declared.answer.Question.TheVariants as question
use Rattle.model_questions.specs.declared.record.Record.{Record}
use Rattle.model_questions.proofs.AnswerLemmas.{told_value}
use Rattle.run_semantics.specs.Perform.{fault_of_read, question_of}
use Rattle.kernel_actions.specs.Lookups.{was_told}

told_none : (m : Answers) (records : List Record) (id : ℕ) (name : List ℕ) (o : Option Value) → value_of name (parameters_of m records id) ≡ o → is_some o ≡ true
    → fault_of_read (read.Parameter name) (answer_of m records (question.Param id name)) ≡ None
told_none m records id name None e h = cc
told_none m records id name (Some v) e h =
    rw (told_value m records id name v e) refl

-- what a call had has no fault
pub told_has_none : (m : Answers) (records : List Record) (id : ℕ) (r : Read) → was_told (parameters_of m records id) r ≡ true
    → fault_of_read r (answer_of m records (question_of id r)) ≡ None
told_has_none m records id (read.Parameter name) h = told_none m records id name (value_of name (parameters_of m records id)) refl h
told_has_none m records id (read.Gate name) h = cc
