-- What is known of two models before they are asked.
use Rattle.std.specs.Prelude.{◌≡◌, Bool, true, ◌&&◌, ◌||◌, List}
use Rattle.model_data.specs.declared.model.Model.{Model}
use Rattle.model_answers.specs.Answering.{answers_of}
use Rattle.model_questions.specs.declared.answer.Question.{Question}
use Rattle.model_questions.specs.declared.record.Record.{Record}
use Rattle.model_agreement.specs.declared.known.Known.{Known}
use Rattle.model_agreement.specs.Changes.{is_spared, AreAlikeBut}
use Rattle.model_agreement.specs.Common.{is_about, IsCommon}

-- What is said to be common to two models is, and they are alike where it is said.
pub record IsKnown (m n : Model) (records : List Record) (k : Known) : Type 0 where
  pub common : IsCommon (answers_of m) (answers_of n) k.common
  pub alike : k.alike ≡ true → AreAlikeBut m n k.changed.now records

-- whether it is known of a question that both give it the same answer
abbrev pub is_sure : Known → List Record → Question → Bool
is_sure k records q = is_about k.common q || (k.alike && is_spared k.changed.now records q)
