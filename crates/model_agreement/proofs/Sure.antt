-- What is known of two models before they are asked.
use Rattle.std.proofs.Common.{◌≡◌, ◌⊎◌, inl, inr, Bool, true, false, ◌&&◌, ◌||◌, List, refl, sym, ◌∙◌}
use Rattle.model_data.specs.declared.model.Model.{Model}
use Rattle.model_answers.specs.Answering.{answers_of}
use Rattle.model_questions.specs.declared.answer.AskedQuestion.{AskedQuestion}
use Rattle.model_questions.specs.declared.answer.Question.{Question}
use Rattle.model_questions.specs.declared.record.Record.{Record}
use Rattle.model_questions.specs.Answers.{answer_of}
use Rattle.run_semantics.specs.Agreement.{Agrees}
use Rattle.model_agreement.specs.declared.known.Known.{Known}
use Rattle.model_agreement.specs.Changes.{is_spared, AreAlikeBut}
use Rattle.model_agreement.specs.Common.{are_about, is_about, IsCommon}
use Rattle.model_agreement.specs.Known.{is_sure, IsKnown}
use Rattle.model_agreement.proofs.Commons.{alike, all_alike}
use Rattle.model_agreement.proofs.Spared.{spared_alike}

either : (a b c : Bool) → (a || (b && c)) ≡ true → (a ≡ true) ⊎ ((b ≡ true) × (c ≡ true))
either true b c e = inl refl
either false true true e = inr (refl, refl)
either false true false e = cc
either false false c e = cc

-- where it is known, both give the same answer
pub sure_alike : (m n : Model) (k : Known) (rs : List Record) (q : Question) → IsKnown m n rs k → is_sure k rs q ≡ true → answer_of (answers_of m) rs q ≡ answer_of (answers_of n) rs q
sure_alike m n k rs q h e = by (either (is_about k.common q) k.alike (is_spared k.changed.now rs q) e)
  where
    by : (is_about k.common q ≡ true) ⊎ ((k.alike ≡ true) × (is_spared k.changed.now rs q ≡ true)) → answer_of (answers_of m) rs q ≡ answer_of (answers_of n) rs q
    by (inl a) = alike (answers_of m) (answers_of n) k.common rs q h.common a
    by (inr b) = spared_alike m n k.changed.now rs q (h.alike b.0) b.1

pub all_known : (m n : Model) (k : Known) (rs : List Record) (asked : List AskedQuestion) → IsKnown m n rs k → are_about k.common asked ≡ true → Agrees (answers_of m) (answers_of n) rs asked
all_known m n k rs asked h e = all_alike (answers_of m) (answers_of n) k.common rs asked h.common e

-- where nothing is said of parameters, what is common is all that is known
pub in_common_alone : (m n : Model) (rs : List Record) (k : Known) → IsCommon (answers_of m) (answers_of n) k.common → k.alike ≡ false → IsKnown m n rs k
in_common_alone m n rs k h e = record { common = h; alike = λ t. absurd (unequal (sym e ∙ t)) }
  where
    unequal : false ≡ true → ⊥
    unequal i = cc

pub alike_too : (m n : Model) (rs : List Record) (k : Known) → IsCommon (answers_of m) (answers_of n) k.common → AreAlikeBut m n k.changed.now rs → IsKnown m n rs k
alike_too m n rs k h a = record { common = h; alike = λ t. a }
