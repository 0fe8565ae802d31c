-- What two models have in common.
use Rattle.std.specs.Prelude.{◌≡◌, Bool, true, ◌&&◌, List, [], ◌∷◌}
use Rattle.model_questions.specs.declared.answer.AskedQuestion.{AskedQuestion}
use Rattle.model_questions.specs.declared.answer.Question.{Question}
use Rattle.model_questions.specs.declared.answer.Question.TheVariants.{Root, TypeOf, Build, Param}
use Rattle.model_questions.specs.declared.answer.Question.TheVariants.{GateSize, Hop, HopBack}
use Rattle.model_questions.specs.declared.answer.Question.TheVariants.{BeyondLimit, InjectionBefore}
use Rattle.model_questions.specs.declared.record.Record.{Record}
use Rattle.model_questions.specs.Answers.{Answers, answer_of}
use Rattle.model_questions.specs.Questions.{is_of_modules}
use Rattle.model_agreement.specs.declared.common.Common.{Common}

-- What is said to be common to two models is.
pub record IsCommon (m n : Answers) (c : Common) : Type 0 where
  pub modules_are : c.modules ≡ true → (rs : List Record) (q : Question) → is_of_modules q ≡ true
      → answer_of m rs q ≡ answer_of n rs q
  pub limit_is : c.limit ≡ true → m.time_limit ≡ n.time_limit
  pub injections_are : c.injections ≡ true → m.injections ≡ n.injections

-- whether a question is about what is common alone
abbrev pub is_about : Common → Question → Bool
is_about c Root = c.modules
is_about c (TypeOf id) = c.modules
is_about c (Build id) = c.modules
is_about c (Param id name) = c.modules
is_about c (GateSize id name) = c.modules
is_about c (Hop id name index) = c.modules
is_about c (HopBack id name index) = c.modules
is_about c (BeyondLimit time) = c.limit
is_about c (InjectionBefore due last) = c.injections

-- whether these questions are
abbrev pub are_about : Common → List AskedQuestion → Bool
are_about c [] = true
are_about c (a ∷ rest) = is_about c a.question && are_about c rest
