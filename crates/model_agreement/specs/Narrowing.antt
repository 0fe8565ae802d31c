-- The agreement of two models, question by question.
use Rattle.std.specs.Prelude.{ℕ, ◌≤◌, List, ◌++◌, Option, Some, None}
use Rattle.model_questions.specs.declared.answer.AskedQuestion.{AskedQuestion}
use Rattle.model_questions.specs.Answers.{Answers}
use Rattle.model_questions.specs.declared.record.Record.{Record}
use Rattle.run_semantics.specs.Agreement.{IsAgreement}

-- What some questions leave of the events up to k: whatever questions follow, the agreement on them
-- up to there is the agreement with these before them up to k; or there is none
abbrev pub Narrows : Answers → Answers → List Record → List AskedQuestion → ℕ → Option ℕ → Type 0
Narrows m n records asked k (Some left) = (left ≤ k)
    × ((rest : List AskedQuestion) (found : Option ℕ) → IsAgreement m n records left rest found
    → IsAgreement m n records k (asked ++ rest) found)
Narrows m n records asked k None = (rest : List AskedQuestion)
    → IsAgreement m n records k (asked ++ rest) None
