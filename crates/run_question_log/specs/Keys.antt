-- The questions about modules among those that were asked.
use Rattle.std.specs.Prelude.{◌≡◌, true, false, List, [], ◌∷◌}
use Rattle.std.specs.List.{list_any}
use Rattle.model_questions.specs.declared.answer.AskedQuestion.{AskedQuestion}
use Rattle.model_questions.specs.declared.answer.Question.{Question}
use Rattle.model_questions.specs.Questions.{same_question, is_of_modules}
use Rattle.run_semantics.specs.World.{is_asked}

-- each question about modules stands there once; what is asked of a time is never the same
abbrev pub AreAskedOnce : List AskedQuestion → Type 0
AreAskedOnce [] = Unit {0}
AreAskedOnce (a ∷ rest) = (is_asked a.question rest ≡ false) × AreAskedOnce rest

-- These are the questions about modules among those that were asked: one is among them exactly
-- where it was asked, and it was asked once.
pub record AreKeysOf (asked : List AskedQuestion) (keys : List Question) : Type 0 where
  pub found : (q : Question) → is_of_modules q ≡ true
      → list_any (same_question q) keys ≡ is_asked q asked
  pub once : AreAskedOnce asked
