-- A model that answers nothing.
use Rattle.std.specs.Prelude.{[], None}
use Rattle.model_questions.specs.declared.answer.Answer.TheVariants as answer
use Rattle.model_questions.specs.Answers.{Answers}

-- NO ANSWERS: there is no network, no module and no message from outside
abbrev pub unanswered : Answers
unanswered = record {
  root = answer.Absent;
  class_there = λ p. answer.Absent;
  inside = λ p. answer.Absent;
  names = λ p. [];
  value = λ p name. answer.Absent;
  gates = λ p. [];
  hop = λ p name index. answer.Absent;
  hop_back = λ p name index. answer.Absent;
  time_limit = None;
  injections = [];
}
