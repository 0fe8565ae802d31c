-- What is noted of questions, and the questions that it stands for.
use Rattle.std.specs.Prelude.{◌≡◌, ℕ, List, [], ◌∷◌, ◌++◌, Option, Some, None}
use Rattle.model_questions.specs.declared.answer.AskedQuestion.{AskedQuestion}
use Rattle.model_questions.specs.declared.answer.Question.TheVariants as question
use Rattle.run_question_log.specs.declared.entry.LogEntry.{LogEntry}
use Rattle.run_question_log.specs.declared.entry.LogEntry.TheVariants.{BeyondLimit, FirstInjection}
use Rattle.run_question_log.specs.declared.entry.LogEntry.TheVariants.{Both, Other}

-- the questions that are noted so, in order, each with its event
abbrev pub asked_in : LogEntry → List AskedQuestion
asked_in (BeyondLimit event time) =
    record { event = event; question = question.BeyondLimit time } ∷ []
asked_in (FirstInjection priority event time) =
    record {
      event = event;
      question =
          question.InjectionBefore (Some (record { time = time; priority = priority })) None;
    } ∷ []
asked_in (Both priority event time) =
    record {
      event = event;
      question =
          question.InjectionBefore (Some (record { time = time; priority = priority })) None;
    }
    ∷ record { event = event; question = question.BeyondLimit time } ∷ []
asked_in (Other event q) = record { event = event; question = q } ∷ []

-- the same of an entry that may be there
abbrev pub asked_in_any : Option LogEntry → List AskedQuestion
asked_in_any None = []
asked_in_any (Some entry) = asked_in entry

-- the questions that are noted so, in order: all of one entry, then those of the next
abbrev pub noted_in : List LogEntry → List AskedQuestion
noted_in [] = []
noted_in (entry ∷ rest) = asked_in entry ++ noted_in rest

-- these questions were asked in that event
abbrev pub AreOf : ℕ → List AskedQuestion → Type 0
AreOf event [] = Unit {0}
AreOf event (a ∷ rest) = (a.event ≡ event) × AreOf event rest
