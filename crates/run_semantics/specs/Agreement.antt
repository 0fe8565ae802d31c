-- Where two models agree.
use Rattle.std.specs.Prelude.{◌≡◌, ℕ, ◌≤◌, ◌<◌, List, [], ◌∷◌, Option, Some, None}
use Rattle.model_questions.specs.declared.answer.AskedQuestion.{AskedQuestion}
use Rattle.model_questions.specs.declared.answer.Question.TheVariants.{BeyondLimit}
use Rattle.model_questions.specs.Answers.{Answers, answer_of}
use Rattle.model_questions.specs.declared.record.Record.{Record}
use Rattle.run_semantics.specs.declared.outcome.Outcome.{Outcome}
use Rattle.run_semantics.specs.declared.outcome.Outcome.TheVariants.{Ended, EventLimit}
use Rattle.run_semantics.specs.declared.outcome.Outcome.TheVariants.{NoMoreEvents, TimeLimit, Fault}
use Rattle.run_semantics.specs.World.{World, asked_next}
use Rattle.run_semantics.specs.Upcoming.{Upcoming, Comes, Nothing, upcoming}
use Rattle.run_semantics.specs.Run.{Stage, Running, Over}

-- all that was asked up to an event that did not begin, its own questions too
abbrev pub tried : Upcoming → List AskedQuestion
tried (Nothing w) = w.questions
tried (Comes w p rest) = (asked_next (BeyondLimit p.time) w).questions

-- all that was asked in a run that is over
abbrev pub questions_over : Answers → World → Outcome → List AskedQuestion
questions_over m w NoMoreEvents = tried (upcoming m w)
questions_over m w TimeLimit = tried (upcoming m w)
questions_over m w Ended = w.questions
questions_over m w EventLimit = w.questions
questions_over m w (Fault event path f) = w.questions

-- ALL THAT A RUN HAS ASKED: what is noted; and where no event was left or the time limit ended it,
-- what was asked for the event that did not begin
abbrev pub questions_of : Answers → Stage → List AskedQuestion
questions_of m (Running w) = w.questions
questions_of m (Over w outcome) = questions_over m w outcome

-- two models give each of these questions the same answer, with the modules of these records
abbrev pub Agrees : Answers → Answers → List Record → List AskedQuestion → Type 0
Agrees m n records [] = Unit {0}
Agrees m n records (a ∷ rest) = (answer_of m records a.question ≡ answer_of n records a.question)
    × Agrees m n records rest

-- the same, of the questions of the events up to v
abbrev pub AgreesUpTo : ℕ → Answers → Answers → List Record → List AskedQuestion → Type 0
AgreesUpTo v m n records [] = Unit {0}
AgreesUpTo v m n records (a ∷ rest) =
    (a.event ≤ v → answer_of m records a.question ≡ answer_of n records a.question)
    × AgreesUpTo v m n records rest

-- THE AGREEMENT of two models on a run of k events: the greatest event up to k such that all
-- questions up to it have equal answers; none where a question of event zero has not
abbrev pub IsAgreement : Answers → Answers → List Record → ℕ → List AskedQuestion
    → Option ℕ → Type 0
IsAgreement m n records k asked None = AgreesUpTo 0 m n records asked → ⊥
IsAgreement m n records k asked (Some v) =
    (v ≤ k) × AgreesUpTo v m n records asked
    × ((u : ℕ) → v < u → u ≤ k → AgreesUpTo u m n records asked → ⊥)
