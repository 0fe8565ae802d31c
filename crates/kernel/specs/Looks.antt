-- Looks at the injections of a model, to know what comes next.
use Rattle.std.specs.Prelude.{◌≡◌, ℕ, suc, Option, Some, None}
use Rattle.event_set.specs.Events.{last_started}
use Rattle.model_questions.specs.declared.answer.Answer.{Answer}
use Rattle.model_questions.specs.declared.answer.Question.TheVariants.{InjectionBefore}
use Rattle.model_questions.specs.Answers.{Answers, answer_of}
use Rattle.run_semantics.specs.World.{World}
use Rattle.run_semantics.specs.Upcoming.{first_due, upcoming_in}
use Rattle.kernel_actions.specs.declared.looks.Next.{Next}
use Rattle.kernel_actions.specs.declared.looks.Next.TheVariants as next
use Rattle.kernel_actions.specs.Upcoming.{upcoming_of}

-- the answer to what is asked for an injection
abbrev pub injection_asked : Answers → World → Answer
injection_asked m w = answer_of m w.records (InjectionBefore (first_due w.pending) w.delivered)

-- ONE LOOK: what comes next, however many injections may be discarded after it; or an injection is
-- discarded, and the next one is looked at
abbrev pub LooksOn : Answers → World → Option Next → World → Type 0
LooksOn m w (Some n) w' = (left : ℕ) → upcoming_in (suc left) m w.pending w ≡ upcoming_of n w'
LooksOn m w None w' = (left : ℕ)
    → upcoming_in (suc left) m w.pending w ≡ upcoming_in left m w.pending w'

-- what an injection becomes starts no module
abbrev pub StartsNone : Next → Type 0
StartsNone next.First = Unit {0}
StartsNone (next.Arrival p) = last_started p.what ≡ None
StartsNone next.Nothing = Unit {0}
