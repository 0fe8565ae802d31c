-- What comes next in a run, step by step.
use Rattle.std.specs.Prelude.{◌≡◌, ℕ, ◌+◌, map, Bool, true, false, List, [], ◌∷◌, ◌++◌, Option}
use Rattle.std.specs.Prelude.{Some, None, Result, Ok, Err, is_some, if◌then◌else◌}
use Rattle.model_questions.specs.declared.answer.AskedQuestion.{AskedQuestion}
use Rattle.model_questions.specs.declared.answer.Question.TheVariants.{InjectionBefore}
use Rattle.model_questions.specs.Answers.{is_beyond}
use Rattle.run_semantics.specs.declared.outcome.Outcome.{Outcome}
use Rattle.run_semantics.specs.declared.outcome.Outcome.TheVariants.{NoMoreEvents, TimeLimit}
use Rattle.event_set.specs.declared.pending.Pending.{Pending}
use Rattle.event_set.specs.Events.{last_started}
use Rattle.run_semantics.specs.World.{World, asked_next}
use Rattle.run_semantics.specs.Event.{begun}
use Rattle.run_semantics.specs.Starting.{starting}
use Rattle.run_semantics.specs.Upcoming.{Upcoming, Comes, Nothing, first_due, first_of}
use Rattle.kernel_actions.specs.declared.looks.Look.{Look}
use Rattle.kernel_actions.specs.declared.looks.LookedAt.{LookedAt}
use Rattle.kernel_actions.specs.declared.looks.Next.{Next}
use Rattle.kernel_actions.specs.declared.looks.Next.TheVariants as next

-- the questions that these looks ask, in that event
abbrev pub asked_in : ℕ → List LookedAt → List AskedQuestion
asked_in event looks =
    map (λ (l : LookedAt). record { event = event; question = InjectionBefore l.due l.last }) looks

-- the world in which all is noted that was asked to know what comes next
abbrev pub looked : World → Look → World
looked w look = record w {
  delivered = look.delivered;
  questions = w.questions ++ asked_in (w.count + 1) look.asked;
}

-- what comes next of a world, in code
abbrev pub upcoming_of : Next → World → Upcoming
upcoming_of next.First w = first_of w w.pending
upcoming_of (next.Arrival p) w = Comes w p w.pending
upcoming_of next.Nothing w = Nothing w

-- what is asked for an injection is noted
abbrev pub with_injection_asked : World → World
with_injection_asked w = asked_next (InjectionBefore (first_due w.pending) w.delivered) w

-- the modules that an event starts, which is for the first of them
abbrev pub starts_by : ℕ → Option ℕ → World → List ℕ
starts_by first None w = []
starts_by first (Some last) w = starting first last w

-- those that the first of these events starts, where it is not later than this limit
abbrev pub first_starts : Option ℕ → World → List Pending → List ℕ
first_starts limit w [] = []
first_starts limit w (p ∷ rest) = if is_beyond limit p.time then []
    else starts_by p.id (last_started p.what) w

-- whether the first of these events starts modules
abbrev pub is_start_first : List Pending → Bool
is_start_first [] = false
is_start_first (p ∷ rest) = is_some (last_started p.what)

-- whether the first of these events is later than this limit
abbrev pub first_is_beyond : Option ℕ → List Pending → Bool
first_is_beyond limit [] = false
first_is_beyond limit (p ∷ rest) = is_beyond limit p.time

-- an event begins, where it is not later than this limit
pub record BeginsWith (limit : Option ℕ) (u : Upcoming) (p : Pending) (after : World) : Type 0 where
  pub world : World
  pub rest : List Pending
  pub comes : u ≡ Comes world p rest
  pub in_time : is_beyond limit p.time ≡ false
  pub begins : after ≡ begun p rest world

-- nothing comes
pub record HasNone (u : Upcoming) (before after : World) : Type 0 where
  pub world : World
  pub none : u ≡ Nothing world
  pub same : after ≡ before

-- what comes is too late
pub record IsTooLate (limit : Option ℕ) (u : Upcoming) (before after : World) : Type 0 where
  pub world : World
  pub event : Pending
  pub rest : List Pending
  pub comes : u ≡ Comes world event rest
  pub late : is_beyond limit event.time ≡ true
  pub same : after ≡ before

-- WHAT BEGINS, where the time limit is this one: an event; or nothing, and then the world is what
-- it was
abbrev pub Begins : Option ℕ → Upcoming → World → Result Pending Outcome → World → Type 0
Begins limit u before (Ok p) after = BeginsWith limit u p after
Begins limit u before (Err NoMoreEvents) after = HasNone u before after
Begins limit u before (Err TimeLimit) after = IsTooLate limit u before after
Begins limit u before (Err _) after = ⊥
