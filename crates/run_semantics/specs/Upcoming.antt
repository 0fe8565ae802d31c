-- What comes next in a run: an event, or an injection that goes before it.
use Rattle.std.specs.Prelude.{ℕ, zero, suc, List, [], ◌∷◌, Option, Some, None, bytes_eq, length}
use Rattle.std.specs.Prelude.{if◌then◌else◌}
use Rattle.model_questions.specs.declared.answer.Answer.{Answer}
use Rattle.model_questions.specs.declared.answer.Answer.TheVariants as answer
use Rattle.model_questions.specs.declared.answer.Question.TheVariants.{InjectionBefore}
use Rattle.model_injections.specs.declared.injection.Due.{Due}
use Rattle.model_injections.specs.declared.injection.Injection.{Injection}
use Rattle.model_questions.specs.Answers.{Answers, answer_of}
use Rattle.model_questions.specs.declared.record.Record.{Record}
use Rattle.model_injections.specs.Injections.{turn_of}
use Rattle.model_questions.specs.Records.{path_of}
use Rattle.event_set.specs.declared.pending.Happening.TheVariants.{Arrival}
use Rattle.event_set.specs.declared.pending.Pending.{Pending}
use Rattle.run_semantics.specs.declared.traces.Instance.{Instance}
use Rattle.run_semantics.specs.World.{World, asked_next}

-- when the first of the events to come is due
abbrev pub first_due : List Pending → Option Due
first_due [] = None
first_due (p ∷ rest) = Some (record { time = p.time; priority = p.priority })

-- ---- an injection

-- it is delivered, with all that go before it
abbrev pub delivered : Injection → World → World
delivered i w = record w { delivered = Some (turn_of i) }

-- the simple module that stands at a path
abbrev pub id_at : List Record → List ℕ → List Instance → Option ℕ
id_at records path [] = None
id_at records path (i ∷ is) = if bytes_eq (path_of records i.id) path then Some i.id
    else id_at records path is

abbrev pub target_of : List ℕ → World → Option ℕ
target_of path w = id_at w.records path w.modules

-- the event that it becomes, of the module of that id; it is never among those to come, and its
-- insertion number says nothing
abbrev pub arrival : Injection → ℕ → Pending
arrival i id = record {
  time = i.due.time;
  priority = i.due.priority;
  number = 0;
  id = id;
  what = Arrival i.kind i.bits i.payload;
}

-- ---- what comes next

-- An event comes, and the rest of those to come stays; or nothing comes. In the world beside it is
-- noted what was asked, and which injections were delivered.
pub data Upcoming : Type 0 where
  Comes : (world : World) (event : Pending) (rest : List Pending) → Upcoming
  Nothing : (world : World) → Upcoming

-- no injection goes before the first of the events to come
abbrev pub first_of : World → List Pending → Upcoming
first_of w [] = Nothing w
first_of w (p ∷ rest) = Comes w p rest

-- An injection goes first. Where no simple module stands at its path it is discarded, and does no
-- more than count as delivered.
abbrev pub aimed : (World → Upcoming) → World → List Pending → Injection → Option ℕ → Upcoming
aimed go_on w ps i (Some id) = Comes w (arrival i id) ps
aimed go_on w ps i None = go_on w

abbrev pub chosen : (World → Upcoming) → World → List Pending → Answer → Upcoming
chosen go_on w ps (answer.Injection (Some i)) =
    aimed go_on (delivered i w) ps i (target_of i.path w)
chosen go_on w ps (answer.Injection None) = first_of w ps
chosen go_on w ps (answer.Root name) = first_of w ps
chosen go_on w ps (answer.Class class) = first_of w ps
chosen go_on w ps (answer.Inside bs) = first_of w ps
chosen go_on w ps (answer.Value v) = first_of w ps
chosen go_on w ps (answer.Gate g) = first_of w ps
chosen go_on w ps (answer.Next next) = first_of w ps
chosen go_on w ps (answer.Fault path f) = first_of w ps
chosen go_on w ps (answer.Beyond beyond) = first_of w ps
chosen go_on w ps answer.Absent = first_of w ps

-- what comes next, where at most so many looks are taken at injections: each look but the last
-- delivers one
abbrev pub upcoming_in : ℕ → Answers → List Pending → World → Upcoming
upcoming_in zero m ps w = Nothing w
upcoming_in (suc left) m ps w =
    chosen (upcoming_in left m ps) (asked_next (InjectionBefore (first_due ps) w.delivered) w) ps
    (answer_of m w.records (InjectionBefore (first_due ps) w.delivered))

-- WHAT COMES NEXT, where at most all injections of the model are discarded before it: as many looks
-- as it has injections, and one
unfoldable pub upcoming : Answers → World → Upcoming
upcoming m w = upcoming_in (suc (length m.injections)) m w.pending w
