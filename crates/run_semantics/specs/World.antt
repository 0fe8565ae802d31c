-- What a run is at a moment.
use Rattle.std.specs.Prelude.{ℕ, ◌+◌, ◌-◌, ◌*◌, ◌^◌, ◌≤◌, Bool, false, List, [], ◌∷◌, ◌++◌, length}
use Rattle.std.specs.Prelude.{Option, None, if◌then◌else◌}
use Rattle.std.specs.List.{list_any}
use Rattle.model_questions.specs.declared.answer.AskedQuestion.{AskedQuestion}
use Rattle.model_questions.specs.declared.answer.Question.{Question}
use Rattle.model_injections.specs.declared.injection.InjectionTurn.{InjectionTurn}
use Rattle.model_questions.specs.declared.record.Record.{Record}
use Rattle.model_questions.specs.Questions.{same_question}
use Rattle.event_set.specs.declared.pending.Pending.{Pending}
use Rattle.run_semantics.specs.declared.routes.GateChange.{GateChange}
use Rattle.run_semantics.specs.declared.routes.Transmission.{Transmission}
use Rattle.run_semantics.specs.declared.traces.Emission.{Emission}
use Rattle.run_semantics.specs.declared.traces.Instance.{Instance}
use Rattle.run_semantics.specs.declared.traces.Scalar.{Scalar}
use Rattle.run_semantics.specs.Subtree.{among, ids_from, without}

-- A world: the clock; how many events were executed; the records of the modules that were created,
-- and the ids of those that are dead, in the order in which they died; the simple modules with
-- their states, by rising id; the ids of the modules that were started, and of those that were
-- finished; the events to come, in order, and the number of the next one that is inserted; whether
-- the end was asked for; which injection was delivered last, and with it all that go before it; the
-- last transmission that began at each gate; how gates were joined and freed, in the order in which
-- that was done; what was emitted; the scalars that modules recorded; what was asked of the model, each question with the first event that asked it.
pub record World : Type 0 where
  pub clock : ℕ
  pub count : ℕ
  pub records : List Record
  pub dead : List ℕ
  pub modules : List Instance
  pub started : List ℕ
  pub finished : List ℕ
  pub pending : List Pending
  pub next : ℕ
  pub ended : Bool
  pub delivered : Option InjectionTurn
  pub transmissions : List Transmission
  pub changes : List GateChange
  pub emissions : List Emission
  pub scalars : List Scalar
  pub questions : List AskedQuestion

-- nothing stands, and nothing happened
abbrev pub empty : World
empty = record {
  clock = 0;
  count = 0;
  records = [];
  dead = [];
  modules = [];
  started = [];
  finished = [];
  pending = [];
  next = 0;
  ended = false;
  delivered = None;
  transmissions = [];
  changes = [];
  emissions = [];
  scalars = [];
  questions = [];
}

-- THE MODULES THAT LIVE: of all that were created those that are not dead, by their ids
abbrev pub live_of : World → List ℕ
live_of w = without (ids_from 1 w.records) w.dead

-- whether the module of that id lives
abbrev pub is_live : World → ℕ → Bool
is_live w id = among id (live_of w)

-- how many these are, as no module dies twice
abbrev pub live_count : World → ℕ
live_count w = length w.records - length w.dead

-- whether a question was asked before
abbrev pub is_asked : Question → List AskedQuestion → Bool
is_asked q qs = list_any (λ (a : AskedQuestion). same_question q a.question) qs

-- with a question of that event: one that was asked before is not noted again, as nothing new rests
-- on it
abbrev pub noted : ℕ → Question → List AskedQuestion → List AskedQuestion
noted event q qs = if is_asked q qs then qs else qs ++ record { event = event; question = q } ∷ []

-- A QUESTION is asked in the event that is executed
abbrev pub asked : Question → World → World
asked q w = record w { questions = noted w.count q w.questions }

-- a question about the time of the event that is executed, which is noted of each event
abbrev pub timed : Question → World → World
timed q w = record w { questions = w.questions ++ record { event = w.count; question = q } ∷ [] }

-- a question about times is asked for the event after it, which may not come
abbrev pub asked_next : Question → World → World
asked_next q w =
    record w { questions = w.questions ++ record { event = w.count + 1; question = q } ∷ [] }

-- insertion numbers are far from running out: an event inserts fewer than 2^40 events, as it calls
-- at most 2^16 modules for at most 2^8 stages each, and a reply has at most 1,000 actions
abbrev pub HasRoom : World → Type 0
HasRoom w = w.next ≤ 2 ^ 82 + 2 ^ 40 * w.count
