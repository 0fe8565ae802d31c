-- Words for what holds of the worlds that a run reaches.
pub use Rattle.event_set.specs.Order.{Each, AreInOrder, HaveOwnNumbers}
use Rattle.std.specs.Prelude.{◌≡◌, ◌⊎◌, ℕ, zero, suc, ◌≤◌, ◌&&◌, List, [], ◌∷◌, ◌++◌, None}
use Rattle.std.specs.Prelude.{IsTrue, length, map}
use Rattle.std.specs.List.{filter}
use Rattle.module_api.specs.Behaviour.{Behaviour}
use Rattle.model_injections.specs.Injections.{first_undelivered}
use Rattle.model_questions.specs.Answers.{Answers}
use Rattle.model_questions.specs.declared.answer.AskedQuestion.{AskedQuestion}
use Rattle.event_set.specs.declared.pending.Pending.{Pending}
use Rattle.run_semantics.specs.declared.traces.Emission.{Emission}
use Rattle.run_semantics.specs.declared.traces.Instance.{Instance}
use Rattle.run_semantics.specs.World.{World, live_of, noted}
use Rattle.run_semantics.specs.Run.{Part, Stage, next_stage, parts_of}
use Rattle.run_semantics.specs.Subtree.{among}

-- along emissions neither event numbers nor times fall
abbrev pub AreInTurn : List Emission → Type 0
AreInTurn [] = Unit {0}
AreInTurn (e ∷ es) = Each (λ f. (e.event ≤ f.event) × (e.time ≤ f.time)) es × AreInTurn es

-- it is one of these numbers
abbrev pub IsAmong : ℕ → List ℕ → Type 0
IsAmong n [] = ⊥
IsAmong n (x ∷ xs) = (x ≡ n) ⊎ IsAmong n xs

-- the ids of simple modules
abbrev pub ids_of : List Instance → List ℕ
ids_of modules = map (λ i. i.id) modules

-- the simple modules that were started and live, by rising id
abbrev pub parts_standing : World → List Part
parts_standing w = filter (λ p. among p.id w.started && among p.id (live_of w)) (parts_of w)

-- the second list is the first, and more at its end
abbrev pub GoesOn : {X : Type 0} → List X → List X → Type 0
GoesOn {X} xs ys = (more : List X) × (xs ++ more ≡ ys)

-- Nothing that happened is undone: from the first world to the second the clock, the count of
-- events and the next insertion number do not fall, and of records, the dead, those that were started
-- and that were finished, changes of gates, emissions, scalars and questions all stay as they are, in
-- their places.
pub record HasGrown (old new : World) : Type 0 where
  pub clock : old.clock ≤ new.clock
  pub count : old.count ≤ new.count
  pub next : old.next ≤ new.next
  pub records : GoesOn old.records new.records
  pub dead : GoesOn old.dead new.dead
  pub started : GoesOn old.started new.started
  pub finished : GoesOn old.finished new.finished
  pub changes : GoesOn old.changes new.changes
  pub emissions : GoesOn old.emissions new.emissions
  pub scalars : GoesOn old.scalars new.scalars
  pub questions : GoesOn old.questions new.questions

-- at most 65,536 modules live, and at most 1,000,000 were created
pub record IsBounded (w : World) : Type 0 where
  pub live : length (live_of w) ≤ 65536
  pub created : length w.records ≤ 1000000

-- each state is one of its kind
abbrev pub AreStates : Behaviour → List Instance → Type 0
AreStates b [] = Unit {0}
AreStates b (i ∷ is) = IsTrue ((b.naming i.kind).is_state i.state) × AreStates b is

-- no event is to come, and no injection is left after the last one that was delivered
abbrev pub HasEnded : Answers → List Pending → World → Type 0
HasEnded m ps w = (ps ≡ []) × (first_undelivered w.delivered m.injections ≡ None)

-- ---- questions

-- all of these are asked, one after another, and each is noted where it was not noted before
abbrev pub noted_all : List AskedQuestion → List AskedQuestion → List AskedQuestion
noted_all [] qs = qs
noted_all (a ∷ rest) qs = noted_all rest (noted a.event a.question qs)

-- along them the numbers of events do not fall, from this one on
abbrev pub AreFrom : ℕ → List AskedQuestion → Type 0
AreFrom event [] = Unit {0}
AreFrom event (a ∷ rest) = (event ≤ a.event) × AreFrom a.event rest

-- so many more events from a stage on
abbrev pub gone_on : Behaviour → Answers → ℕ → Stage → Stage
gone_on b m zero s = s
gone_on b m (suc k) s = next_stage b m (gone_on b m k s)
