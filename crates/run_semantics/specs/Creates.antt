-- Modules that are created while a run goes on, worked by hand.
use Rattle.std.specs.Prelude.{◌≡◌, ℕ, zero, suc, ◌*◌, bytes_eq, codes, Bool, true, false}
use Rattle.std.specs.Prelude.{List, [], ◌∷◌, map, Option, Some, None, if◌then◌else◌}
use Rattle.event_set.specs.declared.pending.Pending.{Pending}
use Rattle.module_api.specs.Behaviour.{Behaviour, Replied}
use Rattle.module_api.specs.declared.call.CallReason.{CallReason}
use Rattle.module_api.specs.declared.call.CallReason.TheVariants.{Initialize, Message, Finish}
use Rattle.module_api.specs.declared.reply.Action.{Action}
use Rattle.module_api.specs.declared.reply.Action.TheVariants.{SendDirect, Create, Delete}
use Rattle.model_questions.specs.declared.answer.Answer.{Answer}
use Rattle.model_questions.specs.declared.answer.Answer.TheVariants as answer
use Rattle.model_questions.specs.declared.record.Record.{Record}
use Rattle.model_questions.specs.Answers.{Answers}
use Rattle.model_questions.specs.Records.{path_along, path_of, record_there}
use Rattle.sim_values.specs.declared.model_fault.ModelFault.TheVariants.{Value}
use Rattle.sim_values.specs.declared.value_fault.ValueFault.TheVariants.{TooDeep}
use Rattle.run_semantics.specs.declared.outcome.Outcome.TheVariants.{NoMoreEvents}
use Rattle.run_semantics.specs.declared.outcome.RunFault.TheVariants as fault
use Rattle.run_semantics.specs.Deletes.{sink, told}
use Rattle.run_semantics.specs.Example.{made}
use Rattle.run_semantics.specs.Perform.{Flow, On, Stopped, Broken, for_each, perform}
use Rattle.run_semantics.specs.Run.{Part, after, run_to, standing, wanted, world_at}
use Rattle.run_semantics.specs.Wires.{does, eight_bits, faults_in, hears, living, ms, network_of}
use Rattle.run_semantics.specs.Wires.{place, simple_one, timer_after}
use Rattle.run_semantics.specs.World.{World, live_of}

-- ---- what modules do

abbrev pub made_as : List ℕ → List ℕ → List ℕ → Action
made_as parent name type = Create (record {
  parent = parent;
  name = name;
  index = None;
  plan = record { type_name = type; parameters = []; sizes = [] };
})

-- a module that makes another one, sends a message to it, deletes it as it is on the way, and makes
-- one of the same name
abbrev pub spawns : Bool → List ℕ → CallReason → Replied
spawns polite state (Initialize stage) = does (timer_after (1000 * ms) ∷ []) state
spawns polite (zero ∷ rest) (Message message) = does (
    made_as (codes "N") (codes "w") (codes "Sink")
    ∷ SendDirect (place (codes "N.w") (codes "in")) eight_bits
    (record { delay = 5000 * ms; duration = 0 })
    ∷ timer_after (1000 * ms) ∷ []
    ) (1 ∷ [])
spawns polite (suc n ∷ rest) (Message message) = does (
    Delete (codes "N.w") polite
    ∷ made_as (codes "N") (codes "w") (codes "Sink") ∷ []
    ) (2 ∷ [])
spawns polite [] (Message message) = does [] []
spawns polite state Finish = does [] state

abbrev pub acts : Bool → List ℕ → List ℕ → CallReason → Replied
acts polite kind state reason =
    if bytes_eq kind (codes "Spawner") then spawns polite state reason else hears state reason

abbrev pub kinds : Bool → Behaviour
kinds polite = record {
  known = λ kind. true;
  naming = λ kind. record {
    stages = 1;
    is_state = λ state. true;
    initial = 0 ∷ [];
    reply = λ state call. acts polite kind state call.prompt;
  };
}

abbrev pub spawning : Answers
spawning = network_of (simple_one (codes "s") (codes "Spawner") ∷ [])

-- ---- what happens

abbrev pub spawned : Bool → ℕ → World
spawned polite n = world_at (after (kinds polite) spawning n)

abbrev pub spawner : Part
spawner = record { id = 2; kind = codes "Spawner" }

abbrev pub second : Part
second = record { id = 4; kind = codes "Sink" }

-- A module that is made is started by an event of its own, for which its box is wanted; the message
-- to the first one falls as that is deleted, and goes to none of the same name: so four events are
-- executed, and the second one is left.
pub record ExampleCreates : Type 0 where
  pub at_first : wanted spawning (spawned false 0) ≡ []
  pub after_one : wanted spawning (spawned false 1) ≡ sink ∷ []
  pub after_two : wanted spawning (spawned false 2) ≡ []
  pub both_to_come : map (λ (p : Pending). p.id) (spawned false 2).pending ≡ 2 ∷ 3 ∷ []
  pub after_three : wanted spawning (spawned false 3) ≡ second ∷ []
  pub to_come : map (λ (p : Pending). p.id) (spawned false 3).pending ≡ 4 ∷ []
  pub dead : (spawned false 3).dead ≡ 3 ∷ []
  pub stands : standing (spawned false 3).modules ≡ spawner ∷ []
  pub live : live_of (spawned false 3) ≡ 1 ∷ 2 ∷ 4 ∷ []
  pub outcome : (run_to (kinds false) spawning 5).outcome ≡ NoMoreEvents
  pub count : (spawned false 5).count ≡ 4
  pub left : standing (spawned false 5).modules ≡ spawner ∷ second ∷ []
  pub unfinished : (spawned false 5).finished ≡ []
  pub politely : (spawned true 5).finished ≡ 3 ∷ []

-- ---- single actions, where N has s and c, c has k, and all of them were started

abbrev pub class_by : Option Record → Answer
class_by None = answer.Absent
class_by (Some r) = if bytes_eq r.name (codes "b") then answer.Class None
    else answer.Class (Some (codes "Sink"))

-- what is made as b is compound, and has x inside
abbrev pub making : Answers
making = record (network_of []) {
  class_there = λ p. class_by (record_there p);
  inside = λ p. if bytes_eq (path_along p) (codes "N.b")
      then answer.Inside (simple_one (codes "x") (codes "Sink") ∷ []) else answer.Absent;
}

abbrev pub acts_in : ℕ → List Action → World → Flow
acts_in id actions w = for_each (perform (kinds false) making id) actions w

abbrev pub comes_in : Flow → List (ℕ × ℕ)
comes_in (On w) = map (λ (p : Pending). (p.id, p.number)) w.pending
comes_in (Stopped w) = []
comes_in (Broken w path f) = []

-- so many compound modules more, each inside of the one before
abbrev pub nested_from : ℕ → ℕ → List Record
nested_from parent zero = []
nested_from parent (suc more) = made parent (codes "c") None ∷ nested_from (suc parent) more

-- nothing stands but so many modules, each inside of the one before
abbrev pub nested : ℕ → World
nested levels = record living { records = nested_from 0 levels; modules = []; started = [] }

abbrev pub made_inside : ℕ → Flow
made_inside levels =
    acts_in 1 (made_as (path_of (nested levels).records levels) (codes "x") (codes "Sink") ∷ [])
    (nested levels)

pub record ExampleCreated : Type 0 where
  -- what may be created
  pub no_name : acts_in 2 (made_as (codes "N") (codes "w.x") (codes "Sink") ∷ []) living
      ≡ told fault.BadName living
  pub no_word : acts_in 2 (made_as (codes "N") (codes "simple") (codes "Sink") ∷ []) living
      ≡ told fault.BadName living
  pub namesake : acts_in 2 (made_as (codes "N") (codes "c") (codes "Sink") ∷ []) living
      ≡ told fault.DuplicateName living
  pub in_simple : acts_in 2 (made_as (codes "N.s") (codes "x") (codes "Sink") ∷ []) living
      ≡ told fault.NoModule living
  pub in_none : acts_in 2 (made_as (codes "N.z") (codes "x") (codes "Sink") ∷ []) living
      ≡ told fault.NoModule living
  pub deepest : faults_in (made_inside 31) ≡ None
  pub too_deep : faults_in (made_inside 32) ≡ Some (fault.Model (Value TooDeep))
  -- a compound one has its inside, and what is made in it has a start of its own
  pub two_starts : comes_in (acts_in 2 (
      made_as (codes "N") (codes "b") (codes "B")
      ∷ made_as (codes "N.b") (codes "y") (codes "Sink") ∷ []
      ) living) ≡ (5, 7) ∷ (7, 8) ∷ []
  -- what waits for its start falls with it
  pub never_started : comes_in (acts_in 2 (
      made_as (codes "N") (codes "b") (codes "B") ∷ Delete (codes "N.b") true ∷ []
      ) living) ≡ []
