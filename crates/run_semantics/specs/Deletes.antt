-- Modules that are deleted while a run goes on, worked by hand.
use Rattle.std.specs.Prelude.{◌≡◌, ℕ, zero, suc, ◌*◌, pos, bytes_eq, codes, Bool, true, false}
use Rattle.std.specs.Prelude.{List, [], ◌∷◌, map, Option, Some, None, if◌then◌else◌}
use Rattle.event_set.specs.declared.pending.Pending.{Pending}
use Rattle.module_api.specs.Behaviour.{Behaviour, Replied}
use Rattle.module_api.specs.declared.call.CallReason.{CallReason}
use Rattle.module_api.specs.declared.call.CallReason.TheVariants.{Initialize, Message, Finish}
use Rattle.module_api.specs.declared.reply.Action.{Action}
use Rattle.module_api.specs.declared.reply.Action.TheVariants.{SendDirect, Delete, End}
use Rattle.model_questions.specs.Answers.{Answers}
use Rattle.run_semantics.specs.declared.outcome.Outcome.TheVariants.{NoMoreEvents}
use Rattle.run_semantics.specs.declared.outcome.RunFault.{RunFault}
use Rattle.run_semantics.specs.declared.outcome.RunFault.TheVariants as fault
use Rattle.run_semantics.specs.Deleting.{gone}
use Rattle.run_semantics.specs.Perform.{Flow, On, Stopped, Broken, for_each, perform}
use Rattle.run_semantics.specs.Run.{Part, after, run_to, standing, world_at}
use Rattle.run_semantics.specs.Wires.{does, eight_bits, faults_in, free, hears, join, living, ms}
use Rattle.run_semantics.specs.Wires.{network_of, place, simple_one, timer_after}
use Rattle.run_semantics.specs.World.{World, live_of}

-- ---- what modules do

-- a module that sends a message to another one, and deletes that as the message is on its way
abbrev pub reaps : Bool → List ℕ → CallReason → Replied
reaps polite state (Initialize stage) = does (timer_after (1000 * ms) ∷ []) state
reaps polite (zero ∷ rest) (Message message) = does (
    SendDirect (place (codes "N.w") (codes "in")) eight_bits
    (record { delay = 5000 * ms; duration = 0 })
    ∷ timer_after (1000 * ms) ∷ []
    ) (1 ∷ [])
reaps polite (suc n ∷ rest) (Message message) = does (Delete (codes "N.w") polite ∷ []) (2 ∷ [])
reaps polite [] (Message message) = does [] []
reaps polite state Finish = does [] state

abbrev pub acts : Bool → List ℕ → List ℕ → CallReason → Replied
acts polite kind state reason =
    if bytes_eq kind (codes "Reaper") then reaps polite state reason else hears state reason

abbrev pub kinds : Bool → Behaviour
kinds polite = record {
  known = λ kind. true;
  naming = λ kind. record {
    stages = 1;
    is_state = λ state. true;
    initial = 0 ∷ [];
    reply = λ state call. acts polite kind state call.prompt;
  };
}

abbrev pub reaping : Answers
reaping = network_of (simple_one (codes "s") (codes "Reaper")
    ∷ simple_one (codes "w") (codes "Sink") ∷ [])

-- ---- what happens

abbrev pub reaped : Bool → ℕ → World
reaped polite n = world_at (after (kinds polite) reaping n)

abbrev pub sink : Part
sink = record { id = 3; kind = codes "Sink" }

abbrev pub reaper : Part
reaper = record { id = 2; kind = codes "Reaper" }

-- The message to a module falls as that is deleted: so two events are executed, and none is left. A
-- module that is deleted politely is finished first.
pub record ExampleDeletes : Type 0 where
  pub both_to_come : map (λ (p : Pending). p.id) (reaped false 1).pending ≡ 2 ∷ 3 ∷ []
  pub both_stand : standing (reaped false 1).modules ≡ reaper ∷ sink ∷ []
  pub dead : (reaped false 2).dead ≡ 3 ∷ []
  pub none_to_come : (reaped false 2).pending ≡ []
  pub stands : standing (reaped false 2).modules ≡ reaper ∷ []
  pub live : live_of (reaped false 2) ≡ 1 ∷ 2 ∷ []
  pub outcome : (run_to (kinds false) reaping 5).outcome ≡ NoMoreEvents
  pub count : (reaped false 5).count ≡ 2
  pub unfinished : (reaped false 5).finished ≡ []
  pub politely : (reaped true 5).finished ≡ 3 ∷ []

-- ---- single actions, where N has s and c, c has k, and all of them were started

abbrev pub acts_in : ℕ → List Action → World → Flow
acts_in id actions w = for_each (perform (kinds false) (network_of []) id) actions w

abbrev pub told : RunFault → World → Flow
told f w = Broken w (codes "N.s") f

abbrev pub finished_in : Flow → List ℕ
finished_in (On w) = w.finished
finished_in (Stopped w) = w.finished
finished_in (Broken w path f) = w.finished

pub record ExampleDeleted : Type 0 where
  -- a module deletes itself, or one around it; the network can't be deleted
  pub itself : acts_in 2 (Delete (codes "N.s") false ∷ End ∷ []) living
      ≡ Stopped (gone (2 ∷ []) living)
  pub around : acts_in 4 (Delete (codes "N.c") false ∷ End ∷ []) living
      ≡ Stopped (gone (3 ∷ 4 ∷ []) living)
  pub another : acts_in 2 (Delete (codes "N.c") false ∷ []) living
      ≡ On (gone (3 ∷ 4 ∷ []) living)
  pub network : acts_in 2 (Delete (codes "N") false ∷ []) living ≡ told fault.NoModule living
  pub twice : acts_in 2 (Delete (codes "N.c") false ∷ Delete (codes "N.c.k") false ∷ []) living
      ≡ told fault.NoModule (gone (3 ∷ 4 ∷ []) living)
  pub inner_first : finished_in (acts_in 2 (Delete (codes "N.c") true ∷ []) living) ≡ 4 ∷ 3 ∷ []
  -- a gate that leads to a module that is dead is not connected
  pub to_the_dead : faults_in (acts_in 2 (join ∷ Delete (codes "N.c") false ∷ free ∷ []) living)
      ≡ Some fault.NotConnected
