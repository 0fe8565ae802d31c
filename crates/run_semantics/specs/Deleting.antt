-- Modules that are deleted.
use Rattle.std.specs.Prelude.{ℕ, ◌==◌, Bool, true, false, not, List, ◌++◌, Option, Some, None}
use Rattle.std.specs.Prelude.{if◌then◌else◌}
use Rattle.std.specs.List.{filter}
use Rattle.module_api.specs.Behaviour.{Behaviour}
use Rattle.event_set.specs.declared.pending.Pending.{Pending}
use Rattle.model_questions.specs.Answers.{Answers}
use Rattle.run_semantics.specs.declared.occasions.Occasion.TheVariants as occasion
use Rattle.run_semantics.specs.declared.outcome.RunFault.TheVariants as fault
use Rattle.run_semantics.specs.declared.traces.Instance.{Instance}
use Rattle.run_semantics.specs.Deeds.{Flow, On, Stopped, ◌>>=◌, broken}
use Rattle.run_semantics.specs.Finishing.{finish_all}
use Rattle.run_semantics.specs.Routes.{module_at}
use Rattle.run_semantics.specs.Subtree.{among, inner_first, stands_in}
use Rattle.run_semantics.specs.World.{World, live_of}

-- THE SUBTREE of a module: of those that live it, and all that stand inside of it, by their ids
abbrev pub subtree_of : ℕ → World → List ℕ
subtree_of id w = filter (λ n. stands_in w.records id n) (live_of w)

-- those of its modules that were started, submodules before the enclosing module, siblings by their
-- ids
abbrev pub to_finish_in : ℕ → World → List ℕ
to_finish_in id w = filter (λ n. among n w.started) (inner_first w.records (live_of w) id)

-- they are finished first, if that is wanted: what they read is asked in this event
abbrev pub finished_first : Behaviour → Answers → Bool → ℕ → World → Flow
finished_first b m true id w = finish_all b m occasion.Deletion (to_finish_in id w) w
finished_first b m false id w = On w

-- these modules are dead: none of them has a state any more, and no event is to come for one
abbrev pub gone : List ℕ → World → World
gone ids w = record w {
  dead = w.dead ++ ids;
  modules = filter (λ (i : Instance). not (among i.id ids)) w.modules;
  pending = filter (λ (p : Pending). not (among p.id ids)) w.pending;
}

-- where the module that acts is one of them the rest of the event is discarded
abbrev pub dropped : ℕ → List ℕ → World → Flow
dropped id ids w = if among id ids then Stopped (gone ids w) else On (gone ids w)

abbrev pub subtree_dropped : ℕ → ℕ → World → Flow
subtree_dropped id target w = dropped id (subtree_of target w) w

-- the network can't be deleted
abbrev pub deleted_by : Behaviour → Answers → ℕ → Bool → World → ℕ → Flow
deleted_by b m id finish w target =
    if target == 1 then broken id fault.NoModule w
    else finished_first b m finish target w >>= subtree_dropped id target

abbrev pub deleted_at : Behaviour → Answers → ℕ → Bool → World → Option ℕ → Flow
deleted_at b m id finish w None = broken id fault.NoModule w
deleted_at b m id finish w (Some target) = deleted_by b m id finish w target

-- A MODULE IS DELETED, with all that is inside of it (OMNeT++ Simulation Manual, "Module Deletion").
-- That its modules are finished first creates and deletes none: so its subtree is the same after it.
abbrev pub deleted : Behaviour → Answers → ℕ → List ℕ → Bool → World → Flow
deleted b m id path finish w = deleted_at b m id finish w (module_at path w)
