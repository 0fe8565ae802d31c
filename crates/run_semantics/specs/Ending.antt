-- The end of a run: the modules that were started are finished.
pub use Rattle.run_semantics.specs.Finishing.{call_last, with_finished, marked, finish, finish_all}
use Rattle.std.specs.Prelude.{ℕ, List, if◌then◌else◌}
use Rattle.module_api.specs.Behaviour.{Behaviour}
use Rattle.model_questions.specs.Answers.{Answers}
use Rattle.run_semantics.specs.declared.occasions.Occasion.TheVariants as occasion
use Rattle.run_semantics.specs.declared.outcome.Outcome.{Outcome}
use Rattle.run_semantics.specs.declared.outcome.Outcome.TheVariants.{Fault}
use Rattle.run_semantics.specs.World.{World, live_of}
use Rattle.run_semantics.specs.Perform.{Flow, On, Stopped, Broken}
use Rattle.run_semantics.specs.Run.{Ran, is_fault}
use Rattle.run_semantics.specs.Subtree.{common, inner_first}

-- all modules that live and were started, submodules before the enclosing module
abbrev pub to_finish : World → List ℕ
to_finish w = inner_first w.records (common (live_of w) w.started) 1

-- a fault in the end has the number of the last event
abbrev pub concluded : Outcome → Flow → Ran
concluded outcome (On w) = record { world = w; outcome = outcome }
concluded outcome (Stopped w) = record { world = w; outcome = outcome }
concluded outcome (Broken w path f) = record { world = w; outcome = Fault w.count path f }

-- THE ENDING of a run; after a fault no module is finished
abbrev pub ending : Behaviour → Answers → Ran → Ran
ending b m ran =
    if is_fault ran.outcome then ran
    else concluded ran.outcome (finish_all b m occasion.End (to_finish ran.world) ran.world)
