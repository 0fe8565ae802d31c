-- Modules that are finished: at the end of a run, or as they are deleted.
use Rattle.std.specs.Prelude.{ℕ, List, [], ◌∷◌, ◌++◌}
use Rattle.module_api.specs.declared.call.CallReason.TheVariants as prompt
use Rattle.module_api.specs.Behaviour.{Behaviour}
use Rattle.model_questions.specs.Answers.{Answers}
use Rattle.run_semantics.specs.declared.occasions.Occasion.{Occasion}
use Rattle.run_semantics.specs.Calls.{calling}
use Rattle.run_semantics.specs.Deeds.{Flow, On, ◌>>=◌, deed, for_each}
use Rattle.run_semantics.specs.Replies.{answered_by}
use Rattle.run_semantics.specs.World.{World}

-- ONE CALL for the end, of the run or of the module: its reply does nothing but deeds
abbrev pub call_last : Behaviour → Answers → Occasion → ℕ → World → Flow
call_last b m o id w = calling b m (answered_by m (deed id) o id) id prompt.Finish w

-- a module counts as finished at its turn, a simple one when its reply is done without a fault
abbrev pub with_finished : ℕ → World → World
with_finished id w = record w { finished = w.finished ++ id ∷ [] }

abbrev pub marked : ℕ → World → Flow
marked id w = On (with_finished id w)

abbrev pub finish : Behaviour → Answers → Occasion → ℕ → World → Flow
finish b m o id w = call_last b m o id w >>= marked id

-- these modules, in this order
abbrev pub finish_all : Behaviour → Answers → Occasion → List ℕ → World → Flow
finish_all b m o ids w = for_each (finish b m o) ids w
