-- A network that was set up, and has its boxes.
use Rattle.model_questions.specs.Answers.{Answers}
use Rattle.run_semantics.specs.World.{World}
use Rattle.run_semantics.specs.Perform.{Flow, ◌>>=◌}
use Rattle.module_api.specs.Behaviour.{Behaviour}
use Rattle.run_semantics.specs.Run.{place_parts, prepared, unstarted}

-- the modules of a network that was set up have their boxes, each in its state at first
abbrev pub boxed : Behaviour → World → Flow
boxed b w = place_parts b (unstarted w) w

-- all that is set up, and the boxes
abbrev pub ready : Behaviour → Answers → Flow
ready b m = prepared m >>= boxed b
