-- One level of a setup.
use Rattle.std.specs.Prelude.{◌≡◌, ℕ, List}
use Rattle.model_questions.specs.declared.answer.Question.TheVariants.{Build}
use Rattle.model_questions.specs.Answers.{Answers}
use Rattle.run_semantics.specs.declared.outcome.EventFlow.{EventFlow}
use Rattle.run_semantics.specs.World.{World}
use Rattle.run_semantics.specs.Perform.{Flow, ◌>>=◌, asking, flow_of, for_each}
use Rattle.run_semantics.specs.Run.{built}

-- A module was asked about, and its submodules were created: whatever is done for each of these ids
-- that are left, it leads where the setup of the module leads that does the same.
abbrev pub HasBuilt : Answers → ℕ → World → EventFlow → List ℕ → World → Type 0
HasBuilt m id before turn left after = (inner : ℕ → World → Flow)
    → (flow_of turn after >>= for_each inner left) ≡ asking m (Build id) (built inner id) before
