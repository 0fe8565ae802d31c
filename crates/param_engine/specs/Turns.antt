-- Where an evaluation has come to.
use Rattle.std.specs.Prelude.{ℕ, Ok, Err}
use Rattle.param_following.specs.Asking.{Asking, Done, Ask}
use Rattle.param_engine.specs.declared.turn.EngineStep.{EngineStep}
use Rattle.param_engine.specs.declared.turn.EngineStep.TheVariants as turn

-- what is still asked, by how an evaluation goes on with the value that it waits for
abbrev pub came_to : {K V F : Type 0} → (V → Asking K V F V) → EngineStep K V F → Asking K V F V
came_to resumed (turn.Ask k) = Ask k resumed
came_to resumed (turn.Done v) = Done (Ok v)
came_to resumed (turn.Fault f) = Done (Err f)

-- one where it asks, none where it has come to an end
abbrev pub asks : {K V F : Type 0} → EngineStep K V F → ℕ
asks (turn.Ask k) = 1
asks (turn.Done v) = 0
asks (turn.Fault f) = 0
