use Rattle.run_semantics.proofs.Orderly.{orderly_after}
use Rattle.run_semantics.proofs.laws.events_are_for_modules_that_live.Goals as goal

pub returns : goal.returns
returns c = λ b m n. (orderly_after b m n).live
