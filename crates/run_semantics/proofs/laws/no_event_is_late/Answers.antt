use Rattle.run_semantics.proofs.Orderly.{orderly_after}
use Rattle.run_semantics.proofs.laws.no_event_is_late.Goals as goal

pub returns : goal.returns
returns c = λ b m n. (orderly_after b m n).due
