use Rattle.run_semantics.proofs.Orderly.{orderly_after}
use Rattle.run_semantics.proofs.laws.no_two_events_share_a_number.Goals as goal

pub returns : goal.returns
returns c = record { own = λ b m n. (orderly_after b m n).own; below = λ b m n. (orderly_after b m n).below }
