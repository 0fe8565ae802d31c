use Rattle.run_semantics.proofs.Orderly.{turn_after, past_after}
use Rattle.run_semantics.proofs.laws.emissions_are_in_turn.Goals as goal

pub returns : goal.returns
returns c = record { turn = turn_after; past = past_after }
