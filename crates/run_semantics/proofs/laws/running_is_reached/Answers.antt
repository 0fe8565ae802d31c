use Rattle.run_semantics.proofs.Counts.{reached_after}
use Rattle.run_semantics.proofs.laws.running_is_reached.Goals as goal

pub returns : goal.returns
returns c = reached_after
