use Rattle.run_semantics.proofs.Ends.{run_over}
use Rattle.run_semantics.proofs.laws.over_is_over.Goals as goal

pub returns : goal.returns
returns c = run_over
