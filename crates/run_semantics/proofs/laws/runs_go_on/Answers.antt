use Rattle.run_semantics.proofs.Ends.{gone_after}
use Rattle.run_semantics.proofs.laws.runs_go_on.Goals as goal

pub returns : goal.returns
returns c = gone_after
