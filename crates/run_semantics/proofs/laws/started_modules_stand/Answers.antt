use Rattle.run_semantics.proofs.Placing.{standing_after}
use Rattle.run_semantics.proofs.laws.started_modules_stand.Goals as goal

pub returns : goal.returns
returns c = standing_after
