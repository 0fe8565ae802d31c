use Rattle.run_semantics.proofs.Grown.{grown_after}
use Rattle.run_semantics.proofs.laws.runs_grow.Goals as goal

pub returns : goal.returns
returns c = grown_after
