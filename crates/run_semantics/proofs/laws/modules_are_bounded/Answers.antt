use Rattle.run_semantics.proofs.Bounds.{bounded_after}
use Rattle.run_semantics.proofs.laws.modules_are_bounded.Goals as goal

pub returns : goal.returns
returns c = bounded_after
