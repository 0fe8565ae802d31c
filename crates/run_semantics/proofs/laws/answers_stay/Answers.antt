use Rattle.run_semantics.proofs.Reuse.{noted_after}
use Rattle.run_semantics.proofs.laws.answers_stay.Goals as goal

pub returns : goal.returns
returns c = noted_after
