use Rattle.param_eval.proofs.Answering.{is_outcome}
use Rattle.param_eval.proofs.laws.is_outcome.Goals as goal

pub returns : goal.returns
returns c = is_outcome
