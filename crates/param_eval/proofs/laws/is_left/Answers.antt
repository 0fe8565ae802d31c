use Rattle.param_eval.proofs.Quotients.{is_left}
use Rattle.param_eval.proofs.laws.is_left.Goals as goal

pub returns : goal.returns
returns c = is_left
