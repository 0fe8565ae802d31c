use Rattle.param_eval.proofs.Quotients.{is_exact}
use Rattle.param_eval.proofs.laws.is_exact.Goals as goal

pub returns : goal.returns
returns c = is_exact
