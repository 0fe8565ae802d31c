use Rattle.param_eval.proofs.Quotients.{is_found}
use Rattle.param_eval.proofs.laws.is_found.Goals as goal

pub returns : goal.returns
returns c = is_found
