use Rattle.param_eval.proofs.Shifts.{is_rounded_down}
use Rattle.param_eval.proofs.laws.is_rounded_down.Goals as goal

pub returns : goal.returns
returns c = is_rounded_down
