use Rattle.param_base.proofs.Over.{over_a_base}
use Rattle.param_base.proofs.laws.over_is_same.Goals as goal

pub returns : goal.returns
returns g c = λ rules. over_a_base rules
