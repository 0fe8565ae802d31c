use Rattle.param_base.proofs.Spots.{own_is_value}
use Rattle.param_base.proofs.laws.own_is_value.Goals as goal

pub returns : goal.returns
returns g c = λ rules. own_is_value rules
