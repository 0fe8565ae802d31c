use Rattle.param_following.proofs.Circles.{count}
use Rattle.param_following.proofs.laws.count_is_no_matter.Goals as goal

pub returns : goal.returns
returns g c = λ rules. count rules
