use Rattle.param_following.proofs.Circles.{followed_or_circle}
use Rattle.param_following.proofs.laws.is_followed_or_circle.Goals as goal

pub returns : goal.returns
returns g c = λ rules. followed_or_circle rules
