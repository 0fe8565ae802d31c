use Rattle.param_following.proofs.Circles.{no_circle}
use Rattle.param_following.proofs.laws.ends_without_circle.Goals as goal

pub returns : goal.returns
returns g c = λ rules exact. no_circle rules exact
