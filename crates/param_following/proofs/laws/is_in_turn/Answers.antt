use Rattle.param_following.proofs.Binds.{in_turn}
use Rattle.param_following.proofs.laws.is_in_turn.Goals as goal

pub returns : goal.returns
returns g c = in_turn
