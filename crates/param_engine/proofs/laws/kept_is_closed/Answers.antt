use Rattle.param_engine.proofs.Order.{closed}
use Rattle.param_engine.proofs.laws.kept_is_closed.Goals as goal

pub returns : goal.returns
returns g c = λ rules es exact kept. closed rules exact es kept
