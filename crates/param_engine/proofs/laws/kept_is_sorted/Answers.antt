use Rattle.param_engine.proofs.Order.{sorted}
use Rattle.param_engine.proofs.laws.kept_is_sorted.Goals as goal

pub returns : goal.returns
returns g c = λ rules es exact kept. sorted rules exact es kept
