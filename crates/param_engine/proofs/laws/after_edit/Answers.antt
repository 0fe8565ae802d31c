use Rattle.param_engine.proofs.Order.{edited}
use Rattle.param_engine.proofs.laws.after_edit.Goals as goal

pub returns : goal.returns
returns g c = λ before after es exact kept. edited before after es exact kept
