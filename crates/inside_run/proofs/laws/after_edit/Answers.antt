use Rattle.param_engine.proofs.Order.{edited}
use Rattle.inside_keys.specs.Values.{rules_of}
use Rattle.inside_run.proofs.Exact.{exact}
use Rattle.inside_run.proofs.laws.after_edit.Goals as goal

pub returns : goal.returns
returns c = λ before after es kept. edited (rules_of before) (rules_of after) es (exact before) kept
