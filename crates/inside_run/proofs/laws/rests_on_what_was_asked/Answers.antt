use Rattle.param_engine.proofs.Order.{closed, sorted}
use Rattle.inside_keys.specs.Values.{rules_of}
use Rattle.inside_run.proofs.Exact.{exact}
use Rattle.inside_run.proofs.laws.rests_on_what_was_asked.Goals as goal

pub returns-clause-closed : goal.returns-clause-closed
returns-clause-closed c = λ s es kept. closed (rules_of s) (exact s) es kept

pub returns-clause-sorted : goal.returns-clause-sorted
returns-clause-sorted c = λ s es kept. sorted (rules_of s) (exact s) es kept
