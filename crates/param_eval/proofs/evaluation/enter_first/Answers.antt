use Rattle.std.proofs.Common.{◌∙◌, ap, arith}
use Rattle.param_eval.specs.Evaluating.{valued_then, weight}
use Rattle.param_eval.proofs.Tasks.{then_push, weight_push}
use Rattle.param_eval.proofs.evaluation.enter_first.Goals as goal

pub returns-clause-step : goal.returns-clause-step
returns-clause-step c = ap (λ l. valued_then l c.args.first.now) c.in_ok-push.ensures.items ∙ then_push c.args.tasks.now.items c.args.task c.args.first.now

pub returns-clause-weight : goal.returns-clause-weight
returns-clause-weight c = omega (arith, ap weight c.in_ok-push.ensures.items, weight_push c.args.tasks.now.items c.args.task)
