use Rattle.std.proofs.Common.{◌∙◌, ap}
use Rattle.param_following.proofs.Binds.{bind_done}
use Rattle.param_eval.specs.Evaluating.{valued_then}
use Rattle.param_eval.specs.Values.{valued}
use Rattle.param_eval.proofs.evaluation.Evaluation.start.Goals as goal

pub returns-clause-turn : goal.returns-clause-turn
returns-clause-turn c = c.in_ok-turn.ensures.end ∙ ap (λ l. valued_then l c.args.expression.now) c.new-tasks.ensures.items ∙ bind_done (valued c.args.expression.now)
