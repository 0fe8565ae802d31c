-- what is left comes to what the expression comes to
use Rattle.std.proofs.Common.{◌≡◌, ◌+◌}
use Rattle.param_eval.specs.Evaluating.{came_to, asks, left}
use Rattle.param_eval.specs.Values.{answered, value_in}
use Rattle.param_eval.proofs.evaluation.evaluate.Given as goal

abbrev pub invariant-loop-turn : goal.invariant-loop-turn
invariant-loop-turn g l = answered (g.N.Names.meaning l.names) (came_to l.evaluation l.turn) ≡ value_in (g.N.Names.meaning l.names) l.expression

abbrev pub decreases-loop-turn : goal.decreases-loop-turn
decreases-loop-turn g l = asks l.turn + left l.evaluation
