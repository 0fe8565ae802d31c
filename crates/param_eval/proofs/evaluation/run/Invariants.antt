-- what is left is what was to be done
use Rattle.std.proofs.Common.{◌≡◌, ◌+◌, ◌≤◌}
use Rattle.param_eval.specs.Evaluating.{step_of, step_weight, weight}
use Rattle.param_eval.proofs.evaluation.run.Given as goal

abbrev pub invariant-loop-step : goal.invariant-loop-step
invariant-loop-step l = record {
  same : step_of l.tasks.items l.step ≡ step_of l.fn.tasks.items l.fn.step;
  less : step_weight l.step + weight l.tasks.items ≤ step_weight l.fn.step + weight l.fn.tasks.items;
}

abbrev pub decreases-loop-step : goal.decreases-loop-step
decreases-loop-step l = step_weight l.step + weight l.tasks.items
