-- what the expression has come to is what it was
use Rattle.std.proofs.Common.{◌≡◌, ◌+◌, ◌≤◌}
use Rattle.sim_values.specs.declared.value.Value.{Value}
use Rattle.param_eval.specs.Evaluating.{came_to, asks, left}
use Rattle.inside_keys.specs.Asked.{KeyAsking, valued_then}
use Rattle.inside_keys.specs.Places.{meant_under}
use Rattle.inside_run.proofs.reach.reach.Given as goal

abbrev pub invariant-loop-turn : goal.invariant-loop-turn
invariant-loop-turn g l = record {
  same : (next : Value → KeyAsking) → valued_then (meant_under (g.V.Variables.scope l.variables) l.place) (came_to l.evaluation l.turn) next
      ≡ valued_then (meant_under (g.V.Variables.scope l.variables) l.place) (came_to l.fn.evaluation l.fn.turn) next;
  less : asks l.turn + left l.evaluation ≤ asks l.fn.turn + left l.fn.evaluation;
}

abbrev pub decreases-loop-turn : goal.decreases-loop-turn
decreases-loop-turn g l = asks l.turn + left l.evaluation
