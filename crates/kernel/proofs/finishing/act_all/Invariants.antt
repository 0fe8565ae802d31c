use Rattle.std.proofs.Common.{◌≡◌, ◌+◌, ◌≤◌, drop}
use Rattle.run_semantics.specs.Perform.{act_all, deed}
use Rattle.kernel_actions.specs.Positions.{IsGrownFrom}
use Rattle.kernel.proofs.finishing.act_all.Given as goal

abbrev pub invariant-loop-action : goal.invariant-loop-action
invariant-loop-action l = record {
  step : act_all (deed l.id) l.occasion l.id (drop l.action-index l.actions) l.core ≡ act_all (deed l.id) l.occasion l.id l.actions l.fn.core;
  next : l.core.next ≤ l.fn.core.next + l.action-index;
  grown : IsGrownFrom l.fn.core l.core;
}
