use Rattle.std.proofs.Common.{◌≡◌, ◌-◌, ◌≤◌, ◌++◌, drop, length}
use Rattle.inside_keys.specs.Inside.{values_in}
use Rattle.inside_walk.specs.Tasks.{scope_of}
use Rattle.inside_walk.proofs.joins.turn_of.Given as goal

-- the numbers of the tasks above, and those of the tasks below
abbrev pub invariant-tasks : goal.invariant-tasks
invariant-tasks l = record {
  below : l.depth ≤ length l.tasks;
  same : l.turn ++ values_in (scope_of (drop l.depth l.tasks)) ≡ values_in (scope_of l.tasks);
}

abbrev pub decreases-tasks : goal.decreases-tasks
decreases-tasks l = length l.tasks - l.depth
