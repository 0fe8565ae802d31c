-- what is left is what was to be done
use Rattle.std.proofs.Common.{◌≡◌, ◌≤◌}
use Rattle.inside_walk.specs.Tasks.{next_of}
use Rattle.inside_run.specs.Runs.{load}
use Rattle.inside_run.proofs.run.run.Given as goal

abbrev pub invariant-loop-found : goal.invariant-loop-found
invariant-loop-found l = record {
  same : next_of l.ground l.tasks l.next ≡ next_of l.fn.ground l.fn.tasks l.fn.next;
  less : load l.ground l.next l.tasks ≤ load l.fn.ground l.fn.next l.fn.tasks;
}

abbrev pub decreases-loop-found : goal.decreases-loop-found
decreases-loop-found l = load l.ground l.next l.tasks
