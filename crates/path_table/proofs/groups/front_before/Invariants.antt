use Rattle.std.proofs.Common.{◌≤◌}
use Rattle.path_table.proofs.groups.front_before.Given as goal

abbrev pub invariant-places : goal.invariant-places
invariant-places l = l.place ≤ l.front

abbrev pub decreases-places : goal.decreases-places
decreases-places l = l.place
