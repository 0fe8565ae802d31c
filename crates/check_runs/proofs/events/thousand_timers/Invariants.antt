use Rattle.std.proofs.Common.{◌≤◌}
use Rattle.check_runs.proofs.events.thousand_timers.Given as goal

abbrev pub invariant-loop-place : goal.invariant-loop-place
invariant-loop-place l = l.events.next ≤ l.place
