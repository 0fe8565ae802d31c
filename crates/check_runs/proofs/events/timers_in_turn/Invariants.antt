use Rattle.std.proofs.Common.{length}
use Rattle.check_runs.proofs.events.timers_in_turn.Given as goal

abbrev pub decreases-loop-event : goal.decreases-loop-event
decreases-loop-event l = length l.events.list
