use Rattle.std.proofs.Common.{length, ◌-◌, ◌≤◌}
use Rattle.ned_tokens.proofs.RunLemmas.{IsRunSoFar}
use Rattle.ned_tokens.proofs.runs.split_run.Given as goal

abbrev pub invariant-loop-end : goal.invariant-loop-end
invariant-loop-end l = (l.end ≤ length l.bytes) × IsRunSoFar l.class l.bytes l.end

abbrev pub decreases-loop-end : goal.decreases-loop-end
decreases-loop-end l = length l.bytes - l.end
