use Rattle.std.proofs.Common.{◌≡◌, ℕ, ◌≤◌, ◌<◌, length, get_or}
use Rattle.ini_trees.proofs.speaks.last_name.Given as goal

abbrev pub invariant-loop-start : goal.invariant-loop-start
invariant-loop-start l = record { within : l.start ≤ length l.path; past : (k : ℕ) → l.start ≤ k → k < length l.path → get_or l.path k 0 ≡ 46 → ⊥ }

abbrev pub decreases-loop-start : goal.decreases-loop-start
decreases-loop-start l = l.start
