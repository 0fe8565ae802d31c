use Rattle.std.proofs.Common.{◌≡◌, ℕ, ◌+◌, ◌<◌, drop, get_or, length}
use Rattle.ini_trees.specs.Counts.{held}
use Rattle.ini_trees.proofs.merge.count.Given as goal

abbrev pub invariant-loop-number : goal.invariant-loop-number
invariant-loop-number l = (k : ℕ) → k < length l.waiting → get_or l.waiting k 0 + held k (drop l.number-index l.numbers) ≡ get_or l.initial.waiting k 0 + held k l.numbers
