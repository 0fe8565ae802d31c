use Rattle.std.proofs.Common.{◌≡◌, ◌<◌, ℕ, true, get_or}
use Rattle.ini_trees.specs.Numbers.{is_done_at}
use Rattle.ini_trees.proofs.order.first_waiting.Given as goal

abbrev pub invariant-loop-base : goal.invariant-loop-base
invariant-loop-base l = (k : ℕ) → k < l.base-index → is_done_at l.done (get_or l.row k 0) ≡ true
