use Rattle.std.proofs.Common.{◌≡◌, ℕ, ◌+◌, ◌*◌, ◌<◌, ◌≤◌, drop, get_or, length}
use Rattle.ini_trees.specs.Counts.{behind}
use Rattle.ini_trees.proofs.merge.count_tails.Given as goal

abbrev pub invariant-loop-rest : goal.invariant-loop-rest
invariant-loop-rest l = record {
  counted : (k : ℕ) → k < length l.waiting → get_or l.waiting k 0 + behind k (drop l.rest-index l.rests) ≡ behind k l.rests;
  few : (k : ℕ) → k < length l.waiting → get_or l.waiting k 0 ≤ l.rest-index * 18446744073709551616;
}
