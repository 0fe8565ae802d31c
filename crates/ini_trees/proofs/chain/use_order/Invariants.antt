use Rattle.std.proofs.Common.{◌≡◌, ℕ, ◌<◌, ◌≤◌, length, get_or}
use Rattle.std.specs.List.{Contains}
use Rattle.ini_trees.specs.Numbers.{bases_at}
use Rattle.ini_trees.proofs.chain.use_order.Given as goal

abbrev pub invariant-loop-place : goal.invariant-loop-place
invariant-loop-place l = record {
  size : length l.last ≡ length l.rows;
  last : (j : ℕ) → j < l.place → (b : ℕ) → Contains (bases_at l.rows (get_or l.order j 0)) b → j ≤ get_or l.last b 0;
}
