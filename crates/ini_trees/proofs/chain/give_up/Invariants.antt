use Rattle.std.proofs.Common.{◌≡◌, ◌≢◌, ◌⊎◌, ℕ, length, get_or}
use Rattle.ini_trees.specs.Numbered.{line_at}
use Rattle.ini_trees.proofs.chain.give_up.Given as goal

abbrev pub invariant-loop-base : goal.invariant-loop-base
invariant-loop-base l = record {
  size : length l.lines ≡ length l.initial.lines;
  kept : (k : ℕ) → (k ≡ l.root) ⊎ (get_or l.last k 0 ≢ l.place) → line_at l.lines k ≡ line_at l.initial.lines k;
}
