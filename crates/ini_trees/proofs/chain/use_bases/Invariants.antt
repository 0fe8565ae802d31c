use Rattle.std.proofs.Common.{◌≡◌, ◌⊎◌, ℕ, length, take, get_or}
use Rattle.std.specs.List.{Contains}
use Rattle.ini_trees.proofs.chain.use_bases.Given as goal

abbrev pub invariant-loop-base : goal.invariant-loop-base
invariant-loop-base l = record {
  size : length l.last ≡ length l.initial.last;
  used : (k : ℕ) → Contains (take l.base-index l.row) k → get_or l.last k 0 ≡ l.place;
  others : (k : ℕ) → (get_or l.last k 0 ≡ l.place) ⊎ (get_or l.last k 0 ≡ get_or l.initial.last k 0);
}
