use Rattle.std.proofs.Common.{◌≡◌, ℕ, ◌≤◌, false, length, Some, slice_get}
use Rattle.ini_pattern.specs.declared.piece.Piece.{Piece}
use Rattle.ini_index.specs.Keys.{is_dot}
use Rattle.ini_index.proofs.key.behind_last_dot.Given as goal

abbrev pub invariant-loop-start : goal.invariant-loop-start
invariant-loop-start l = record {
  within : l.start ≤ length l.pieces;
  past : (k : ℕ) (p : Piece) → l.start ≤ k → slice_get l.pieces k ≡ Some p → is_dot p ≡ false;
}

abbrev pub decreases-loop-start : goal.decreases-loop-start
decreases-loop-start l = l.start
