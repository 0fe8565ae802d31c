use Rattle.std.proofs.Common.{◌≡◌, ◌++◌, drop}
use Rattle.ini_pattern.proofs.piece.copy_pieces.Given as goal

abbrev pub invariant-loop-piece : goal.invariant-loop-piece
invariant-loop-piece l = l.copy ++ drop l.piece-index l.pieces ≡ l.pieces
