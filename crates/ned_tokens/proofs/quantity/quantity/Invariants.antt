use Rattle.std.proofs.Common.{◌≡◌, length}
use Rattle.ned_tokens.specs.Quantities.{row_from, piece_at}
use Rattle.ned_tokens.proofs.quantity.quantity.Given as goal

abbrev pub invariant-pieces : goal.invariant-pieces
invariant-pieces l = row_from l.sum l.rest ≡ row_from (piece_at l.bytes).0 (piece_at l.bytes).1

abbrev pub decreases-pieces : goal.decreases-pieces
decreases-pieces l = length l.rest
