use Rattle.std.proofs.Common.{◌≡◌, true, false}
use Rattle.ned_tokens.specs.declared.runs.Class.TheVariants as class
use Rattle.ned_tokens.specs.Runs.{behind, begins}
use Rattle.ned_tokens.specs.Quantities.{row_from, piece_at}
use Rattle.ned_tokens.proofs.QuantityLemmas.{row_goes_on, row_shorter, row_done}
use Rattle.ned_tokens.proofs.quantity.quantity.Goals as goal

pub pieces-smaller : goal.pieces-smaller
pieces-smaller c =
    let begun : begins class.Digit (behind class.Space c.pieces.rest.now) ≡ true = cc in
    row_shorter (c.piece-next.result.0, c.piece-next.result.1.now) c.pieces.rest.now c.behind-in-pieces.result.now begun c.behind-in-pieces.ensures c.piece-next.ensures

pub pieces-preserved : goal.pieces-preserved
pieces-preserved c =
    let begun : begins class.Digit (behind class.Space c.pieces.rest.now) ≡ true = cc in
    row_goes_on c.pieces.sum c.added-sum.result (c.piece-next.result.0, c.piece-next.result.1.now) c.pieces.rest.now c.behind-in-pieces.result.now (row_from (piece_at c.args.bytes.now).0 (piece_at c.args.bytes.now).1) begun c.behind-in-pieces.ensures c.piece-next.ensures c.added-sum.ensures c.pieces.invariant

pub returns-in-Some : goal.returns-in-Some
returns-in-Some c =
    let over : begins class.Digit (behind class.Space c.pieces.rest.now) ≡ false = cc in
    rw c.in-Some.is at (row_done c.args.bytes.now c.pieces.sum c.pieces.rest.now over c.pieces.invariant)

pub returns-in-None : goal.returns-in-None
returns-in-None c =
    let over : begins class.Digit (behind class.Space c.pieces.rest.now) ≡ false = cc in
    rw c.in-None.is at (row_done c.args.bytes.now c.pieces.sum c.pieces.rest.now over c.pieces.invariant)
