use Rattle.std.proofs.Common.{sym, subst, List, rules}
use Rattle.std.specs.Str.{chars}
use Rattle.ini_pattern.specs.declared.piece.Piece.{Piece}
use Rattle.ini_pattern.proofs.ParseLemmas.{PiecesSoFar, pieces_none, pieces_next, pieces_shorter}
use Rattle.ini_pattern.proofs.parse.parse_pieces.Goals as goal

pub loop-first-init : goal.loop-first-init
loop-first-init c = (search rules, pieces_none _ _ c.new-pieces.ensures)

pub loop-first-smaller : goal.loop-first-smaller
loop-first-smaller c =
    let told = c.in_ok-rest.ensures in
    pieces_shorter _ _ _ _ told.0 c.in-Some.ensures told.2

pub loop-first-preserved : goal.loop-first-preserved
loop-first-preserved c =
    let told = c.in_ok-rest.ensures in
    (search rules, subst (λ (l : List Piece). PiecesSoFar l (chars c.args.text.now) (chars c.in_ok-rest.rest.now)) (sym told.1) (pieces_next _ told.0 _ _ _ _ _ c.loop-first.invariant.1 c.in-Some.ensures told.2))
