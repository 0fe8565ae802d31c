use Rattle.std.proofs.Common.{true, false, sym, ◌∙◌, rules, arith}
use Rattle.ini_pattern.proofs.PlaceLemmas.{stars_taken}
use Rattle.ini_pattern.proofs.places.around_star.Goals as goal
use Rattle.ini_pattern.proofs.places.around_star.Goals.{then-is_any_name+else-count-number, else-is_any_name}

pub loop-at-preserved : goal.loop-at-preserved
loop-at-preserved c =
    let w = c.loop-at.invariant in
    elim c.if-is_any_name.branch [
      | then-is_any_name+else-count-number k ↦ stars_taken c.args.pieces.now c.loop-at.at c.loop-at.count c.args.number c.if-is_any_name.count c.index-pieces-at.result true c.index-pieces-at.is c.loop-at-test.true (sym c.is_any_name.ensures ∙ k.if-is_any_name.true) k.count-is (search rules) w.1 w.2
      | else-is_any_name k ↦ stars_taken c.args.pieces.now c.loop-at.at c.loop-at.count c.args.number c.if-is_any_name.count c.index-pieces-at.result false c.index-pieces-at.is c.loop-at-test.true (sym c.is_any_name.ensures ∙ k.if-is_any_name.false) (k.count-is ∙ omega arith) (omega (arith, w.0, k.count-is)) w.1 w.2
    ]
