use Rattle.std.proofs.Common.{Some, sym, ◌∙◌, ap, subst}
use Rattle.param_engine.specs.Tables.{known}
use Rattle.param_engine.specs.Turns.{came_to}
use Rattle.param_engine.specs.Working.{GoesOn, ruled}
use Rattle.param_engine.proofs.Noting.{goes_further}
use Rattle.param_engine.proofs.engine.proceed.Goals as goal

pub loop-turn-preserved : goal.loop-turn-preserved
loop-turn-preserved g c =
    let eq = g.A.Key.PartialEq.eq in
    let asker = c.args.asker.now in
    let es = c.args.table.now.entries in
    let w = c.loop-turn in
    let at = c.in-Some.ensures.place in
    goes_further (ruled eq (g.A.Asker.asking asker) (g.A.Asker.circle asker)) es (known eq es) c.args.frame.now.asked w.frame.asked _
    (came_to (g.A.Asker.resumed asker c.args.frame.now.evaluation) c.args.turn) _
    c.in-Ask.key (g.A.Asker.resumed asker w.frame.evaluation) c.in-Some.place c.in-Some.value.now
    (at.1 ∙ ap Some (sym (g.met.A.Asker.exact c.in-Ask.key at.0 at.2))) c.in-Some.ensures.value c.in_ok-turn.ensures.asked c.in_ok-turn.ensures.turn
    (subst (λ t. GoesOn es (known eq es) c.args.frame.now.asked (came_to (g.A.Asker.resumed asker c.args.frame.now.evaluation) c.args.turn) w.frame.asked
    (came_to (g.A.Asker.resumed asker w.frame.evaluation) t)) c.in-Ask.is w.invariant)
