use Rattle.std.proofs.Common.{length, refl, arith}
use Rattle.inside_walk.proofs.OfItems.{connection_lines_lead, connection_lines_spend, connection_lines_some}
use Rattle.inside_walk.proofs.Spent.{unchanged}
use Rattle.inside_walk.proofs.loops.connection_lines.Goals as goal

pub returns-clause-leads : goal.returns-clause-leads
returns-clause-leads c =
    connection_lines_lead c.args.ground.now c.args.tasks.now c.connection_line.new.tasks c.push.new.self c.args.state c.connection_line.result c.args.lines.now c.in-Some.first.now c.in-Some.rest c.at_line-state.result (length c.in-Some.rest.now)
    c.in-Some.ensures.cases.0 c.in_ok-push.ensures.ok c.at_line-state.ensures refl c.connection_line.ensures.leads

pub returns-clause-spends : goal.returns-clause-spends
returns-clause-spends c =
    connection_lines_spend c.args.ground.now c.args.tasks.now c.connection_line.new.tasks c.push.new.self c.args.state c.connection_line.result c.args.lines.now c.in-Some.first.now c.in-Some.rest c.at_line-state.result (length c.in-Some.rest.now)
    c.in-Some.ensures.cases.0 c.in_ok-push.ensures.ok c.at_line-state.ensures c.connection_line.ensures.spends

pub returns-in_default-clause-spends : goal.returns-in_default-clause-spends
returns-in_default-clause-spends c = λ most h k. unchanged c.args.ground.now most _ c.args.tasks.now c.args.state.turns _ (omega arith) k (connection_lines_some c.args.lines.now) refl
