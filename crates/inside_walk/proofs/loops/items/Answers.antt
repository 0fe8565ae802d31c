use Rattle.std.proofs.Common.{length, refl, arith}
use Rattle.inside_walk.proofs.OfItems.{items_lead, items_spend, items_some}
use Rattle.inside_walk.proofs.Spent.{unchanged}
use Rattle.inside_walk.proofs.loops.items.Goals as goal

pub returns-clause-leads : goal.returns-clause-leads
returns-clause-leads c =
    items_lead c.args.ground.now c.args.tasks.now c.item.new.tasks c.push.new.self c.args.state c.item.result c.args.items.now c.in-Some.first.now c.in-Some.rest c.at_item-state.result (length c.in-Some.rest.now)
    c.in-Some.ensures.cases.0 c.in_ok-push.ensures.ok c.at_item-state.ensures refl c.item.ensures.leads

pub returns-clause-spends : goal.returns-clause-spends
returns-clause-spends c =
    items_spend c.args.ground.now c.args.tasks.now c.item.new.tasks c.push.new.self c.args.state c.item.result c.args.items.now c.in-Some.first.now c.in-Some.rest c.at_item-state.result (length c.in-Some.rest.now)
    c.in-Some.ensures.cases.0 c.in_ok-push.ensures.ok c.at_item-state.ensures c.item.ensures.spends

pub returns-in_default-clause-spends : goal.returns-in_default-clause-spends
returns-in_default-clause-spends c = λ most h k. unchanged c.args.ground.now most _ c.args.tasks.now c.args.state.turns _ (omega arith) k (items_some c.args.items.now) refl
