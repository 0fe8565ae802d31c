use Rattle.std.proofs.Common.{arith, sym, ◌∙◌}
use Rattle.inside_walk.specs.Weights.{of_element}
use Rattle.inside_walk.proofs.OfSubmodules.{there_leads, there_spends, element_within}
use Rattle.inside_walk.proofs.Spent.{spends_more}
use Rattle.inside_walk.proofs.submodules.submodule_there.Goals as goal

pub returns-clause-leads : goal.returns-clause-leads
returns-clause-leads c =
    there_leads c.args.ground.now c.args.tasks.now c.element.new._tasks c.args.submodule.now c.args.state c.in_ok-state.state c.len.result c.element.result (sym c.is_some.ensures ∙ c.if-is_some.false) c.in_ok-state.ensures c.len.ensures c.element.ensures.leads

pub returns-clause-spends : goal.returns-clause-spends
returns-clause-spends c =
    let e = of_element c.args.ground.now in
    spends_more c.args.ground.now e _ 0 0 c.args.tasks.now c.args.state.turns c.element.result c.element.new._tasks (element_within e) (omega arith)
    (there_spends c.args.ground.now c.args.tasks.now c.element.new._tasks c.args.state c.in_ok-state.state c.len.result c.element.result c.in_ok-state.ensures c.element.ensures.spends)
