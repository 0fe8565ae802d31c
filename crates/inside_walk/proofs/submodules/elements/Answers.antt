use Rattle.std.proofs.Common.{arith}
use Rattle.inside_walk.specs.declared.task.Task.TheVariants as task
use Rattle.inside_walk.specs.Weights.{of_element, of_elements}
use Rattle.inside_walk.proofs.OfElements.{elements_leads, element_more}
use Rattle.inside_walk.proofs.Spent.{below}
use Rattle.inside_walk.proofs.submodules.elements.Goals as goal

pub returns-clause-leads : goal.returns-clause-leads
returns-clause-leads c =
    elements_leads c.args.ground.now c.push.new.self c.args.tasks.now c.args.submodule c.args.left c.args.all c.first_of-index.result c.args.state c.element.result c.element.new._tasks
    c.in_ok-push.ensures.ok (omega arith) c.first_of-index.ensures c.element.ensures.leads

pub returns-clause-spends : goal.returns-clause-spends
returns-clause-spends c =
    below c.args.ground.now (task.Elements c.args.submodule _ c.args.all) c.push.new.self c.args.tasks.now (of_element c.args.ground.now) (of_elements c.args.ground.now c.args.left) 0 0 c.args.state.turns
    c.element.result c.element.new._tasks c.in_ok-push.ensures.ok (omega arith) (omega arith) (element_more c.args.left (of_element c.args.ground.now) (omega arith)) c.element.ensures.spends
