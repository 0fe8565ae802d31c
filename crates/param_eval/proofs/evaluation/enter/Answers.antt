use Rattle.param_eval.specs.declared.evaluation.Task.TheVariants as task
use Rattle.param_eval.specs.declared.operators.Combination.TheVariants as combination
use Rattle.param_eval.specs.Evaluating.{after}
use Rattle.param_eval.proofs.Tasks.{entered, of_element, of_index, first_of_choice, first_of_operator, first_of_condition}
use Rattle.param_eval.proofs.evaluation.enter.Goals as goal

pub returns-in-Chosen-clause-step : goal.returns-in-Chosen-clause-step
returns-in-Chosen-clause-step c =
    let choice = c.in-Chosen.choice in
    let left = c.get-in-Chosen-2.result in
    let right = c.get-in-Chosen.result in
    let e = c.args.expression.now in
    let h = first_of_choice e choice c.in-Chosen.left c.in-Chosen.right left right c.in-Chosen.is c.get-in-Chosen-2.ensures c.get-in-Chosen.ensures in
    entered c.enter_first-in-Chosen.result c.enter_first-in-Chosen.new.tasks.items c.args.tasks.now.items (after (task.Right (combination.Choice choice) right)) left.now e h c.enter_first-in-Chosen.ensures.step

pub returns-in-Binary-clause-step : goal.returns-in-Binary-clause-step
returns-in-Binary-clause-step c =
    let operator = c.in-Binary.operator in
    let left = c.get-in-Binary-2.result in
    let right = c.get-in-Binary.result in
    let e = c.args.expression.now in
    let h = first_of_operator e operator c.in-Binary.left c.in-Binary.right left right c.in-Binary.is c.get-in-Binary-2.ensures c.get-in-Binary.ensures in
    entered c.enter_first-in-Binary.result c.enter_first-in-Binary.new.tasks.items c.args.tasks.now.items (after (task.Right (combination.Operator operator) right)) left.now e h c.enter_first-in-Binary.ensures.step

pub returns-in-Conditional-clause-step : goal.returns-in-Conditional-clause-step
returns-in-Conditional-clause-step c =
    let condition = c.get-in-Conditional.result in
    let yes = c.get-in-Conditional-2.result in
    let no = c.get-in-Conditional-3.result in
    let e = c.args.expression.now in
    let h = first_of_condition e c.in-Conditional.condition c.in-Conditional.yes c.in-Conditional.no condition yes no c.in-Conditional.is c.get-in-Conditional.ensures c.get-in-Conditional-2.ensures c.get-in-Conditional-3.ensures in
    entered c.enter_first-in-Conditional.result c.enter_first-in-Conditional.new.tasks.items c.args.tasks.now.items (after (task.Branch yes no)) condition.now e h c.enter_first-in-Conditional.ensures.step

pub returns-in-Element-clause-step : goal.returns-in-Element-clause-step
returns-in-Element-clause-step c =
    of_element c.enter_first.result c.enter_first.new.tasks.items c.args.tasks.now.items c.in-Element.sub c.in-Element.x c.in-Element.index c.get-in-Element.result c.args.expression.now
    c.enter_first.ensures.step c.in-Element.is c.get-in-Element.ensures

pub returns-in-ExistsAt-clause-step : goal.returns-in-ExistsAt-clause-step
returns-in-ExistsAt-clause-step c =
    of_index c.enter_first-in-ExistsAt.result c.enter_first-in-ExistsAt.new.tasks.items c.args.tasks.now.items c.in-ExistsAt.sub c.in-ExistsAt.index c.get-in-ExistsAt.result c.args.expression.now
    c.enter_first-in-ExistsAt.ensures.step c.in-ExistsAt.is c.get-in-ExistsAt.ensures
