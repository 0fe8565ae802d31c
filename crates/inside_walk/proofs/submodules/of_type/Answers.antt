use Rattle.inside_walk.proofs.OfSubmodules.{type_leads, type_spends}
use Rattle.inside_walk.proofs.submodules.of_type.Goals as goal

pub returns-clause-leads : goal.returns-clause-leads
returns-clause-leads c =
    type_leads c.args.ground.now c.args.tasks.now c.push.new.self c.push-2.new.self c.args.submodule.now c.args.declared.now c.args.number c.args.state c.in_ok-state.state c.args.child c.in_ok-holder.holder c.args.index c.misplaced_of-misplaced.result
    c.gates_of-gates.result c.asked_lines-lines.result c.sizes_task.result c.sizes_task.ensures
    c.in_ok-push.ensures.ok c.in_ok-push-2.ensures.ok c.in_ok-holder.ensures c.misplaced_of-misplaced.ensures c.gates_of-gates.ensures.same c.asked_lines-lines.ensures.lines c.in_ok-state.ensures

pub returns-clause-spends : goal.returns-clause-spends
returns-clause-spends c =
    type_spends c.args.ground.now c.args.tasks.now c.push.new.self c.push-2.new.self c.args.declared.now c.args.number c.args.state c.in_ok-state.state c.args.child c.in_ok-holder.holder c.args.index c.misplaced_of-misplaced.result
    c.gates_of-gates.result c.asked_lines-lines.result c.sizes_task.result c.sizes_task.ensures
    c.in_ok-push.ensures.ok c.in_ok-push-2.ensures.ok c.gates_of-gates.ensures.weight c.asked_lines-lines.ensures.weight c.requires c.in_ok-state.ensures
