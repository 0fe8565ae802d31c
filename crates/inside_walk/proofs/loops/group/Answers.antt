use Rattle.std.proofs.Common.{ap}
use Rattle.inside_keys.specs.Inside.{connection_lines}
use Rattle.inside_walk.specs.declared.task.Body.TheVariants as body
use Rattle.inside_walk.specs.Tasks.{joined}
use Rattle.inside_walk.specs.Weights.{of_connection_lines}
use Rattle.inside_walk.proofs.OfItems.{clauses_lead, clauses_spend}
use Rattle.inside_walk.proofs.loops.group.Goals as goal

pub returns-clause-leads : goal.returns-clause-leads
returns-clause-leads c =
    clauses_lead c.args.ground.now c.args.tasks.now c.clauses.new.tasks c.args.tasks.now c.args.state c.clauses.result c.as_slice-2.result.now c.args.group.now.clauses (body.Connections c.as_slice.result)
    (connection_lines c.args.ground.now.place c.args.ground.now.submodules.now c.args.ground.now.gates.now (joined c.args.ground.now) c.args.group.now.lines) c.as_slice-2.ensures
    (ap (connection_lines c.args.ground.now.place c.args.ground.now.submodules.now c.args.ground.now.gates.now (joined c.args.ground.now)) c.as_slice.ensures) c.clauses.ensures.leads

pub returns-clause-spends : goal.returns-clause-spends
returns-clause-spends c =
    clauses_spend c.args.ground.now c.args.tasks.now c.clauses.new.tasks c.args.tasks.now c.args.state c.clauses.result c.as_slice-2.result.now c.args.group.now.clauses (body.Connections c.as_slice.result)
    (of_connection_lines c.args.group.now.lines) c.args.state.turns c.as_slice-2.ensures (ap of_connection_lines c.as_slice.ensures) c.clauses.ensures.spends
