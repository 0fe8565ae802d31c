use Rattle.inside_keys.specs.Inside.{connected}
use Rattle.inside_walk.specs.Tasks.{joined}
use Rattle.inside_walk.specs.Weights.{of_connection}
use Rattle.inside_walk.proofs.OfItems.{clauses_lead, clauses_spend}
use Rattle.inside_walk.proofs.loops.connection_line.Goals as goal

pub returns-clause-leads : goal.returns-clause-leads
returns-clause-leads c =
    clauses_lead c.args.ground.now c.args.tasks.now c.clauses.new.tasks c.args.tasks.now c.args.state c.clauses.result c.as_slice.result.now c.args.line.now.clauses c.body_of_line-body.result
    (connected c.args.ground.now.place c.args.ground.now.submodules.now c.args.ground.now.gates.now (joined c.args.ground.now) c.args.line.now.connection) c.as_slice.ensures (c.body_of_line-body.ensures.same c.args.ground.now) c.clauses.ensures.leads

pub returns-clause-spends : goal.returns-clause-spends
returns-clause-spends c =
    clauses_spend c.args.ground.now c.args.tasks.now c.clauses.new.tasks c.args.tasks.now c.args.state c.clauses.result c.as_slice.result.now c.args.line.now.clauses c.body_of_line-body.result
    (of_connection c.args.line.now.connection) c.args.state.turns c.as_slice.ensures c.body_of_line-body.ensures.weight c.clauses.ensures.spends
