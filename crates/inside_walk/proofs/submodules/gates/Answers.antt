use Rattle.inside_walk.proofs.OfSubmodules.{gates_spend}
use Rattle.inside_walk.proofs.submodules.gates.Goals as goal

pub returns-clause-spends : goal.returns-clause-spends
returns-clause-spends c =
    gates_spend c.args.ground.now c.args.tasks.now c.gate.new.tasks c.args.gates.now c.in-Some.first.now c.in-Some.rest.now c.args.state.turns c.gate.result c.in-Some.ensures.cases.0 c.gate.ensures.spends
