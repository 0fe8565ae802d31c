use Rattle.inside_walk.proofs.OfSubmodules.{gates_lent, gates_weigh, no_gates, gates_some}
use Rattle.inside_walk.proofs.submodules.gates_of.Goals as goal

pub returns-in-Some-clause-same : goal.returns-in-Some-clause-same
returns-in-Some-clause-same c = gates_lent c.args.gates.now c.args.number c.gates_at.result c.in-Some.found c.as_slice.result.now c.gates_at.ensures c.in-Some.is c.as_slice.ensures

pub returns-in-Some-clause-weight : goal.returns-in-Some-clause-weight
returns-in-Some-clause-weight c =
    gates_weigh c.args.gates.now c.args.number c.as_slice.result.now
    (gates_lent c.args.gates.now c.args.number c.gates_at.result c.in-Some.found c.as_slice.result.now c.gates_at.ensures c.in-Some.is c.as_slice.ensures)

pub returns-in-None-clause-same : goal.returns-in-None-clause-same
returns-in-None-clause-same c = no_gates c.args.gates.now c.args.number c.gates_at.result c.gates_at.ensures c.in-None.is

pub returns-in-None-clause-weight : goal.returns-in-None-clause-weight
returns-in-None-clause-weight c = gates_some c.args.gates.now
