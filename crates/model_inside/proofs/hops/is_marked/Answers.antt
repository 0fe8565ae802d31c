use Rattle.model_inside.proofs.Marks.{marked, unmarked}
use Rattle.model_inside.proofs.hops.is_marked.Goals as goal

pub returns-in-Some : goal.returns-in-Some
returns-in-Some c = rw c.eq.ensures (marked c.args.name.now c.args.gate.now c.args.mark.now c.in-Some.rest.now c.in-Some.ensures.cases.0 c.in-Some.ensures.cases.1)

pub returns-in-None : goal.returns-in-None
returns-in-None c = unmarked c.args.name.now c.args.gate.now c.args.mark.now c.in-None.ensures.cases
