use Rattle.inside_walk.proofs.OfSubmodules.{known_leads}
use Rattle.inside_walk.proofs.submodules.known.Goals as goal

pub returns-clause-leads : goal.returns-clause-leads
returns-clause-leads c =
    known_leads c.args.ground.now c.args.tasks.now c.typed.new.tasks c.args.submodule.now c.args.index c.args.value.now c.in_ok-number.number c.in_ok-child.child c.args.state c.typed.result
    c.in_ok-number.ensures c.in_ok-child.ensures c.typed.ensures.leads
