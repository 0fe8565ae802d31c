use Rattle.inside_walk.proofs.OfSubmodules.{submodules_lead, submodules_spend}
use Rattle.inside_walk.proofs.submodules.submodules.Goals as goal

pub returns-clause-leads : goal.returns-clause-leads
returns-clause-leads c =
    submodules_lead c.args.ground.now c.args.tasks.now c.submodule.new.tasks c.push.new.self c.args.submodules.now c.in-Some.first.now c.in-Some.rest c.args.state c.submodule.result c.in-Some.ensures.cases.0 c.in_ok-push.ensures.ok
    c.submodule.ensures.leads

pub returns-clause-spends : goal.returns-clause-spends
returns-clause-spends c =
    submodules_spend c.args.ground.now c.args.tasks.now c.submodule.new.tasks c.push.new.self c.args.submodules.now c.in-Some.first.now c.in-Some.rest c.args.state.turns c.submodule.result c.in-Some.ensures.cases.0 c.in_ok-push.ensures.ok
    c.submodule.ensures.spends
