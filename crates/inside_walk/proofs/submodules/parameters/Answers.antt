use Rattle.inside_walk.proofs.OfSubmodules.{section_spends}
use Rattle.inside_walk.proofs.submodules.parameters.Goals as goal

pub returns-clause-spends : goal.returns-clause-spends
returns-clause-spends c =
    section_spends c.args.ground.now c.args.tasks.now c.parameter.new.tasks c.args.lines.now c.in-Some.first.now c.in-Some.rest.now c.args.state.turns c.parameter.result c.in-Some.ensures.cases.0 c.parameter.ensures.spends
