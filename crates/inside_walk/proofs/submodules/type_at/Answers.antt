use Rattle.inside_walk.proofs.OfSubmodules.{type_lent}
use Rattle.inside_walk.proofs.submodules.type_at.Goals as goal

pub returns-clause-weight : goal.returns-clause-weight
returns-clause-weight c = type_lent c.args.types.now c.args.number c.type_found.result c.type_found.ensures
