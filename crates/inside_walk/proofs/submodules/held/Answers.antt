use Rattle.std.proofs.Common.{arith}
use Rattle.inside_walk.specs.Weights.{of_element}
use Rattle.inside_walk.proofs.OfSubmodules.{held_within}
use Rattle.inside_walk.proofs.Spent.{spends_more}
use Rattle.inside_walk.proofs.submodules.held.Goals as goal

pub returns-in-Truth-true-clause-spends : goal.returns-in-Truth-true-clause-spends
returns-in-Truth-true-clause-spends c =
    spends_more c.args.ground.now _ _ 0 0 c.args.tasks.now c.args.state.turns c.submodule_there.result c.submodule_there.new.tasks (held_within (of_element c.args.ground.now)) (omega arith) c.submodule_there.ensures.spends
