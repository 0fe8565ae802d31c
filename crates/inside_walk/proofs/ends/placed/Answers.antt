use Rattle.std.proofs.Common.{Some, arith}
use Rattle.inside_walk.specs.Weights.{of_position, of_rest}
use Rattle.inside_walk.proofs.OfEnds.{less_with_position}
use Rattle.inside_walk.proofs.Spent.{spends_more}
use Rattle.inside_walk.proofs.ends.placed.Goals as goal

pub returns-in-Next-clause-spends : goal.returns-in-Next-clause-spends
returns-in-Next-clause-spends c =
    spends_more c.args.ground.now _ _ 0 0 c.args.tasks.now c.args.state.turns c.free.result c.free.new.tasks
    (less_with_position (of_position (Some c.args.place.now)) (of_rest c.args.connection.now c.args.side)) (omega arith) c.free.ensures.spends
