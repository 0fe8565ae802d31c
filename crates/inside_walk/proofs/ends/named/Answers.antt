use Rattle.std.proofs.Common.{arith}
use Rattle.inside_walk.specs.Tasks.{end_at}
use Rattle.inside_walk.specs.Weights.{of_maybe, of_position, of_rest}
use Rattle.inside_walk.proofs.OfEnds.{less_with_name}
use Rattle.inside_walk.proofs.Spent.{spends_more}
use Rattle.inside_walk.proofs.ends.named.Goals as goal

pub returns-in_ok-number-in-None-clause-spends : goal.returns-in_ok-number-in-None-clause-spends
returns-in_ok-number-in-None-clause-spends c =
    spends_more c.args.ground.now _ _ 0 0 c.args.tasks.now c.args.state.turns c.part.result c.part.new.tasks
    (less_with_name (of_maybe c.args.name.now.index) (of_position (end_at c.args.side c.args.connection.now).gate.index) (of_rest c.args.connection.now c.args.side)) (omega arith) c.part.ensures.spends
