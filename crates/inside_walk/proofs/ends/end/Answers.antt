use Rattle.std.proofs.Common.{arith, ap, sym, ◌∙◌}
use Rattle.ned_trees.specs.declared.connections.End.{End}
use Rattle.inside_walk.specs.Tasks.{end_at}
use Rattle.inside_walk.specs.Weights.{of_rest}
use Rattle.inside_walk.proofs.OfEnds.{less_named, less_without_name}
use Rattle.inside_walk.proofs.Spent.{spends_more}
use Rattle.inside_walk.proofs.ends.end.Goals as goal

pub returns-in-Some-clause-spends : goal.returns-in-Some-clause-spends
returns-in-Some-clause-spends c =
    spends_more c.args.ground.now _ _ 0 0 c.args.tasks.now c.args.state.turns c.named.result c.named.new.tasks
    (less_named (end_at c.args.side c.args.connection.now) _ (of_rest c.args.connection.now c.args.side) (ap (λ (e : End). e.owner) (sym c.end_at-end.ensures) ∙ c.in-Some.is)) (omega arith) c.named.ensures.spends

pub returns-in-None-clause-spends : goal.returns-in-None-clause-spends
returns-in-None-clause-spends c =
    spends_more c.args.ground.now _ _ 0 0 c.args.tasks.now c.args.state.turns c.part.result c.part.new.tasks
    (less_without_name (end_at c.args.side c.args.connection.now) (of_rest c.args.connection.now c.args.side)) (omega arith) c.part.ensures.spends
