use Rattle.inside_walk.proofs.Spent.{spends_more}
use Rattle.inside_walk.specs.Weights.{of_body, of_clauses}
use Rattle.inside_run.proofs.Steps.{if_within, no_more}
use Rattle.inside_run.proofs.run.decided.Goals as goal

pub returns-then-holds-clause-spends : goal.returns-then-holds-clause-spends
returns-then-holds-clause-spends c =
    let w = of_clauses c.args.list.now (of_body c.args.body) in
    spends_more c.args.ground.now w _ w _ c.args.tasks.now c.args.state.turns c.clauses.result c.clauses.new.tasks (if_within w) (no_more w) c.clauses.ensures.spends
