use Rattle.inside_run.proofs.Moves.{costs_more}
use Rattle.inside_run.proofs.posed.go_on_posed.Goals as goal

pub returns-clause-costs : goal.returns-clause-costs
returns-clause-costs c s = costs_more s c.pose.result _ _ c.in_ok-turn.ensures.less (c.pose.ensures.costs s)
