use Rattle.inside_run.proofs.Moves.{begun_weight, costs_more}
use Rattle.inside_run.proofs.posed.begin_posed.Goals as goal

pub returns-clause-costs : goal.returns-clause-costs
returns-clause-costs c s = costs_more s c.pose.result _ _ (begun_weight c.args.posed c.in-Some.posed _ c.in-Some.is c.in_ok-evaluation.ensures.few) (c.pose.ensures.costs s)
