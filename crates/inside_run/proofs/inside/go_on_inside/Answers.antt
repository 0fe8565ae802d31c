use Rattle.inside_run.proofs.inside.go_on_inside.Goals as goal

pub returns-clause-costs : goal.returns-clause-costs
returns-clause-costs c s = c.halted.ensures.costs s _ c.in_ok-halt.ensures.less
