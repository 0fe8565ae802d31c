use Rattle.std.proofs.Common.{arith}
use Rattle.inside_run.proofs.Moves.{costs_more}
use Rattle.inside_run.proofs.reading.there.Goals as goal

pub returns-in-Member-clause-costs : goal.returns-in-Member-clause-costs
returns-in-Member-clause-costs c s = costs_more s c.of_child.result 1 2 (omega arith) (c.of_child.ensures.costs s)
