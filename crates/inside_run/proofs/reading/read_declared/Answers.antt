use Rattle.std.proofs.Common.{arith}
use Rattle.inside_run.proofs.Moves.{costs_more}
use Rattle.inside_run.proofs.reading.read_declared.Goals as goal

pub returns-clause-costs : goal.returns-clause-costs
returns-clause-costs c s = costs_more s c.there.result 2 3 (omega arith) (c.there.ensures.costs s)
