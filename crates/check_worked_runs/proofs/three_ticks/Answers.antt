use Rattle.check_worked_runs.proofs.Runs.{three_ticks_run}
use Rattle.check_worked_runs.proofs.three_ticks.Goals as goal

pub returns : goal.returns
returns c = three_ticks_run
