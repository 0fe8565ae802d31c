use Rattle.checkpoint_runs.proofs.Few.{all_stay}
use Rattle.checkpoint_runs.proofs.laws.few_positions_all_stay.Goals as goal

pub returns : goal.returns
returns c = all_stay
