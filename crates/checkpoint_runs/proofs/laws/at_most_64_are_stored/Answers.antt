use Rattle.checkpoint_runs.proofs.Most.{few_stored}
use Rattle.checkpoint_runs.proofs.laws.at_most_64_are_stored.Goals as goal

pub returns : goal.returns
returns c = few_stored
