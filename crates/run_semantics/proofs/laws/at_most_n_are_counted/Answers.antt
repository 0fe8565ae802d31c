use Rattle.run_semantics.proofs.Counts.{count_at_most}
use Rattle.run_semantics.proofs.laws.at_most_n_are_counted.Goals as goal

pub returns : goal.returns
returns c = count_at_most
