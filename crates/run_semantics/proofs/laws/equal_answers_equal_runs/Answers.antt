use Rattle.run_semantics.proofs.Reuse.{after_same, reached_same}
use Rattle.run_semantics.proofs.laws.equal_answers_equal_runs.Goals as goal

pub returns : goal.returns
returns c = record { all = after_same; reached = reached_same }
