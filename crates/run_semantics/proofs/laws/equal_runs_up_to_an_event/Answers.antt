use Rattle.run_semantics.proofs.Reuse.{after_same_up_to, reached_same_up_to}
use Rattle.run_semantics.proofs.laws.equal_runs_up_to_an_event.Goals as goal

pub returns : goal.returns
returns c = record { all = after_same_up_to; reached = reached_same_up_to }
