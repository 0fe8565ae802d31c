use Rattle.run_semantics.proofs.Ends.{one_more, no_more}
use Rattle.run_semantics.proofs.laws.one_event_more.Goals as goal

pub returns : goal.returns
returns c = record { running = one_more; over = no_more }
