use Rattle.run_semantics.proofs.Reached.{stands, reached_before}
use Rattle.run_semantics.proofs.laws.runs_stand_at_their_last_event.Goals as goal

pub returns : goal.returns
returns c = record {
  stands = stands;
  reached = reached_before;
}
