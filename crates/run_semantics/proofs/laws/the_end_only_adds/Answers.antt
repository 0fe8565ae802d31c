use Rattle.run_semantics.specs.Ending.{ending}
use Rattle.run_semantics.proofs.Closing.{ending_closed}
use Rattle.run_semantics.proofs.Living.{same_live}
use Rattle.run_semantics.proofs.laws.the_end_only_adds.Goals as goal

pub returns : goal.returns
returns c = record {
  live = λ b m ran. same_live ran.world (ending b m ran).world (ending_closed b m ran).records (ending_closed b m ran).dead;
  started = λ b m ran. (ending_closed b m ran).started;
  finished = λ b m ran. (ending_closed b m ran).finished;
  emissions = λ b m ran. (ending_closed b m ran).emissions;
  scalars = λ b m ran. (ending_closed b m ran).scalars;
}
