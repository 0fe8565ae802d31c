use Rattle.run_semantics.proofs.Closing.{ending_closed}
use Rattle.run_semantics.proofs.laws.the_end_asks_nothing.Goals as goal

pub returns : goal.returns
returns c = record {
  questions = λ b m ran. (ending_closed b m ran).questions;
  records = λ b m ran. (ending_closed b m ran).records;
  count = λ b m ran. (ending_closed b m ran).count;
}
