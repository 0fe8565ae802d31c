use Rattle.model_answers.proofs.Walks.{walk_meets_all}
use Rattle.model_answers.proofs.laws.walk_meets_all.Goals as goal

pub returns : goal.returns
returns c = walk_meets_all
