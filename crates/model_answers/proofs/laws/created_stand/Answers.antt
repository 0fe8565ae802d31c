use Rattle.model_answers.proofs.Created.{created_stand}
use Rattle.model_answers.proofs.laws.created_stand.Goals as goal

pub returns : goal.returns
returns c = created_stand
