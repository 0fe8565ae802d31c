use Rattle.model_agreement.proofs.Spared.{spared_alike}
use Rattle.model_agreement.proofs.laws.spared_are_alike.Goals as goal

pub returns : goal.returns
returns c = spared_alike
