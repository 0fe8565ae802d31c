use Rattle.model_settings.proofs.Paths.{children_stand}
use Rattle.model_settings.proofs.laws.children_stand.Goals as goal

pub returns : goal.returns
returns c = children_stand
