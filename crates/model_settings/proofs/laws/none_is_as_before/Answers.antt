use Rattle.model_settings.proofs.Before.{none_created}
use Rattle.model_settings.proofs.laws.none_is_as_before.Goals as goal

pub returns : goal.returns
returns c = none_created
