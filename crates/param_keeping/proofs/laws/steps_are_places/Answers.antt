use Rattle.param_keeping.proofs.Steps.{steps_places}
use Rattle.param_keeping.proofs.laws.steps_are_places.Goals as goal

pub returns : goal.returns
returns g c = λ rules. steps_places rules
