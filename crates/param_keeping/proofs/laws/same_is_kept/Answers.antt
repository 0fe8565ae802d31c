use Rattle.param_keeping.proofs.Same.{same_stored}
use Rattle.param_keeping.proofs.laws.same_is_kept.Goals as goal

pub returns : goal.returns
returns g c = λ rules. same_stored rules
