use Rattle.std.proofs.Common.{◌≡◌, true}
use Rattle.param_following.proofs.Enough.{enough}
use Rattle.param_following.proofs.laws.is_enough.Goals as goal

pub returns : goal.returns
returns g c = λ rules inside. enough rules (λ k. inside k ≡ true)
