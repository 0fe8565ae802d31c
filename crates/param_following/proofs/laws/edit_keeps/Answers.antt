use Rattle.param_following.proofs.Pass.{edit_keeps}
use Rattle.param_following.proofs.laws.edit_keeps.Goals as goal

pub returns : goal.returns
returns g c = λ before after exact. edit_keeps before after exact
