use Rattle.inside_uses.proofs.Walk.{uses_whether}
use Rattle.inside_uses.proofs.laws.inside_uses_whether.Goals as goal

pub returns : goal.returns
returns c = uses_whether
