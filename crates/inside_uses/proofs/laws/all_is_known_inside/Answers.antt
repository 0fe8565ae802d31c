use Rattle.inside_uses.proofs.Parts.{all_is_known}
use Rattle.inside_uses.proofs.laws.all_is_known_inside.Goals as goal

pub returns : goal.returns
returns c = all_is_known
