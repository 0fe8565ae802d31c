use Rattle.inside_edits.proofs.Standing.{inside_stands}
use Rattle.inside_edits.proofs.laws.inside_stands.Goals as goal

pub returns : goal.returns
returns c = inside_stands
