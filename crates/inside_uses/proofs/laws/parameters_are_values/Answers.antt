use Rattle.inside_uses.proofs.Values.{are_values}
use Rattle.inside_uses.proofs.laws.parameters_are_values.Goals as goal

pub returns : goal.returns
returns c = are_values
