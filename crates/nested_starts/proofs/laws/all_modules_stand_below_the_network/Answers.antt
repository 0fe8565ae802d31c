use Rattle.nested_starts.proofs.Kept.{within_after}
use Rattle.nested_starts.proofs.laws.all_modules_stand_below_the_network.Goals as goal

pub returns : goal.returns
returns c = within_after
