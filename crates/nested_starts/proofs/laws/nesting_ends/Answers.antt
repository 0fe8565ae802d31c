use Rattle.nested_starts.proofs.Ends.{nested_after}
use Rattle.nested_starts.proofs.laws.nesting_ends.Goals as goal

pub returns : goal.returns
returns c = nested_after
