use Rattle.nested_starts.proofs.Lines.{ends_after}
use Rattle.nested_starts.proofs.laws.lines_end_at_the_network.Goals as goal

pub returns : goal.returns
returns c = ends_after
