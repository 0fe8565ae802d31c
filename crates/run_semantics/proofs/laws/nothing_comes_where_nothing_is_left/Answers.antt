use Rattle.run_semantics.proofs.Looks.{upcoming_ends}
use Rattle.run_semantics.proofs.laws.nothing_comes_where_nothing_is_left.Goals as goal

pub returns : goal.returns
returns c = upcoming_ends
