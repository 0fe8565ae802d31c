use Rattle.std.proofs.Common.{arith}
use Rattle.inside_wiring.proofs.Range.{past_all}
use Rattle.inside_wiring.proofs.ends.at_index.Goals as goal

pub returns-then-found-count : goal.returns-then-found-count
returns-then-found-count c = past_all c.args.wiring c.args.other c.args.role c.args.found c.args.index (omega arith)
