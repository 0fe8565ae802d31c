use Rattle.ini_trees.proofs.KeptLaws.{keeps_order}
use Rattle.ini_trees.proofs.laws.keeps_order.Goals as goal

pub returns : goal.returns
returns c = keeps_order c.args.lines.now c.args.config.now
