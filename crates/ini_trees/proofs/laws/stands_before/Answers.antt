use Rattle.ini_trees.proofs.BeforeLaws.{stands_before}
use Rattle.ini_trees.proofs.laws.stands_before.Goals as goal

pub returns : goal.returns
returns c = stands_before c.args.lines.now c.args.config.now
