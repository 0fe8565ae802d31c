use Rattle.ini_trees.proofs.OnceLaws.{names_once}
use Rattle.ini_trees.proofs.laws.names_once.Goals as goal

pub returns : goal.returns
returns c = names_once c.args.lines.now c.args.config.now
