use Rattle.ini_trees.proofs.LineLaws.{one_chain_law}
use Rattle.ini_trees.proofs.laws.one_chain.Goals as goal

pub returns : goal.returns
returns c = one_chain_law c.args.lines.now c.args.config.now
