use Rattle.ned_read_back.proofs.ReadBack.{spelling_decides}
use Rattle.ned_read_back.proofs.declarations.one_spelling.Goals as goal

pub returns : goal.returns
returns c = spelling_decides c.args.first.now c.args.second.now
