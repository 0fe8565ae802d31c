use Rattle.ned_read_back.proofs.SpellingLaws as laws
use Rattle.ned_read_back.proofs.tokens.read_back.Goals as goal

pub returns : goal.returns
returns c = laws.read_back c.args.tokens.now
