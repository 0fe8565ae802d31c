use Rattle.ned_tokens.proofs.BlankLemmas.{says_nothing}
use Rattle.ned_tokens.proofs.blank.blank_line.Goals as goal

pub returns : goal.returns
returns c = says_nothing c.args.front.now c.args.line.now c.args.back.now
