use Rattle.ned_expressions.proofs.SpellingLaws.{text_faithful}
use Rattle.ned_expressions.proofs.laws.own_spelling.Goals as goal

pub returns-clause-spelled : goal.returns-clause-spelled
returns-clause-spelled c = λ e is. (text_faithful c.args.bytes.now e is).tokens

pub returns-clause-shallow : goal.returns-clause-shallow
returns-clause-shallow c = λ e is. (text_faithful c.args.bytes.now e is).shallow
