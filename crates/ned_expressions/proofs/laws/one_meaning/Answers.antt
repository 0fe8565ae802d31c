use Rattle.ned_tokens.specs.Lines.{tokens_of}
use Rattle.ned_tokens.proofs.Whole as whole
use Rattle.ned_expressions.specs.Grammar.{expression}
use Rattle.ned_expressions.proofs.ExpressionLaws.{expression-lawful}
use Rattle.ned_expressions.proofs.laws.one_meaning.Goals as goal

pub returns : goal.returns
returns c = λ first second one other. whole.one_meaning expression expression-lawful (tokens_of c.args.bytes.now) first second one.spells other.spells
