use Rattle.std.proofs.Common.{◌≡◌, List, Ok, subst}
use Rattle.ned_tokens.specs.declared.token.Token.{Token}
use Rattle.ned_tokens.specs.Lines.{tokens_of}
use Rattle.ned_tokens.specs.Rule.{all_read}
use Rattle.ned_tokens.proofs.Whole.{all_whole}
use Rattle.ned_expressions.specs.Grammar.{expression}
use Rattle.ned_expressions.proofs.ExpressionLaws.{expression-lawful}
use Rattle.ned_expressions.proofs.SpellingLaws.{text_faithful}
use Rattle.ned_expressions.proofs.laws.read_back.Goals as goal

pub returns : goal.returns
returns c = λ e is. subst (λ (ts : List Token). all_read expression ts ≡ Ok e) (text_faithful c.args.bytes.now e is).tokens (all_whole expression expression-lawful (tokens_of c.args.bytes.now) e is.spells)
