use Rattle.std.proofs.Common.{◌≡◌, List, sym, subst, ◌∙◌}
use Rattle.ned_tokens.specs.declared.token.Token.{Token}
use Rattle.ned_tokens.specs.Lines.{tokens_of}
use Rattle.ned_tokens.proofs.Whole as whole
use Rattle.ned_expressions.specs.Grammar.{expression}
use Rattle.ned_expressions.proofs.ExpressionLaws.{expression-lawful}
use Rattle.ned_expressions.proofs.SpellingLaws.{text_faithful}
use Rattle.ned_expressions.proofs.laws.one_spelling.Goals as goal

pub returns : goal.returns
returns c = λ e f one other same.
    let tokens : tokens_of c.args.second.now ≡ tokens_of c.args.first.now = (text_faithful c.args.second.now f other).tokens ∙ sym same ∙ sym (text_faithful c.args.first.now e one).tokens in
    whole.one_meaning expression expression-lawful (tokens_of c.args.first.now) e f one.spells (subst (λ (ts : List Token). expression.Is ts f) tokens other.spells)
