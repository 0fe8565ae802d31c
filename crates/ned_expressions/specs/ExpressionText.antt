-- What a text that is an expression means, and why it is refused.
use Rattle.std.specs.Prelude.{◌≡◌, ℕ, suc, ◌≤◌, List, length}
use Rattle.sim_values.specs.Limits.{max_length}
use Rattle.ned_tokens.specs.Meaning.{Means, MayBlame}
use Rattle.ned_tokens.specs.Viable.{IsFirstBadLine}
use Rattle.ned_trees.specs.declared.expressions.Expression.{Expression}
use Rattle.ned_leaves.specs.declared.error.NedError.{NedError}
use Rattle.ned_leaves.specs.declared.error.NedError.TheVariants as errors
use Rattle.ned_expressions.specs.Grammar.{expression}

-- the meaning of a text that is an expression
abbrev pub IsExpressionText : List ℕ → Expression → Type 0
IsExpressionText bytes e = Means expression bytes e

-- Each refusal but lack of memory has its reason.
abbrev pub ExplainsExpression : List ℕ → NedError → Type 0
ExplainsExpression bytes (errors.NoMemory _) = Unit {0}
ExplainsExpression bytes errors.TooLarge = suc max_length ≤ length bytes
ExplainsExpression bytes (errors.NedSyntax line) = MayBlame expression bytes line

-- A line that is named is that of the first token that can't go on; where the tokens ran out, that
-- of the last byte.
abbrev pub NamesFirstOfExpression : List ℕ → NedError → Type 0
NamesFirstOfExpression bytes (errors.NoMemory _) = Unit {0}
NamesFirstOfExpression bytes errors.TooLarge = Unit {0}
NamesFirstOfExpression bytes (errors.NedSyntax line) = IsFirstBadLine expression bytes line

-- Two meanings of one text are equal.
abbrev pub IsOneExpression : List ℕ → Type 0
IsOneExpression bytes = (first second : Expression) → IsExpressionText bytes first
    → IsExpressionText bytes second → first ≡ second
