-- The standard spelling of an expression: the tokens that say it.
use Rattle.std.specs.Prelude.{◌≡◌, ℕ, ◌≤◌, pos, negsuc, true, false, List, [], ◌∷◌, ◌++◌, Ok}
use Rattle.sim_values.specs.declared.value.Value.{Value}
use Rattle.sim_values.specs.declared.value.Value.TheVariants as values
use Rattle.ned_tokens.specs.declared.token.Keyword.{Keyword}
use Rattle.ned_tokens.specs.declared.token.Keyword.TheVariants as k
use Rattle.ned_tokens.specs.declared.token.Mark.{Mark}
use Rattle.ned_tokens.specs.declared.token.Mark.TheVariants as m
use Rattle.ned_tokens.specs.declared.token.Token.{Token}
use Rattle.ned_tokens.specs.declared.token.Token.TheVariants as token
use Rattle.ned_tokens.specs.Lines.{tokens_of}
use Rattle.ned_tokens.specs.Rule.{all_read}
use Rattle.ned_trees.specs.declared.expressions.Operator.{Operator}
use Rattle.ned_trees.specs.declared.expressions.Operator.TheVariants as op
use Rattle.ned_trees.specs.declared.expressions.Sign.{Sign}
use Rattle.ned_trees.specs.declared.expressions.Sign.TheVariants as signs
use Rattle.ned_trees.specs.declared.expressions.Scope.{Scope}
use Rattle.ned_trees.specs.declared.expressions.Scope.TheVariants as scopes
use Rattle.ned_trees.specs.declared.expressions.Expression.{Expression, fold-Expression}
use Rattle.ned_trees.specs.declared.expressions.Expression.TheOpen.{Expression-F}
use Rattle.ned_expressions.specs.Grammar.{choice_text, depth, max_depth, expression}
use Rattle.ned_expressions.specs.ExpressionText.{IsExpressionText}

-- A quantity is a number of the smallest unit. No literal says an amount below zero: a sign stands
-- before it.
abbrev pub literal_tokens : Value → List Token
literal_tokens (values.Whole (pos n)) = token.Number n ∷ []
literal_tokens (values.Whole (negsuc n)) = []
literal_tokens (values.Truth true) = token.Word k.True ∷ []
literal_tokens (values.Truth false) = token.Word k.False ∷ []
literal_tokens (values.Text text) = token.Literal text ∷ []
literal_tokens (values.Quantity d (pos n)) = token.Quantity d n ∷ []
literal_tokens (values.Quantity d (negsuc n)) = []

abbrev pub scope_word : Scope → Keyword
scope_word scopes.This = k.This
scope_word scopes.Parent = k.Parent

abbrev pub sign_mark : Sign → Mark
sign_mark signs.Minus = m.Minus
sign_mark signs.Not = m.Bang
sign_mark signs.Complement = m.Tilde

abbrev pub operator_mark : Operator → Mark
operator_mark op.Or = m.Or
operator_mark op.Xor = m.Xor
operator_mark op.And = m.And
operator_mark op.Equal = m.Equal
operator_mark op.NotEqual = m.NotEqual
operator_mark op.Less = m.Less
operator_mark op.AtMost = m.AtMost
operator_mark op.Greater = m.Greater
operator_mark op.AtLeast = m.AtLeast
operator_mark op.BitOr = m.Bar
operator_mark op.BitXor = m.Hash
operator_mark op.BitAnd = m.Ampersand
operator_mark op.ShiftLeft = m.ShiftLeft
operator_mark op.ShiftRight = m.ShiftRight
operator_mark op.Add = m.Plus
operator_mark op.Subtract = m.Minus
operator_mark op.Multiply = m.Star
operator_mark op.Divide = m.Slash
operator_mark op.Remainder = m.Percent
operator_mark op.Power = m.Caret

-- the tokens of an expression, whose parts stand here as their tokens
abbrev pub tokens_at : Expression-F (List Token) → List Token
tokens_at (Expression-F.Literal v) = literal_tokens v
tokens_at (Expression-F.Name x) = token.Name x ∷ []
tokens_at (Expression-F.Scoped s x) =
    token.Word (scope_word s) ∷ token.Mark m.Dot ∷ token.Name x ∷ []
tokens_at (Expression-F.Member x y) = token.Name x ∷ token.Mark m.Dot ∷ token.Name y ∷ []
tokens_at (Expression-F.Element x e y) = token.Name x ∷ token.Mark m.LeftBracket
    ∷ (e ++ token.Mark m.RightBracket ∷ token.Mark m.Dot ∷ token.Name y ∷ [])
tokens_at Expression-F.Index = token.Word k.Index ∷ []
tokens_at Expression-F.IndexCall =
    token.Word k.Index ∷ token.Mark m.LeftParen ∷ token.Mark m.RightParen ∷ []
tokens_at Expression-F.ParentIndex =
    token.Word k.ParentIndex ∷ token.Mark m.LeftParen ∷ token.Mark m.RightParen ∷ []
tokens_at (Expression-F.Sizeof x) =
    token.Word k.Sizeof ∷ token.Mark m.LeftParen ∷ token.Name x ∷ token.Mark m.RightParen ∷ []
tokens_at (Expression-F.Exists x) =
    token.Word k.Exists ∷ token.Mark m.LeftParen ∷ token.Name x ∷ token.Mark m.RightParen ∷ []
tokens_at (Expression-F.ExistsAt x e) = token.Word k.Exists ∷ token.Mark m.LeftParen ∷ token.Name x
    ∷ token.Mark m.LeftBracket ∷ (e ++ token.Mark m.RightBracket ∷ token.Mark m.RightParen ∷ [])
tokens_at (Expression-F.Chosen c a b) = token.Name (choice_text c) ∷ token.Mark m.LeftParen
    ∷ (a ++ token.Mark m.Comma ∷ (b ++ token.Mark m.RightParen ∷ []))
tokens_at (Expression-F.Group e) = token.Mark m.LeftParen ∷ (e ++ token.Mark m.RightParen ∷ [])
tokens_at (Expression-F.Signed s e) = token.Mark (sign_mark s) ∷ e
tokens_at (Expression-F.Binary o a b) = a ++ token.Mark (operator_mark o) ∷ b
tokens_at (Expression-F.Conditional c a b) =
    c ++ token.Mark m.Question ∷ (a ++ token.Mark m.Colon ∷ b)

-- THE STANDARD SPELLING, as tokens
abbrev pub expression_tokens : Expression → List Token
expression_tokens e = fold-Expression (List Token) tokens_at e

-- What a text says is spelled by its own tokens: parentheses stand in the value, so that value and
-- tokens determine each other.
abbrev pub IsSpelledByItself : List ℕ → Type 0
IsSpelledByItself bytes = (e : Expression) → IsExpressionText bytes e
    → tokens_of bytes ≡ expression_tokens e

-- What a text says is at most 64 deep.
abbrev pub IsShallow : List ℕ → Type 0
IsShallow bytes = (e : Expression) → IsExpressionText bytes e → depth e ≤ max_depth

-- The standard spelling of what a text says is read as that.
abbrev pub IsReadBack : List ℕ → Type 0
IsReadBack bytes = (e : Expression) → IsExpressionText bytes e
    → all_read expression (expression_tokens e) ≡ Ok e

-- Of what texts say, what is spelled the same is the same.
abbrev pub SpellingDecides : List ℕ → List ℕ → Type 0
SpellingDecides first second = (e f : Expression) → IsExpressionText first e
    → IsExpressionText second f → expression_tokens e ≡ expression_tokens f → e ≡ f
