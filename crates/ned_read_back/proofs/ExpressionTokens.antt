-- The tokens that are read as an expression.
use Rattle.std.proofs.Common.{◌≡◌, pos, negsuc, true, false, List, [], ◌∷◌, ◌++◌, refl, sym, subst}
use Rattle.sim_values.specs.declared.value.Value.{Value}
use Rattle.sim_values.specs.declared.value.Value.TheVariants as values
use Rattle.ned_tokens.specs.declared.token.Mark.TheVariants as m
use Rattle.ned_tokens.specs.declared.token.Token.{Token}
use Rattle.ned_tokens.specs.declared.token.Token.TheVariants as token
use Rattle.ned_trees.specs.declared.expressions.Expression.{Expression, map-Expression}
use Rattle.ned_trees.specs.declared.expressions.Expression.TheOpen.{Expression-F}
use Rattle.ned_trees.specs.declared.expressions.Expression.TheFolds.{fold-roll-Expression, ind-Expression}
use Rattle.ned_expressions.specs.declared.levels.GrammarPlace.TheVariants as place
use Rattle.ned_expressions.specs.Grammar.{expression, angle_expression, max_depth}
use Rattle.ned_expressions.specs.Spelling.{literal_tokens, operator_mark, tokens_at, expression_tokens}
use Rattle.ned_expressions.proofs.SpellingLaws.{within_faithful}
use Rattle.ned_read_back.specs.Tokens.{NoneStray}

-- what is read is spelled by its own tokens
pub expression_spelled : (ts : List Token) (e : Expression) → expression.Is ts e → ts ≡ expression_tokens e
unfolding expression
expression_spelled ts e is = (within_faithful max_depth place.Anywhere 0 ts e is).tokens

pub angle_spelled : (ts : List Token) (e : Expression) → angle_expression.Is ts e → ts ≡ expression_tokens e
unfolding angle_expression
angle_spelled ts e is = (within_faithful max_depth place.Angles 0 ts e is).tokens

-- two lists in a row
none-append : (ts us : List Token) → NoneStray ts → NoneStray us → NoneStray (ts ++ us)
none-append [] us h k = k
none-append (t ∷ ts) us h k = (h.0, none-append ts us h.1 k)

-- a literal
none_literal : (v : Value) → NoneStray (literal_tokens v)
none_literal (values.Whole (pos n)) = (refl, tt)
none_literal (values.Whole (negsuc n)) = tt
none_literal (values.Truth true) = (refl, tt)
none_literal (values.Truth false) = (refl, tt)
none_literal (values.Text text) = (refl, tt)
none_literal (values.Quantity d (pos n)) = (refl, tt)
none_literal (values.Quantity d (negsuc n)) = tt

-- an expression none of whose tokens is stray
abbrev IsPlain : Expression → Type 0
IsPlain e = NoneStray (expression_tokens e)

-- a layer whose parts are so
layer : (y : Expression-F ((e : Expression) × IsPlain e)) → NoneStray (tokens_at (map-Expression Expression (List Token) expression_tokens (map-Expression ((e : Expression) × IsPlain e) Expression (λ e. e.0) y)))
layer (Expression-F.Literal v) = none_literal v
layer (Expression-F.Name x) = (refl, tt)
layer (Expression-F.Scoped s x) = (refl, (refl, (refl, tt)))
layer (Expression-F.Member x y) = (refl, (refl, (refl, tt)))
layer (Expression-F.Element x e y) = (refl, (refl, none-append (expression_tokens e.0) (token.Mark m.RightBracket ∷ token.Mark m.Dot ∷ token.Name y ∷ []) e.1 (refl, (refl, (refl, tt)))))
layer Expression-F.Index = (refl, tt)
layer Expression-F.IndexCall = (refl, (refl, (refl, tt)))
layer Expression-F.ParentIndex = (refl, (refl, (refl, tt)))
layer (Expression-F.Sizeof x) = (refl, (refl, (refl, (refl, tt))))
layer (Expression-F.Exists x) = (refl, (refl, (refl, (refl, tt))))
layer (Expression-F.ExistsAt x e) = (refl, (refl, (refl, (refl, none-append (expression_tokens e.0) (token.Mark m.RightBracket ∷ token.Mark m.RightParen ∷ []) e.1 (refl, (refl, tt))))))
layer (Expression-F.Chosen c a b) =
    (refl, (refl, none-append (expression_tokens a.0) (token.Mark m.Comma ∷ (expression_tokens b.0 ++ token.Mark m.RightParen ∷ [])) a.1 (refl, none-append (expression_tokens b.0) (token.Mark m.RightParen ∷ []) b.1 (refl, tt))))
layer (Expression-F.Group e) = (refl, none-append (expression_tokens e.0) (token.Mark m.RightParen ∷ []) e.1 (refl, tt))
layer (Expression-F.Signed s e) = (refl, e.1)
layer (Expression-F.Binary o a b) = none-append (expression_tokens a.0) (token.Mark (operator_mark o) ∷ expression_tokens b.0) a.1 (refl, b.1)
layer (Expression-F.Conditional c a b) =
    none-append (expression_tokens c.0) (token.Mark m.Question ∷ (expression_tokens a.0 ++ token.Mark m.Colon ∷ expression_tokens b.0)) c.1
    (refl, none-append (expression_tokens a.0) (token.Mark m.Colon ∷ expression_tokens b.0) a.1 (refl, b.1))

-- no token of a spelling is stray
pub none_stray : (e : Expression) → NoneStray (expression_tokens e)
none_stray = ind-Expression IsPlain (λ x y is.
    subst NoneStray (sym (fold-roll-Expression (List Token) tokens_at x))
    (subst (λ (z : Expression-F Expression). NoneStray (tokens_at (map-Expression Expression (List Token) expression_tokens z))) is (layer y)))
