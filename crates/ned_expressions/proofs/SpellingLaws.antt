-- An expression's tokens are its spelling, and it is no deeper than it may be.
use Rattle.std.proofs.Common.{rules, ◌≡◌, ℕ, zero, suc, ◌≤◌, max, arith, Bool, true, false, cond, refl, sym, ap, subst, ◌∙◌, List, ◌++◌, ◌∷◌, [], Option, Some, None, inl, inr, append_assoc}
use Rattle.std.proofs.lemmas.List.{append-nil}
use Rattle.std.proofs.lemmas.Bool.{leb-true}
use Rattle.std.proofs.lemmas.Slice.Eq.{bytes_eq-Decides}
use Rattle.std.specs.Prelude.{codes, nat_lt, nat_le, pos}
use Rattle.std.specs.Str.{bytes_eq}
use denote.Enum.Bare.{same_true}
use Rattle.sim_values.specs.declared.value.Value.{Value}
use Rattle.sim_values.specs.declared.value.Value.TheVariants as values
use Rattle.ned_tokens.specs.contracts.token.Keyword as keywords
use Rattle.ned_tokens.specs.contracts.token.Mark as marks
use Rattle.ned_tokens.specs.declared.token.Keyword.{Keyword}
use Rattle.ned_tokens.specs.declared.token.Keyword.TheVariants as k
use Rattle.ned_tokens.specs.declared.token.Mark.{Mark}
use Rattle.ned_tokens.specs.declared.token.Mark.TheVariants as m
use Rattle.ned_tokens.specs.declared.token.Token.{Token}
use Rattle.ned_tokens.specs.declared.token.Token.TheVariants as token
use Rattle.ned_tokens.specs.Rule.{Rule, ◌⊗◌, ◌▷◌, ◌◁◌, optional, optional_is}
use Rattle.ned_tokens.specs.Growth.{next, grown_is}
use Rattle.ned_tokens.specs.Digits.{limit}
use Rattle.ned_leaves.specs.Grammar.{is_word, is_mark, same_word, same_mark, name_of, whole_value, quantity_value, literal_of, plain_literal, word, mark, name}
use Rattle.ned_trees.specs.declared.expressions.Expression.{Expression, the_lemmas}
use Rattle.ned_trees.specs.declared.expressions.Expression.TheVariants as expr
use Rattle.ned_trees.specs.declared.expressions.Operator.{Operator}
use Rattle.ned_trees.specs.declared.expressions.Operator.TheVariants as op
use Rattle.ned_trees.specs.declared.expressions.Sign.{Sign}
use Rattle.ned_trees.specs.declared.expressions.Sign.TheVariants as signs
use Rattle.ned_trees.specs.declared.expressions.Scope.{Scope}
use Rattle.ned_trees.specs.declared.expressions.Scope.TheVariants as scopes
use Rattle.ned_trees.specs.declared.expressions.Choice.{Choice}
use Rattle.ned_trees.specs.declared.expressions.Choice.TheVariants as choices
use Rattle.ned_expressions.specs.declared.levels.GrammarPlace.{GrammarPlace}
use Rattle.ned_expressions.specs.declared.levels.GrammarPlace.TheVariants as place
use Rattle.ned_expressions.specs.declared.chains.ChainStep.{ChainStep}
use Rattle.ned_expressions.specs.declared.atoms.Tail.{Tail}
use Rattle.ned_expressions.specs.declared.operands.ChoiceTail.{ChoiceTail}
use Rattle.ned_expressions.specs.Grammar.{operator_of, operator_in, standing, right_level, stands, operator, depth, literal, scope_of, scoped, brackets, member, element, tail, pair, choice_tail, choice_named, choice_of, choice_text, unless_choice, plain_name_of, with_tail, with_choice_tail, flat_named, named, chosen, no_arguments, index_or_call, flat_index, index, parent_index, size_of, exists_or_at, exists_rule, group, sign_of, signed, operand, atom, conditional_step, binary_step, step, put, follows, deep, element_index, expression_within, max_depth, expression}
use Rattle.ned_tokens.specs.Lines.{tokens_of}
use Rattle.ned_expressions.specs.ExpressionText.{IsExpressionText}
use Rattle.ned_expressions.specs.Spelling.{literal_tokens, scope_word, sign_mark, operator_mark, expression_tokens}
use Rattle.ned_expressions.proofs.LevelLaws.{at_rank, allowed_by, and_second}

pub record Faithful (d : ℕ) (ts : List Token) (e : Expression) : Type 0 where
  pub tokens : ts ≡ expression_tokens e
  pub shallow : depth e ≤ d

-- ---- single tokens

mark_at : (k : Mark) (t : Token) (u : Unit {0}) → is_mark k t ≡ Some u → t ≡ token.Mark k
mark_at k (token.Mark w) u e = go (same_mark w k) refl e
  where
    go : (b : Bool) → same_mark w k ≡ b → cond b (Some tt) None ≡ Some u → token.Mark w ≡ token.Mark k
    go true h e = ap (λ (v : Mark). token.Mark v) (same_true marks.the_type (search rules) w k h)
    go false h e = absurd cc
mark_at k _ u e = absurd cc

mark_said : (k : Mark) (ts : List Token) (u : Unit {0}) → (mark k).Is ts u → ts ≡ token.Mark k ∷ []
unfolding mark
mark_said k ts u is = is.1 ∙ ap (λ (t : Token). t ∷ []) (mark_at k is.0 u is.2)

word_at : (k : Keyword) (t : Token) (u : Unit {0}) → is_word k t ≡ Some u → t ≡ token.Word k
word_at k (token.Word w) u e = go (same_word w k) refl e
  where
    go : (b : Bool) → same_word w k ≡ b → cond b (Some tt) None ≡ Some u → token.Word w ≡ token.Word k
    go true h e = ap (λ (v : Keyword). token.Word v) (same_true keywords.the_type (search rules) w k h)
    go false h e = absurd cc
word_at k _ u e = absurd cc

word_said : (k : Keyword) (ts : List Token) (u : Unit {0}) → (word k).Is ts u → ts ≡ token.Word k ∷ []
unfolding word
word_said k ts u is = is.1 ∙ ap (λ (t : Token). t ∷ []) (word_at k is.0 u is.2)

name_said : (ts : List Token) (x : List ℕ) → name.Is ts x → ts ≡ token.Name x ∷ []
unfolding name
name_said ts x is = is.1 ∙ go is.0 is.2
  where
    go : (t : Token) → name_of t ≡ Some x → t ∷ [] ≡ token.Name x ∷ []
    go (token.Name y) e = let same : y ≡ x = cc in ap (λ (z : List ℕ). token.Name z ∷ []) same
    go _ e = absurd cc

operator_said : (t : Token) (o : Operator) → operator_of t ≡ Some o → t ≡ token.Mark (operator_mark o)
operator_said (token.Mark m.Or) o e = let same : op.Or ≡ o = cc in ap (λ (x : Operator). token.Mark (operator_mark x)) same
operator_said (token.Mark m.Xor) o e = let same : op.Xor ≡ o = cc in ap (λ (x : Operator). token.Mark (operator_mark x)) same
operator_said (token.Mark m.And) o e = let same : op.And ≡ o = cc in ap (λ (x : Operator). token.Mark (operator_mark x)) same
operator_said (token.Mark m.Equal) o e = let same : op.Equal ≡ o = cc in ap (λ (x : Operator). token.Mark (operator_mark x)) same
operator_said (token.Mark m.NotEqual) o e = let same : op.NotEqual ≡ o = cc in ap (λ (x : Operator). token.Mark (operator_mark x)) same
operator_said (token.Mark m.Less) o e = let same : op.Less ≡ o = cc in ap (λ (x : Operator). token.Mark (operator_mark x)) same
operator_said (token.Mark m.AtMost) o e = let same : op.AtMost ≡ o = cc in ap (λ (x : Operator). token.Mark (operator_mark x)) same
operator_said (token.Mark m.Greater) o e = let same : op.Greater ≡ o = cc in ap (λ (x : Operator). token.Mark (operator_mark x)) same
operator_said (token.Mark m.AtLeast) o e = let same : op.AtLeast ≡ o = cc in ap (λ (x : Operator). token.Mark (operator_mark x)) same
operator_said (token.Mark m.Bar) o e = let same : op.BitOr ≡ o = cc in ap (λ (x : Operator). token.Mark (operator_mark x)) same
operator_said (token.Mark m.Hash) o e = let same : op.BitXor ≡ o = cc in ap (λ (x : Operator). token.Mark (operator_mark x)) same
operator_said (token.Mark m.Ampersand) o e = let same : op.BitAnd ≡ o = cc in ap (λ (x : Operator). token.Mark (operator_mark x)) same
operator_said (token.Mark m.ShiftLeft) o e = let same : op.ShiftLeft ≡ o = cc in ap (λ (x : Operator). token.Mark (operator_mark x)) same
operator_said (token.Mark m.ShiftRight) o e = let same : op.ShiftRight ≡ o = cc in ap (λ (x : Operator). token.Mark (operator_mark x)) same
operator_said (token.Mark m.Plus) o e = let same : op.Add ≡ o = cc in ap (λ (x : Operator). token.Mark (operator_mark x)) same
operator_said (token.Mark m.Minus) o e = let same : op.Subtract ≡ o = cc in ap (λ (x : Operator). token.Mark (operator_mark x)) same
operator_said (token.Mark m.Star) o e = let same : op.Multiply ≡ o = cc in ap (λ (x : Operator). token.Mark (operator_mark x)) same
operator_said (token.Mark m.Slash) o e = let same : op.Divide ≡ o = cc in ap (λ (x : Operator). token.Mark (operator_mark x)) same
operator_said (token.Mark m.Percent) o e = let same : op.Remainder ≡ o = cc in ap (λ (x : Operator). token.Mark (operator_mark x)) same
operator_said (token.Mark m.Caret) o e = let same : op.Power ≡ o = cc in ap (λ (x : Operator). token.Mark (operator_mark x)) same
operator_said (token.Mark _) o e = absurd cc
operator_said _ o e = absurd cc

standing_said : (p : GrammarPlace) (q : Option Operator) (o : Operator) → standing p q ≡ Some o → q ≡ Some o
standing_said p None o e = absurd cc
standing_said p (Some x) o e = go (stands p x) e
  where
    go : (b : Bool) → cond b (Some x) None ≡ Some o → Some x ≡ Some o
    go true e = e
    go false e = absurd cc

sign_said : (t : Token) (s : Sign) → sign_of t ≡ Some s → t ≡ token.Mark (sign_mark s)
sign_said (token.Mark m.Minus) s e = let same : signs.Minus ≡ s = cc in ap (λ (x : Sign). token.Mark (sign_mark x)) same
sign_said (token.Mark m.Bang) s e = let same : signs.Not ≡ s = cc in ap (λ (x : Sign). token.Mark (sign_mark x)) same
sign_said (token.Mark m.Tilde) s e = let same : signs.Complement ≡ s = cc in ap (λ (x : Sign). token.Mark (sign_mark x)) same
sign_said (token.Mark _) s e = absurd cc
sign_said _ s e = absurd cc

scope_said : (t : Token) (s : Scope) → scope_of t ≡ Some s → t ≡ token.Word (scope_word s)
scope_said (token.Word k.This) s e = let same : scopes.This ≡ s = cc in ap (λ (x : Scope). token.Word (scope_word x)) same
scope_said (token.Word k.Parent) s e = let same : scopes.Parent ≡ s = cc in ap (λ (x : Scope). token.Word (scope_word x)) same
scope_said (token.Word _) s e = absurd cc
scope_said _ s e = absurd cc

choice_said : (text : List ℕ) (c : Choice) → choice_named text ≡ Some c → text ≡ choice_text c
choice_said text c e = go (bytes_eq text (codes "min")) refl (bytes_eq text (codes "max")) refl e
  where
    go : (a : Bool) → bytes_eq text (codes "min") ≡ a → (b : Bool) → bytes_eq text (codes "max") ≡ b → cond a (Some choices.Min) (cond b (Some choices.Max) None) ≡ Some c → text ≡ choice_text c
    go true ea b eb e = let same : choices.Min ≡ c = cc in (bytes_eq-Decides text (codes "min")).0 ea ∙ ap choice_text same
    go false ea true eb e = let same : choices.Max ≡ c = cc in (bytes_eq-Decides text (codes "max")).0 eb ∙ ap choice_text same
    go false ea false eb e = absurd cc

-- ---- the spelling and the depth of each form

tokens_literal : (v : Value) → expression_tokens (expr.Literal v) ≡ literal_tokens v
tokens_literal v = search the_lemmas

depth_literal : (v : Value) → depth (expr.Literal v) ≡ 0
depth_literal v = search the_lemmas

tokens_group : (e : Expression) → expression_tokens (expr.Group e) ≡ token.Mark m.LeftParen ∷ (expression_tokens e ++ token.Mark m.RightParen ∷ [])
tokens_group e = search the_lemmas

depth_group : (e : Expression) → depth (expr.Group e) ≡ suc (depth e)
depth_group e = search the_lemmas

tokens_element : (x : List ℕ) (e : Expression) (y : List ℕ) → expression_tokens (expr.Element x e y) ≡ token.Name x ∷ token.Mark m.LeftBracket ∷ (expression_tokens e ++ token.Mark m.RightBracket ∷ token.Mark m.Dot ∷ token.Name y ∷ [])
tokens_element x e y = search the_lemmas

depth_element : (x : List ℕ) (e : Expression) (y : List ℕ) → depth (expr.Element x e y) ≡ suc (depth e)
depth_element x e y = search the_lemmas

tokens_at_index : (x : List ℕ) (e : Expression) → expression_tokens (expr.ExistsAt x e) ≡ token.Word k.Exists ∷ token.Mark m.LeftParen ∷ token.Name x ∷ token.Mark m.LeftBracket ∷ (expression_tokens e ++ token.Mark m.RightBracket ∷ token.Mark m.RightParen ∷ [])
tokens_at_index x e = search the_lemmas

depth_at_index : (x : List ℕ) (e : Expression) → depth (expr.ExistsAt x e) ≡ suc (suc (depth e))
depth_at_index x e = search the_lemmas

tokens_chosen : (c : Choice) (a b : Expression) → expression_tokens (expr.Chosen c a b) ≡ token.Name (choice_text c) ∷ token.Mark m.LeftParen ∷ (expression_tokens a ++ token.Mark m.Comma ∷ (expression_tokens b ++ token.Mark m.RightParen ∷ []))
tokens_chosen c a b = search the_lemmas

depth_chosen : (c : Choice) (a b : Expression) → depth (expr.Chosen c a b) ≡ suc (max (depth a) (depth b))
depth_chosen c a b = search the_lemmas

tokens_signed : (s : Sign) (e : Expression) → expression_tokens (expr.Signed s e) ≡ token.Mark (sign_mark s) ∷ expression_tokens e
tokens_signed s e = search the_lemmas

depth_signed : (s : Sign) (e : Expression) → depth (expr.Signed s e) ≡ suc (depth e)
depth_signed s e = search the_lemmas

tokens_binary : (o : Operator) (a b : Expression) → expression_tokens (expr.Binary o a b) ≡ expression_tokens a ++ token.Mark (operator_mark o) ∷ expression_tokens b
tokens_binary o a b = search the_lemmas

depth_binary : (o : Operator) (a b : Expression) → depth (expr.Binary o a b) ≡ suc (max (depth a) (depth b))
depth_binary o a b = search the_lemmas

tokens_conditional : (c a b : Expression) → expression_tokens (expr.Conditional c a b) ≡ expression_tokens c ++ token.Mark m.Question ∷ (expression_tokens a ++ token.Mark m.Colon ∷ expression_tokens b)
tokens_conditional c a b = search the_lemmas

depth_conditional : (c a b : Expression) → depth (expr.Conditional c a b) ≡ suc (max (depth c) (max (depth a) (depth b)))
depth_conditional c a b = search the_lemmas

flat_tokens_name : (x : List ℕ) → Faithful 0 (token.Name x ∷ []) (expr.Name x)
flat_tokens_name x = record { tokens = search the_lemmas; shallow = let e : depth (expr.Name x) ≡ 0 = search the_lemmas in omega (arith, e) }

deeper : (d : ℕ) (ts : List Token) (e : Expression) → Faithful 0 ts e → Faithful d ts e
deeper d ts e f = record { tokens = f.tokens; shallow = omega (arith, f.shallow) }

-- ---- rules with marks around them

after_mark : {Y : Type 0} (k : Mark) (r : Rule Y) (ts : List Token) (y : Y) → (mark k ▷ r).Is ts y → (back : List Token) × (ts ≡ token.Mark k ∷ back) × r.Is back y
after_mark k r ts y is = (is.1.1, is.1.2 ∙ ap (λ (l : List Token). l ++ is.1.1) (mark_said k is.1.0 is.0.0 is.1.3), subst (λ (z : _). r.Is is.1.1 z) (sym is.2) is.1.4)

after_word : {Y : Type 0} (k : Keyword) (r : Rule Y) (ts : List Token) (y : Y) → (word k ▷ r).Is ts y → (back : List Token) × (ts ≡ token.Word k ∷ back) × r.Is back y
after_word k r ts y is = (is.1.1, is.1.2 ∙ ap (λ (l : List Token). l ++ is.1.1) (word_said k is.1.0 is.0.0 is.1.3), subst (λ (z : _). r.Is is.1.1 z) (sym is.2) is.1.4)

before_mark : {Y : Type 0} (k : Mark) (r : Rule Y) (ts : List Token) (y : Y) → (r ◁ mark k).Is ts y → (front : List Token) × (ts ≡ front ++ token.Mark k ∷ []) × r.Is front y
before_mark k r ts y is = (is.1.0, is.1.2 ∙ ap (λ (l : List Token). is.1.0 ++ l) (mark_said k is.1.1 is.0.1 is.1.4), subst (λ (z : _). r.Is is.1.0 z) (sym is.2) is.1.3)

dot_name : (ts : List Token) (x : List ℕ) → (mark m.Dot ▷ name).Is ts x → ts ≡ token.Mark m.Dot ∷ token.Name x ∷ []
dot_name ts x is = let a = after_mark m.Dot name ts x is in a.1 ∙ ap (λ (l : List Token). token.Mark m.Dot ∷ l) (name_said a.0 x a.2)

no_arguments_said : (ts : List Token) (u : Unit {0}) → no_arguments.Is ts u → ts ≡ token.Mark m.LeftParen ∷ token.Mark m.RightParen ∷ []
unfolding no_arguments
no_arguments_said ts u is = let a = after_mark m.LeftParen (mark m.RightParen) ts u is in a.1 ∙ ap (λ (l : List Token). token.Mark m.LeftParen ∷ l) (mark_said m.RightParen a.0 u a.2)

brackets_said : (r : Rule Expression) (ts : List Token) (e : Expression) → (brackets r).Is ts e → (g : List Token) × (ts ≡ token.Mark m.LeftBracket ∷ (g ++ token.Mark m.RightBracket ∷ [])) × r.Is g e
unfolding brackets
brackets_said r ts e is =
    let a = after_mark m.LeftBracket (r ◁ mark m.RightBracket) ts e is in
    let b = before_mark m.RightBracket r a.0 e a.2 in
    (b.0, a.1 ∙ ap (λ (l : List Token). token.Mark m.LeftBracket ∷ l) b.1, b.2)

-- ---- operands without depth

literal_at : (t : Token) (v : Value) → literal_of t ≡ Some v → t ∷ [] ≡ literal_tokens v
literal_at (token.Number n) v e = go (nat_lt n limit) e
  where
    go : (b : Bool) → whole_value (cond b (Some n) None) ≡ Some v → token.Number n ∷ [] ≡ literal_tokens v
    go true e = let same : values.Whole (pos n) ≡ v = cc in ap literal_tokens same
    go false e = absurd cc
literal_at (token.Word k.True) v e = let same : values.Truth true ≡ v = cc in ap literal_tokens same
literal_at (token.Word k.False) v e = let same : values.Truth false ≡ v = cc in ap literal_tokens same
literal_at (token.Word _) v e = absurd cc
literal_at (token.Literal text) v e = let same : values.Text text ≡ v = cc in ap literal_tokens same
literal_at (token.Quantity x n) v e = go (nat_lt n limit) e
  where
    go : (b : Bool) → quantity_value x (cond b (Some n) None) ≡ Some v → token.Quantity x n ∷ [] ≡ literal_tokens v
    go true e = let same : values.Quantity x (pos n) ≡ v = cc in ap literal_tokens same
    go false e = absurd cc
literal_at _ v e = absurd cc

literal_faithful : (ts : List Token) (e : Expression) → literal.Is ts e → Faithful 0 ts e
unfolding literal plain_literal
literal_faithful ts e is = subst (λ (z : Expression). Faithful 0 ts z) (sym is.2) (record { tokens = is.1.1 ∙ literal_at is.1.0 is.0 is.1.2 ∙ sym (tokens_literal is.0); shallow = omega (arith, depth_literal is.0) })

scoped_faithful : (ts : List Token) (e : Expression) → scoped.Is ts e → Faithful 0 ts e
unfolding scoped
scoped_faithful ts e is =
    let s = is.0.0 in
    let x = is.0.1 in
    let pair = is.1 in
    let same : expression_tokens (expr.Scoped s x) ≡ token.Word (scope_word s) ∷ token.Mark m.Dot ∷ token.Name x ∷ [] = search the_lemmas in
    let flat : depth (expr.Scoped s x) ≡ 0 = search the_lemmas in
    let first : pair.0 ≡ token.Word (scope_word s) ∷ [] = pair.3.1 ∙ ap (λ (t : Token). t ∷ []) (scope_said pair.3.0 s pair.3.2) in
    subst (λ (z : Expression). Faithful 0 ts z) (sym is.2) (record { tokens = pair.2 ∙ ap (λ (l : List Token). l ++ pair.1) first ∙ ap (λ (l : List Token). token.Word (scope_word s) ∷ l) (dot_name pair.1 x pair.4) ∙ sym same; shallow = omega (arith, flat) })

-- a name with `.x` or nothing after it
member_faithful : (x : List ℕ) (ts : List Token) (t : Tail) → member.Is ts t → Faithful 0 (token.Name x ∷ ts) (with_tail x (Some t))
unfolding member
member_faithful x ts t is =
    let y = is.0 in
    let same : expression_tokens (expr.Member x y) ≡ token.Name x ∷ token.Mark m.Dot ∷ token.Name y ∷ [] = search the_lemmas in
    let flat : depth (expr.Member x y) ≡ 0 = search the_lemmas in
    subst (λ (z : Tail). Faithful 0 (token.Name x ∷ ts) (with_tail x (Some z))) (sym is.2) (record { tokens = ap (λ (l : List Token). token.Name x ∷ l) (dot_name ts y is.1) ∙ sym same; shallow = omega (arith, flat) })

name_faithful : (x : List ℕ) (ts : List Token) → ts ≡ [] → Faithful 0 (token.Name x ∷ ts) (expr.Name x)
name_faithful x ts e = subst (λ (l : List Token). Faithful 0 (token.Name x ∷ l) (expr.Name x)) (sym e) (flat_tokens_name x)

flat_named_faithful : (ts : List Token) (e : Expression) → flat_named.Is ts e → Faithful 0 ts e
unfolding flat_named
flat_named_faithful ts e is =
    let pair = is.1 in
    let first : ts ≡ token.Name is.0.0 ∷ pair.1 = pair.2 ∙ ap (λ (l : List Token). l ++ pair.1) (name_said pair.0 is.0.0 pair.3) in
    subst (λ (z : Expression). Faithful 0 ts z) (sym is.2) (subst (λ (l : List Token). Faithful 0 l (with_tail is.0.0 is.0.1)) (sym first) (go is.0.1 pair.4))
  where
    go : (o : Option Tail) → optional_is member.Is is.1.1 o → Faithful 0 (token.Name is.0.0 ∷ is.1.1) (with_tail is.0.0 o)
    go None none = name_faithful is.0.0 is.1.1 none
    go (Some t) some = member_faithful is.0.0 is.1.1 t some

flat_index_faithful : (ts : List Token) (e : Expression) → flat_index.Is ts e → Faithful 0 ts e
unfolding flat_index
flat_index_faithful ts e is =
    let spelled : expression_tokens expr.Index ≡ token.Word k.Index ∷ [] = search the_lemmas in
    let flat : depth expr.Index ≡ 0 = search the_lemmas in
    subst (λ (z : Expression). Faithful 0 ts z) (sym is.2) (record { tokens = word_said k.Index ts is.0 is.1 ∙ sym spelled; shallow = omega (arith, flat) })

atom_faithful : (ts : List Token) (e : Expression) → atom.Is ts e → Faithful 0 ts e
unfolding atom
atom_faithful ts e (inl is) = flat_index_faithful ts e is
atom_faithful ts e (inr (inl is)) = flat_named_faithful ts e is
atom_faithful ts e (inr (inr (inl is))) = scoped_faithful ts e is
atom_faithful ts e (inr (inr (inr is))) = literal_faithful ts e is

-- ---- calls

index_faithful : (d : ℕ) (ts : List Token) (e : Expression) → index.Is ts e → Faithful (suc d) ts e
unfolding index
index_faithful d ts e is =
    let a = after_word k.Index (optional no_arguments) ts is.0 is.1 in
    subst (λ (z : Expression). Faithful (suc d) ts z) (sym is.2) (subst (λ (l : List Token). Faithful (suc d) l (index_or_call is.0)) (sym a.1) (go is.0 a.0 a.2))
  where
    go : (o : Option (Unit {0})) (back : List Token) → optional_is no_arguments.Is back o → Faithful (suc d) (token.Word k.Index ∷ back) (index_or_call o)
    go None back none =
        let spelled : expression_tokens expr.Index ≡ token.Word k.Index ∷ [] = search the_lemmas in
        let flat : depth expr.Index ≡ 0 = search the_lemmas in
        record { tokens = ap (λ (l : List Token). token.Word k.Index ∷ l) none ∙ sym spelled; shallow = omega (arith, flat) }
    go (Some u) back some =
        let spelled : expression_tokens expr.IndexCall ≡ token.Word k.Index ∷ token.Mark m.LeftParen ∷ token.Mark m.RightParen ∷ [] = search the_lemmas in
        let flat : depth expr.IndexCall ≡ 1 = search the_lemmas in
        record { tokens = ap (λ (l : List Token). token.Word k.Index ∷ l) (no_arguments_said back u some) ∙ sym spelled; shallow = omega (arith, flat) }

parent_faithful : (d : ℕ) (ts : List Token) (e : Expression) → parent_index.Is ts e → Faithful (suc d) ts e
unfolding parent_index
parent_faithful d ts e is =
    let a = after_word k.ParentIndex no_arguments ts is.0 is.1 in
    let spelled : expression_tokens expr.ParentIndex ≡ token.Word k.ParentIndex ∷ token.Mark m.LeftParen ∷ token.Mark m.RightParen ∷ [] = search the_lemmas in
    let flat : depth expr.ParentIndex ≡ 1 = search the_lemmas in
    subst (λ (z : Expression). Faithful (suc d) ts z) (sym is.2) (record { tokens = a.1 ∙ ap (λ (l : List Token). token.Word k.ParentIndex ∷ l) (no_arguments_said a.0 is.0 a.2) ∙ sym spelled; shallow = omega (arith, flat) })

size_faithful : (d : ℕ) (ts : List Token) (e : Expression) → size_of.Is ts e → Faithful (suc d) ts e
unfolding size_of
size_faithful d ts e is =
    let x = is.0 in
    let a = after_word k.Sizeof (mark m.LeftParen ▷ (name ◁ mark m.RightParen)) ts x is.1 in
    let b = after_mark m.LeftParen (name ◁ mark m.RightParen) a.0 x a.2 in
    let c = before_mark m.RightParen name b.0 x b.2 in
    let spelled : expression_tokens (expr.Sizeof x) ≡ token.Word k.Sizeof ∷ token.Mark m.LeftParen ∷ token.Name x ∷ token.Mark m.RightParen ∷ [] = search the_lemmas in
    let flat : depth (expr.Sizeof x) ≡ 1 = search the_lemmas in
    subst (λ (z : Expression). Faithful (suc d) ts z) (sym is.2)
    (record {
      tokens = a.1 ∙ ap (λ (l : List Token). token.Word k.Sizeof ∷ l) (b.1 ∙ ap (λ (l : List Token). token.Mark m.LeftParen ∷ l) (c.1 ∙ ap (λ (l : List Token). l ++ token.Mark m.RightParen ∷ []) (name_said c.0 x c.2))) ∙ sym spelled;
      shallow = omega (arith, flat);
    })

-- an index in brackets
record IndexSaid (d : ℕ) (ts : List Token) (e : Expression) : Type 0 where
  tokens : ts ≡ token.Mark m.LeftBracket ∷ (expression_tokens e ++ token.Mark m.RightBracket ∷ [])
  shallow : suc (depth e) ≤ d

exists_faithful : (d : ℕ) (at : Rule Expression) → ((ts : List Token) (e : Expression) → at.Is ts e → IndexSaid d ts e) → (ts : List Token) (e : Expression) → (exists_rule at).Is ts e → Faithful (suc d) ts e
unfolding exists_rule
exists_faithful d at ih ts e is =
    let x = is.0.0 in
    let a = after_word k.Exists (mark m.LeftParen ▷ ((name ⊗ optional at) ◁ mark m.RightParen)) ts is.0 is.1 in
    let b = after_mark m.LeftParen ((name ⊗ optional at) ◁ mark m.RightParen) a.0 is.0 a.2 in
    let c = before_mark m.RightParen (name ⊗ optional at) b.0 is.0 b.2 in
    let pair = c.2 in
    let named : c.0 ≡ token.Name x ∷ pair.1 = pair.2 ∙ ap (λ (l : List Token). l ++ pair.1) (name_said pair.0 x pair.3) in
    let whole : ts ≡ token.Word k.Exists ∷ token.Mark m.LeftParen ∷ token.Name x ∷ (pair.1 ++ token.Mark m.RightParen ∷ []) = a.1 ∙ ap (λ (l : List Token). token.Word k.Exists ∷ l) (b.1 ∙ ap (λ (l : List Token). token.Mark m.LeftParen ∷ l) (c.1 ∙ ap (λ (l : List Token). l ++ token.Mark m.RightParen ∷ []) named)) in
    subst (λ (z : Expression). Faithful (suc d) ts z) (sym is.2) (subst (λ (l : List Token). Faithful (suc d) l (exists_or_at x is.0.1)) (sym whole) (go x is.0.1 pair.1 pair.4))
  where
    go : (x : List ℕ) (o : Option Expression) (back : List Token) → optional_is at.Is back o → Faithful (suc d) (token.Word k.Exists ∷ token.Mark m.LeftParen ∷ token.Name x ∷ (back ++ token.Mark m.RightParen ∷ [])) (exists_or_at x o)
    go x None back none =
        let spelled : expression_tokens (expr.Exists x) ≡ token.Word k.Exists ∷ token.Mark m.LeftParen ∷ token.Name x ∷ token.Mark m.RightParen ∷ [] = search the_lemmas in
        let flat : depth (expr.Exists x) ≡ 1 = search the_lemmas in
        record { tokens = ap (λ (l : List Token). token.Word k.Exists ∷ token.Mark m.LeftParen ∷ token.Name x ∷ (l ++ token.Mark m.RightParen ∷ [])) none ∙ sym spelled; shallow = omega (arith, flat) }
    go x (Some i) back some =
        let f = ih back i some in
        record {
          tokens =
              ap (λ (l : List Token). token.Word k.Exists ∷ token.Mark m.LeftParen ∷ token.Name x ∷ (l ++ token.Mark m.RightParen ∷ [])) f.tokens
              ∙ ap (λ (l : List Token). token.Word k.Exists ∷ token.Mark m.LeftParen ∷ token.Name x ∷ token.Mark m.LeftBracket ∷ l) (append_assoc (expression_tokens i) (token.Mark m.RightBracket ∷ []) (token.Mark m.RightParen ∷ []))
              ∙ sym (tokens_at_index x i);
          shallow = omega (arith, depth_at_index x i, f.shallow);
        }

plain_said : (t : Token) (x : List ℕ) → plain_name_of t ≡ Some x → t ≡ token.Name x
plain_said (token.Name y) x e = go (choice_named y) e
  where
    go : (o : Option Choice) → unless_choice o y ≡ Some x → token.Name y ≡ token.Name x
    go None e = let same : y ≡ x = cc in ap (λ (z : List ℕ). token.Name z) same
    go (Some c) e = absurd cc
plain_said _ x e = absurd cc

choice_at : (t : Token) (c : Choice) → choice_of t ≡ Some c → t ≡ token.Name (choice_text c)
choice_at (token.Name y) c e = ap (λ (z : List ℕ). token.Name z) (choice_said y c e)
choice_at _ c e = absurd cc

-- ---- with parts

module _ (d : ℕ) (ih : (p : GrammarPlace) (l : ℕ) (ts : List Token) (e : Expression) → (expression_within d p l).Is ts e → Faithful d ts e) where
  element_faithful : (p : GrammarPlace) (x : List ℕ) (ts : List Token) (t : Tail) → (element (expression_within d p 0)).Is ts t → Faithful (suc d) (token.Name x ∷ ts) (with_tail x (Some t))
  unfolding element
  element_faithful p x ts t is =
      let e = is.0.0 in
      let y = is.0.1 in
      let pair = is.1 in
      let b = brackets_said (expression_within d p 0) pair.0 e pair.3 in
      let f = ih p 0 b.0 e b.2 in
      subst (λ (z : Tail). Faithful (suc d) (token.Name x ∷ ts) (with_tail x (Some z))) (sym is.2)
      (record {
        tokens =
            ap (λ (l : List Token). token.Name x ∷ l)
            (pair.2
            ∙ ap (λ (l : List Token). l ++ pair.1) b.1
            ∙ ap (λ (l : List Token). token.Mark m.LeftBracket ∷ ((b.0 ++ token.Mark m.RightBracket ∷ []) ++ l)) (dot_name pair.1 y pair.4)
            ∙ ap (λ (l : List Token). token.Mark m.LeftBracket ∷ l) (append_assoc b.0 (token.Mark m.RightBracket ∷ []) (token.Mark m.Dot ∷ token.Name y ∷ []))
            ∙ ap (λ (l : List Token). token.Mark m.LeftBracket ∷ (l ++ token.Mark m.RightBracket ∷ token.Mark m.Dot ∷ token.Name y ∷ [])) f.tokens)
            ∙ sym (tokens_element x e y);
        shallow = omega (arith, depth_element x e y, f.shallow);
      })

  tail_faithful : (p : GrammarPlace) (x : List ℕ) (ts : List Token) (t : Tail) → (tail (expression_within d p 0)).Is ts t → Faithful (suc d) (token.Name x ∷ ts) (with_tail x (Some t))
  unfolding tail
  tail_faithful p x ts t (inl is) = deeper (suc d) (token.Name x ∷ ts) (with_tail x (Some t)) (member_faithful x ts t is)
  tail_faithful p x ts t (inr is) = element_faithful p x ts t is

  named_faithful : (p : GrammarPlace) (ts : List Token) (e : Expression) → (named (expression_within d) p).Is ts e → Faithful (suc d) ts e
  unfolding named
  named_faithful p ts e is =
      let x = is.0.0 in
      let pair = is.1 in
      let whole : ts ≡ token.Name x ∷ pair.1 = pair.2 ∙ ap (λ (l : List Token). l ++ pair.1) (pair.3.1 ∙ ap (λ (t : Token). t ∷ []) (plain_said pair.3.0 x pair.3.2)) in
      subst (λ (z : Expression). Faithful (suc d) ts z) (sym is.2) (subst (λ (l : List Token). Faithful (suc d) l (with_tail x is.0.1)) (sym whole) (go x is.0.1 pair.1 pair.4))
    where
      go : (x : List ℕ) (o : Option Tail) (back : List Token) → optional_is (tail (expression_within d p 0)).Is back o → Faithful (suc d) (token.Name x ∷ back) (with_tail x o)
      go x None back none = deeper (suc d) (token.Name x ∷ back) (expr.Name x) (name_faithful x back none)
      go x (Some t) back some = tail_faithful p x back t some

  pair_faithful : (c : Choice) (ts : List Token) (t : ChoiceTail) → (pair (expression_within d place.Anywhere 0)).Is ts t → Faithful (suc d) (token.Name (choice_text c) ∷ ts) (with_choice_tail c (Some t))
  unfolding pair
  pair_faithful c ts t is =
      let r = expression_within d place.Anywhere 0 in
      let one = is.0.0 in
      let other = is.0.1 in
      let a = after_mark m.LeftParen (r ⊗ (mark m.Comma ▷ (r ◁ mark m.RightParen))) ts is.0 is.1 in
      let both = a.2 in
      let b = after_mark m.Comma (r ◁ mark m.RightParen) both.1 other both.4 in
      let c2 = before_mark m.RightParen r b.0 other b.2 in
      let f = ih place.Anywhere 0 both.0 one both.3 in
      let g = ih place.Anywhere 0 c2.0 other c2.2 in
      subst (λ (z : ChoiceTail). Faithful (suc d) (token.Name (choice_text c) ∷ ts) (with_choice_tail c (Some z))) (sym is.2)
      (record {
        tokens =
            ap (λ (l : List Token). token.Name (choice_text c) ∷ l)
            (a.1
            ∙ ap (λ (l : List Token). token.Mark m.LeftParen ∷ l)
            (both.2
            ∙ ap (λ (l : List Token). l ++ both.1) f.tokens
            ∙ ap (λ (l : List Token). expression_tokens one ++ l) (b.1 ∙ ap (λ (l : List Token). token.Mark m.Comma ∷ l) (c2.1 ∙ ap (λ (l : List Token). l ++ token.Mark m.RightParen ∷ []) g.tokens))))
            ∙ sym (tokens_chosen c one other);
        shallow = omega (arith, depth_chosen c one other, f.shallow, g.shallow);
      })

  chosen_faithful : (p : GrammarPlace) (ts : List Token) (e : Expression) → (chosen (expression_within d) p).Is ts e → Faithful (suc d) ts e
  unfolding chosen choice_tail
  chosen_faithful p ts e is =
      let c = is.0.0 in
      let pair = is.1 in
      let whole : ts ≡ token.Name (choice_text c) ∷ pair.1 = pair.2 ∙ ap (λ (l : List Token). l ++ pair.1) (pair.3.1 ∙ ap (λ (t : Token). t ∷ []) (choice_at pair.3.0 c pair.3.2)) in
      subst (λ (z : Expression). Faithful (suc d) ts z) (sym is.2) (subst (λ (l : List Token). Faithful (suc d) l (with_choice_tail c is.0.1)) (sym whole) (go c is.0.1 pair.1 pair.4))
    where
      go : (c : Choice) (o : Option ChoiceTail) (back : List Token) → optional_is (choice_tail (expression_within d) p).Is back o → Faithful (suc d) (token.Name (choice_text c) ∷ back) (with_choice_tail c o)
      go c None back none = deeper (suc d) (token.Name (choice_text c) ∷ back) (expr.Name (choice_text c)) (name_faithful (choice_text c) back none)
      go c (Some t) back (inl some) = pair_faithful c back t some
      go c (Some t) back (inr some) = subst (λ (z : ChoiceTail). Faithful (suc d) (token.Name (choice_text c) ∷ back) (with_choice_tail c (Some z))) (sym some.2) (tail_faithful p (choice_text c) back some.0 some.1)

  group_faithful : (ts : List Token) (e : Expression) → (group (expression_within d)).Is ts e → Faithful (suc d) ts e
  unfolding group
  group_faithful ts e is =
      let r = expression_within d place.Anywhere 0 in
      let a = after_mark m.LeftParen (r ◁ mark m.RightParen) ts is.0 is.1 in
      let b = before_mark m.RightParen r a.0 is.0 a.2 in
      let f = ih place.Anywhere 0 b.0 is.0 b.2 in
      subst (λ (z : Expression). Faithful (suc d) ts z) (sym is.2)
      (record {
        tokens = a.1 ∙ ap (λ (l : List Token). token.Mark m.LeftParen ∷ l) (b.1 ∙ ap (λ (l : List Token). l ++ token.Mark m.RightParen ∷ []) f.tokens) ∙ sym (tokens_group is.0);
        shallow = omega (arith, depth_group is.0, f.shallow);
      })

  signed_faithful : (p : GrammarPlace) (ts : List Token) (e : Expression) → (signed (expression_within d) p).Is ts e → Faithful (suc d) ts e
  unfolding signed
  signed_faithful p ts e is =
      let s = is.0.0 in
      let x = is.0.1 in
      let pair = is.1 in
      let f = ih p 12 pair.1 x pair.4 in
      subst (λ (z : Expression). Faithful (suc d) ts z) (sym is.2)
      (record {
        tokens = pair.2 ∙ ap (λ (l : List Token). l ++ pair.1) (pair.3.1 ∙ ap (λ (t : Token). t ∷ []) (sign_said pair.3.0 s pair.3.2)) ∙ ap (λ (l : List Token). token.Mark (sign_mark s) ∷ l) f.tokens ∙ sym (tokens_signed s x);
        shallow = omega (arith, depth_signed s x, f.shallow);
      })

  -- ---- a step after x

  step_faithful : (p : GrammarPlace) (x : Expression) (front : List Token) (l : ℕ) (f : List Token) (t : ChainStep) → front ≡ expression_tokens x → depth x ≤ d → (step (expression_within d) p l).Is f t → Faithful (suc d) (front ++ f) (put x t)
  unfolding conditional_step binary_step operator
  step_faithful p x front zero f t e h is =
      let a = is.0.0 in
      let b = is.0.1 in
      let q = after_mark m.Question (expression_within d p 0 ⊗ (mark m.Colon ▷ expression_within d p 1)) f is.0 is.1 in
      let both = q.2 in
      let r = after_mark m.Colon (expression_within d p 1) both.1 b both.4 in
      let fa = ih p 0 both.0 a both.3 in
      let fb = ih p 1 r.0 b r.2 in
      subst (λ (z : ChainStep). Faithful (suc d) (front ++ f) (put x z)) (sym is.2)
      (record {
        tokens =
            ap (λ (l : List Token). l ++ f) e
            ∙ ap (λ (l : List Token). expression_tokens x ++ l)
            (q.1
            ∙ ap (λ (l : List Token). token.Mark m.Question ∷ l)
            (both.2 ∙ ap (λ (l : List Token). l ++ both.1) fa.tokens ∙ ap (λ (l : List Token). expression_tokens a ++ l) (r.1 ∙ ap (λ (l : List Token). token.Mark m.Colon ∷ l) fb.tokens)))
            ∙ sym (tokens_conditional x a b);
        shallow = omega (arith, depth_conditional x a b, h, fa.shallow, fb.shallow);
      })
  step_faithful p x front (suc l) f t e h is =
      let o = is.0.0 in
      let b = is.0.1 in
      let both = is.1 in
      let found = (at_rank (suc l) (operator_in p both.3.0) o both.3.2).0 in
      let first : both.0 ≡ token.Mark (operator_mark o) ∷ [] = both.3.1 ∙ ap (λ (t : Token). t ∷ []) (operator_said both.3.0 o (standing_said p (operator_of both.3.0) o found)) in
      let fb = ih p (right_level (suc l)) both.1 b both.4 in
      subst (λ (z : ChainStep). Faithful (suc d) (front ++ f) (put x z)) (sym is.2)
      (record {
        tokens =
            ap (λ (l : List Token). l ++ f) e
            ∙ ap (λ (l : List Token). expression_tokens x ++ l) (both.2 ∙ ap (λ (l : List Token). l ++ both.1) first ∙ ap (λ (l : List Token). token.Mark (operator_mark o) ∷ l) fb.tokens)
            ∙ sym (tokens_binary o x b);
        shallow = omega (arith, depth_binary o x b, h, fb.shallow);
      })

  next_shallow : (p : GrammarPlace) (least : ℕ) (x : Expression) (f : List Token) (l : ℕ) → next (follows p (suc d) least) x f ≡ Some l → depth x ≤ d
  next_shallow p least x [] l e = absurd cc
  next_shallow p least x (u ∷ f) l e =
      let a = allowed_by p (suc d) least x u l e in
      let h : nat_lt (depth x) (suc d) ≡ true = and_second _ (nat_lt (depth x) (suc d)) (and_second (nat_le least l) _ a.allowed) in
      omega (arith, leb-true (suc (depth x)) (suc d) h)

  steps_faithful : (p : GrammarPlace) (least : ℕ) (ps : List (ℕ × ChainStep)) (x : Expression) (front ts : List Token) (y : Expression) → Faithful (suc d) front x → grown_is (follows p (suc d) least) (λ l. (step (expression_within d) p l).Is) put x ps ts y → Faithful (suc d) (front ++ ts) y
  steps_faithful p least [] x front ts y f is = subst (λ (z : Expression). Faithful (suc d) (front ++ ts) z) (sym is.1) (subst (λ (l : List Token). Faithful (suc d) l x) (sym (ap (λ (l : List Token). front ++ l) is.0 ∙ append-nil front)) f)
  steps_faithful p least (q ∷ ps) x front ts y f is =
      let g = step_faithful p x front q.0 is.0 q.1 f.tokens (next_shallow p least x is.0 q.0 is.3) is.4 in
      let h = steps_faithful p least ps (put x q.1) (front ++ is.0) is.1 y g is.5 in
      subst (λ (l : List Token). Faithful (suc d) l y) (append_assoc front is.0 is.1 ∙ ap (λ (l : List Token). front ++ l) (sym is.2)) h

  module _ (at : (ts : List Token) (e : Expression) → (element_index d).Is ts e → IndexSaid d ts e) where
    operand_faithful : (p : GrammarPlace) (ts : List Token) (e : Expression) → (operand (expression_within d) (element_index d) p).Is ts e → Faithful (suc d) ts e
    unfolding operand
    operand_faithful p ts e (inl is) = group_faithful ts e is
    operand_faithful p ts e (inr (inl is)) = signed_faithful p ts e is
    operand_faithful p ts e (inr (inr (inl is))) = index_faithful d ts e is
    operand_faithful p ts e (inr (inr (inr (inl is)))) = parent_faithful d ts e is
    operand_faithful p ts e (inr (inr (inr (inr (inl is))))) = size_faithful d ts e is
    operand_faithful p ts e (inr (inr (inr (inr (inr (inl is)))))) = exists_faithful d (element_index d) at ts e is
    operand_faithful p ts e (inr (inr (inr (inr (inr (inr (inl is))))))) = chosen_faithful p ts e is
    operand_faithful p ts e (inr (inr (inr (inr (inr (inr (inr (inl is)))))))) = named_faithful p ts e is
    operand_faithful p ts e (inr (inr (inr (inr (inr (inr (inr (inr (inl is))))))))) = deeper (suc d) ts e (scoped_faithful ts e is)
    operand_faithful p ts e (inr (inr (inr (inr (inr (inr (inr (inr (inr is))))))))) = deeper (suc d) ts e (literal_faithful ts e is)

    next_faithful : (p : GrammarPlace) (l : ℕ) (ts : List Token) (e : Expression) → (expression_within (suc d) p l).Is ts e → Faithful (suc d) ts e
    unfolding deep
    next_faithful p l ts e is = subst (λ (k : List Token). Faithful (suc d) k e) (sym is.4) (steps_faithful p l is.1 is.0 is.2 is.3 e (operand_faithful p is.2 is.0 is.5) is.6)

  next_index : (ts : List Token) (e : Expression) → (element_index (suc d)).Is ts e → IndexSaid (suc d) ts e
  unfolding deep
  next_index ts e is =
      let b = brackets_said (expression_within d place.Anywhere 0) ts e is in
      let f = ih place.Anywhere 0 b.0 e b.2 in
      record { tokens = b.1 ∙ ap (λ (l : List Token). token.Mark m.LeftBracket ∷ (l ++ token.Mark m.RightBracket ∷ [])) f.tokens; shallow = omega (arith, f.shallow) }

-- ---- depth by depth

abbrev AllFaithful : ℕ → Type 0
AllFaithful d = (p : GrammarPlace) (l : ℕ) (ts : List Token) (e : Expression) → (expression_within d p l).Is ts e → Faithful d ts e

abbrev IndexFaithful : ℕ → Type 0
IndexFaithful d = (ts : List Token) (e : Expression) → (element_index d).Is ts e → IndexSaid d ts e

first_faithful : AllFaithful zero
unfolding deep
first_faithful p l ts e is = atom_faithful ts e is

first_index : IndexFaithful zero
unfolding deep
first_index ts e is = let no = is.2 in absurd cc

all_faithful : (d : ℕ) → AllFaithful d × IndexFaithful d
all_faithful zero = (first_faithful, first_index)
all_faithful (suc d) = let h = all_faithful d in (next_faithful d h.0 h.1, next_index d h.0)

pub within_faithful : (d : ℕ) (p : GrammarPlace) (l : ℕ) (ts : List Token) (e : Expression) → (expression_within d p l).Is ts e → Faithful d ts e
within_faithful d = (all_faithful d).0

-- what a text says is spelled by its own tokens, and shallow
pub text_faithful : (bytes : List ℕ) (e : Expression) → IsExpressionText bytes e → Faithful max_depth (tokens_of bytes) e
unfolding expression
text_faithful bytes e is = within_faithful max_depth place.Anywhere 0 (tokens_of bytes) e is.spells
