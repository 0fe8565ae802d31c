-- The grammar of NED expressions over tokens, a definition for each rule (OMNeT++ Simulation
-- Manual, "NED Language Grammar"). `a ⊗ b` is a and then b; `a ▷ b` the same with the value of b,
-- `a ◁ b` with that of a.
use denote.Enum.Bare.{sameb}
use Rattle.std.specs.Prelude.{ℕ, zero, suc, max, Bool, true, false, ◌&&◌, ◌||◌, not, Option, Some}
use Rattle.std.specs.Prelude.{None, nat_lt, nat_le, ◌==◌, if◌then◌else◌, is_some, codes}
use Rattle.std.specs.Str.{bytes_eq}
use Rattle.ned_tokens.specs.declared.token.Keyword.TheVariants as k
use Rattle.ned_tokens.specs.declared.token.Mark.TheVariants as m
use Rattle.ned_tokens.specs.declared.token.Token.{Token}
use Rattle.ned_tokens.specs.declared.token.Token.TheVariants as token
use Rattle.ned_tokens.specs.Rule.{Rule, token as one_token, ◌⊗◌, ◌◁◌, ◌▷◌, made, either, optional}
use Rattle.ned_tokens.specs.Rule.{sealed}
use Rattle.ned_tokens.specs.Growth.{grown, never}
use Rattle.ned_leaves.specs.Grammar.{Bytes, is_mark, literal_of, plain_literal, word, mark, name}
use Rattle.ned_expressions.specs.contracts.atoms.Kind as kind
use Rattle.ned_trees.specs.declared.expressions.Operator.{Operator}
use Rattle.ned_trees.specs.declared.expressions.Operator.TheVariants as op
use Rattle.ned_trees.specs.declared.expressions.Sign.{Sign}
use Rattle.ned_trees.specs.declared.expressions.Sign.TheVariants as signs
use Rattle.ned_trees.specs.declared.expressions.Choice.{Choice}
use Rattle.ned_trees.specs.declared.expressions.Choice.TheVariants as choices
use Rattle.ned_trees.specs.declared.expressions.Scope.{Scope}
use Rattle.ned_trees.specs.declared.expressions.Scope.TheVariants as scopes
use Rattle.ned_trees.specs.declared.expressions.Expression.{Expression, out-Expression}
use Rattle.ned_trees.specs.declared.expressions.Expression.{fold-Expression}
use Rattle.ned_trees.specs.declared.expressions.Expression.TheOpen.{Expression-F}
use Rattle.ned_trees.specs.declared.expressions.Expression.TheVariants as expr
use Rattle.ned_expressions.specs.declared.levels.GrammarPlace.{GrammarPlace}
use Rattle.ned_expressions.specs.declared.levels.GrammarPlace.TheVariants as place
use Rattle.ned_expressions.specs.declared.chains.ChainStep.{ChainStep}
use Rattle.ned_expressions.specs.declared.chains.ChainStep.TheVariants as steps
use Rattle.ned_expressions.specs.declared.atoms.Kind.{Kind}
use Rattle.ned_expressions.specs.declared.atoms.Kind.TheVariants as kinds
use Rattle.ned_expressions.specs.declared.atoms.Tail.{Tail}
use Rattle.ned_expressions.specs.declared.atoms.Tail.TheVariants as tails
use Rattle.ned_expressions.specs.declared.operands.ChoiceTail.{ChoiceTail}
use Rattle.ned_expressions.specs.declared.operands.ChoiceTail.TheVariants as choice_tails

-- ---- operators

abbrev pub operator_of : Token → Option Operator
operator_of (token.Mark m.Or) = Some op.Or
operator_of (token.Mark m.Xor) = Some op.Xor
operator_of (token.Mark m.And) = Some op.And
operator_of (token.Mark m.Equal) = Some op.Equal
operator_of (token.Mark m.NotEqual) = Some op.NotEqual
operator_of (token.Mark m.Less) = Some op.Less
operator_of (token.Mark m.AtMost) = Some op.AtMost
operator_of (token.Mark m.Greater) = Some op.Greater
operator_of (token.Mark m.AtLeast) = Some op.AtLeast
operator_of (token.Mark m.Bar) = Some op.BitOr
operator_of (token.Mark m.Hash) = Some op.BitXor
operator_of (token.Mark m.Ampersand) = Some op.BitAnd
operator_of (token.Mark m.ShiftLeft) = Some op.ShiftLeft
operator_of (token.Mark m.ShiftRight) = Some op.ShiftRight
operator_of (token.Mark m.Plus) = Some op.Add
operator_of (token.Mark m.Minus) = Some op.Subtract
operator_of (token.Mark m.Star) = Some op.Multiply
operator_of (token.Mark m.Slash) = Some op.Divide
operator_of (token.Mark m.Percent) = Some op.Remainder
operator_of (token.Mark m.Caret) = Some op.Power
operator_of _ = None

-- THE LEVELS, from the loosest: 0 is `?:`, 11 is `^`, 12 is all that is no operator between
-- operands
abbrev pub level_of : Operator → ℕ
level_of op.Or = 1
level_of op.Xor = 2
level_of op.And = 3
level_of op.Equal = 4
level_of op.NotEqual = 4
level_of op.Less = 4
level_of op.AtMost = 4
level_of op.Greater = 4
level_of op.AtLeast = 4
level_of op.BitOr = 5
level_of op.BitXor = 6
level_of op.BitAnd = 7
level_of op.ShiftLeft = 8
level_of op.ShiftRight = 8
level_of op.Add = 9
level_of op.Subtract = 9
level_of op.Multiply = 10
level_of op.Divide = 10
level_of op.Remainder = 10
level_of op.Power = 11

-- `^` binds from the right, all others from the left: the least level of what stands on the left,
-- and on the right
abbrev pub left_level : ℕ → ℕ
left_level l = if l == 11 then 12 else l

abbrev pub right_level : ℕ → ℕ
right_level l = if l == 11 then 11 else suc l

-- Between `<` and `>` a comparison stands in parentheses.
abbrev pub stands : GrammarPlace → Operator → Bool
stands place.Anywhere o = true
stands place.Angles o = not (level_of o == 4)

abbrev pub standing : GrammarPlace → Option Operator → Option Operator
standing p None = None
standing p (Some o) = if stands p o then Some o else None

abbrev pub operator_in : GrammarPlace → Token → Option Operator
operator_in p t = standing p (operator_of t)

abbrev pub level_in : Option Operator → Option ℕ
level_in None = None
level_in (Some o) = Some (level_of o)

abbrev pub or_level : Option (Unit {0}) → Option ℕ → Option ℕ
or_level None level = level
or_level (Some u) level = Some 0

-- the level of the operator that a token begins
abbrev pub rank : GrammarPlace → Token → Option ℕ
rank p t = or_level (is_mark m.Question t) (level_in (operator_in p t))

abbrev pub at_level : ℕ → Option Operator → Option Operator
at_level l None = None
at_level l (Some o) = if level_of o == l then Some o else None

unfoldable pub operator : GrammarPlace → ℕ → Rule Operator
operator p l = one_token (λ t. at_level l (operator_in p t))

-- the level of an expression's outermost operator
abbrev pub tightness_at : {A : Type 0} → Expression-F A → ℕ
tightness_at (Expression-F.Conditional c a b) = 0
tightness_at (Expression-F.Binary o a b) = level_of o
tightness_at _ = 12

abbrev pub tightness : Expression → ℕ
tightness e = tightness_at (out-Expression e)

-- THE DEPTH: 0 for a literal or a name, one more than its deepest part for an operator, a call (1
-- where it has no parts), an index in brackets or a pair of parentheses. Each part stands here as
-- its depth.
abbrev pub depth_at : Expression-F ℕ → ℕ
depth_at (Expression-F.Literal v) = 0
depth_at (Expression-F.Name x) = 0
depth_at (Expression-F.Scoped s x) = 0
depth_at (Expression-F.Member x y) = 0
depth_at (Expression-F.Element x e y) = suc e
depth_at Expression-F.Index = 0
depth_at Expression-F.IndexCall = 1
depth_at Expression-F.ParentIndex = 1
depth_at (Expression-F.Sizeof x) = 1
depth_at (Expression-F.Exists x) = 1
depth_at (Expression-F.ExistsAt x e) = suc (suc e)
depth_at (Expression-F.Chosen c a b) = suc (max a b)
depth_at (Expression-F.Group e) = suc e
depth_at (Expression-F.Signed s e) = suc e
depth_at (Expression-F.Binary o a b) = suc (max a b)
depth_at (Expression-F.Conditional c a b) = suc (max c (max a b))

abbrev pub depth : Expression → ℕ
depth e = fold-Expression ℕ depth_at e

-- a part of an expression: where it stands, and the least level of an operator outside its
-- parentheses
abbrev pub Inner : Type 1
Inner = GrammarPlace → ℕ → Rule Expression

-- ---- what an operand is, by its first token

-- `min` and `max` are names that may be called
abbrev pub choice_named : Bytes → Option Choice
choice_named text = if bytes_eq text (codes "min") then Some choices.Min
    else (if bytes_eq text (codes "max") then Some choices.Max else None)

abbrev pub kind_of_name : Option Choice → Kind
kind_of_name None = kinds.Named
kind_of_name (Some c) = kinds.Chosen

abbrev pub kind_of : Token → Kind
kind_of (token.Mark m.LeftParen) = kinds.Group
kind_of (token.Mark m.Minus) = kinds.Signed
kind_of (token.Mark m.Bang) = kinds.Signed
kind_of (token.Mark m.Tilde) = kinds.Signed
kind_of (token.Word k.Index) = kinds.Index
kind_of (token.Word k.ParentIndex) = kinds.ParentIndex
kind_of (token.Word k.Sizeof) = kinds.Sizeof
kind_of (token.Word k.Exists) = kinds.Exists
kind_of (token.Word k.This) = kinds.Scoped
kind_of (token.Word k.Parent) = kinds.Scoped
kind_of (token.Name text) = kind_of_name (choice_named text)
kind_of _ = kinds.Other

abbrev pub same_kind : Kind → Kind → Bool
same_kind = sameb kind.the_type

abbrev pub is_kind : Kind → Token → Bool
is_kind k t = same_kind k (kind_of t)

abbrev pub is_named : Token → Bool
is_named t = is_kind kinds.Chosen t || is_kind kinds.Named t

abbrev pub is_literal : Token → Bool
is_literal t = is_some (literal_of t)

-- a token that may stand after a name
abbrev pub is_tail : Token → Bool
is_tail (token.Mark m.Dot) = true
is_tail (token.Mark m.LeftBracket) = true
is_tail (token.Mark m.LeftParen) = true
is_tail _ = false

-- a token that `.x` or `[e].x` begins with
abbrev pub begins_tail : Token → Bool
begins_tail (token.Mark m.Dot) = true
begins_tail (token.Mark m.LeftBracket) = true
begins_tail _ = false

abbrev pub nothing : Token → Bool
nothing t = false

-- ---- operands

unfoldable pub literal : Rule Expression
literal = made expr.Literal plain_literal

abbrev pub scope_of : Token → Option Scope
scope_of (token.Word k.This) = Some scopes.This
scope_of (token.Word k.Parent) = Some scopes.Parent
scope_of _ = None

-- ("this" | "parent") "." name
unfoldable pub scoped : Rule Expression
scoped = made (λ x. expr.Scoped x.0 x.1) (one_token scope_of ⊗ (mark m.Dot ▷ name))

-- "[" expression "]"
unfoldable pub brackets : Rule Expression → Rule Expression
brackets e = mark m.LeftBracket ▷ (e ◁ mark m.RightBracket)

-- "." name
unfoldable pub member : Rule Tail
member = made tails.Member (mark m.Dot ▷ name)

-- "[" expression "]" "." name
unfoldable pub element : Rule Expression → Rule Tail
element e = made (λ x. tails.Element x.0 x.1) (brackets e ⊗ (mark m.Dot ▷ name))

-- what stands after a name
unfoldable pub tail : Rule Expression → Rule Tail
tail e = sealed begins_tail nothing (either member (element e))

-- "(" expression "," expression ")"
unfoldable pub pair : Rule Expression → Rule ChoiceTail
pair e = made (λ x. choice_tails.Pair x.0 x.1)
    (mark m.LeftParen ▷ (e ⊗ (mark m.Comma ▷ (e ◁ mark m.RightParen))))

-- what stands after `min` or `max`
unfoldable pub choice_tail : Inner → GrammarPlace → Rule ChoiceTail
choice_tail inner p = sealed is_tail nothing
    (either (pair (inner place.Anywhere 0)) (made choice_tails.Plain (tail (inner p 0))))

abbrev pub choice_of : Token → Option Choice
choice_of (token.Name text) = choice_named text
choice_of _ = None

abbrev pub unless_choice : Option Choice → Bytes → Option Bytes
unless_choice None text = Some text
unless_choice (Some c) text = None

abbrev pub plain_name_of : Token → Option Bytes
plain_name_of (token.Name text) = unless_choice (choice_named text) text
plain_name_of _ = None

abbrev pub choice_text : Choice → Bytes
choice_text choices.Min = codes "min"
choice_text choices.Max = codes "max"

abbrev pub with_tail : Bytes → Option Tail → Expression
with_tail text None = expr.Name text
with_tail text (Some (tails.Member x)) = expr.Member text x
with_tail text (Some (tails.Element e x)) = expr.Element text e x

abbrev pub with_choice_tail : Choice → Option ChoiceTail → Expression
with_choice_tail c None = expr.Name (choice_text c)
with_choice_tail c (Some (choice_tails.Plain t)) = with_tail (choice_text c) (Some t)
with_choice_tail c (Some (choice_tails.Pair a b)) = expr.Chosen c a b

-- name ["." name]: all that a name may be without depth
unfoldable pub flat_named : Rule Expression
flat_named = made (λ x. with_tail x.0 x.1) (name ⊗ optional member)

-- name [tail], where the name is neither `min` nor `max`
unfoldable pub named : Inner → GrammarPlace → Rule Expression
named inner p =
    made (λ x. with_tail x.0 x.1) (one_token plain_name_of ⊗ optional (tail (inner p 0)))

-- ("min" | "max") [choice_tail]
unfoldable pub chosen : Inner → GrammarPlace → Rule Expression
chosen inner p =
    made (λ x. with_choice_tail x.0 x.1) (one_token choice_of ⊗ optional (choice_tail inner p))

-- "(" ")"
unfoldable pub no_arguments : Rule (Unit {0})
no_arguments = mark m.LeftParen ▷ mark m.RightParen

abbrev pub index_or_call : Option (Unit {0}) → Expression
index_or_call None = expr.Index
index_or_call (Some u) = expr.IndexCall

-- "index"
unfoldable pub flat_index : Rule Expression
flat_index = made (λ u. expr.Index) (word k.Index)

-- "index" ["(" ")"]
unfoldable pub index : Rule Expression
index = made index_or_call (word k.Index ▷ optional no_arguments)

-- "parentIndex" "(" ")"
unfoldable pub parent_index : Rule Expression
parent_index = made (λ u. expr.ParentIndex) (word k.ParentIndex ▷ no_arguments)

-- "sizeof" "(" name ")"
unfoldable pub size_of : Rule Expression
size_of = made expr.Sizeof (word k.Sizeof ▷ (mark m.LeftParen ▷ (name ◁ mark m.RightParen)))

abbrev pub exists_or_at : Bytes → Option Expression → Expression
exists_or_at text None = expr.Exists text
exists_or_at text (Some e) = expr.ExistsAt text e

-- "exists" "(" name ["[" expression "]"] ")"
unfoldable pub exists_rule : Rule Expression → Rule Expression
exists_rule at = made (λ x. exists_or_at x.0 x.1)
    (word k.Exists ▷ (mark m.LeftParen ▷ ((name ⊗ optional at) ◁ mark m.RightParen)))

-- "(" expression ")"
unfoldable pub group : Inner → Rule Expression
group inner = made expr.Group (mark m.LeftParen ▷ (inner place.Anywhere 0 ◁ mark m.RightParen))

abbrev pub sign_of : Token → Option Sign
sign_of (token.Mark m.Minus) = Some signs.Minus
sign_of (token.Mark m.Bang) = Some signs.Not
sign_of (token.Mark m.Tilde) = Some signs.Complement
sign_of _ = None

-- ("-" | "!" | "~") operand
unfoldable pub signed : Inner → GrammarPlace → Rule Expression
signed inner p = made (λ x. expr.Signed x.0 x.1) (one_token sign_of ⊗ inner p 12)

-- an operand of a kind
abbrev pub of_kind : Kind → Rule Expression → Rule Expression
of_kind k r = sealed (is_kind k) is_tail r

abbrev pub any_literal : Rule Expression
any_literal = sealed is_literal is_tail literal

-- group | signed | index | parent_index | size_of | exists | chosen | named | scoped | literal: all
-- that is no operator between operands
unfoldable pub operand : Inner → Rule Expression → GrammarPlace → Rule Expression
operand inner at p =
    either (of_kind kinds.Group (group inner))
    (either (of_kind kinds.Signed (signed inner p))
    (either (of_kind kinds.Index index)
    (either (of_kind kinds.ParentIndex parent_index)
    (either (of_kind kinds.Sizeof size_of)
    (either (of_kind kinds.Exists (exists_rule at))
    (either (of_kind kinds.Chosen (chosen inner p))
    (either (of_kind kinds.Named (named inner p))
    (either (of_kind kinds.Scoped scoped)
    any_literal))))))))

-- flat_index | flat_named | scoped | literal: an operand without depth
unfoldable pub atom : Rule Expression
atom = either (of_kind kinds.Index flat_index)
    (either (sealed is_named is_tail flat_named) (either (of_kind kinds.Scoped scoped) any_literal))

-- ---- operators between operands

-- "?" expression ":" expression
unfoldable pub conditional_step : Inner → GrammarPlace → Rule ChainStep
conditional_step inner p = made (λ x. steps.Conditional x.0 x.1)
    (mark m.Question ▷ (inner p 0 ⊗ (mark m.Colon ▷ inner p 1)))

-- operator expression
unfoldable pub binary_step : Inner → GrammarPlace → ℕ → Rule ChainStep
binary_step inner p l = made (λ x. steps.Binary x.0 x.1) (operator p l ⊗ inner p (right_level l))

abbrev pub step : Inner → GrammarPlace → ℕ → Rule ChainStep
step inner p zero = conditional_step inner p
step inner p (suc l) = binary_step inner p (suc l)

abbrev pub put : Expression → ChainStep → Expression
put e (steps.Binary o b) = expr.Binary o e b
put e (steps.Conditional a b) = expr.Conditional e a b

-- after e an operator of this level may stand, where the whole is at most this deep and has no
-- looser operator than `least`
abbrev pub may : ℕ → ℕ → Expression → ℕ → Bool
may deepest least e l =
    nat_le least l && (nat_le (left_level l) (tightness e) && nat_lt (depth e) deepest)

abbrev pub filtered : (ℕ → Bool) → Option ℕ → Option ℕ
filtered p None = None
filtered p (Some l) = if p l then Some l else None

abbrev pub follows : GrammarPlace → ℕ → ℕ → Expression → Token → Option ℕ
follows p deepest least e t = filtered (may deepest least e) (rank p t)

-- ---- an expression

-- a token with which an expression may begin
abbrev pub begins_expression : Token → Bool
begins_expression (token.Mark m.LeftParen) = true
begins_expression (token.Mark m.Minus) = true
begins_expression (token.Mark m.Bang) = true
begins_expression (token.Mark m.Tilde) = true
begins_expression (token.Mark _) = false
begins_expression (token.Word k.True) = true
begins_expression (token.Word k.False) = true
begins_expression (token.Word k.This) = true
begins_expression (token.Word k.Parent) = true
begins_expression (token.Word k.Index) = true
begins_expression (token.Word k.ParentIndex) = true
begins_expression (token.Word k.Sizeof) = true
begins_expression (token.Word k.Exists) = true
begins_expression (token.Word _) = false
begins_expression (token.Name text) = true
begins_expression (token.Number n) = true
begins_expression (token.Quantity d n) = true
begins_expression (token.Literal text) = true
begins_expression _ = false

abbrev pub reaches : ℕ → Option ℕ → Bool
reaches least None = false
reaches least (Some l) = nat_le least l

-- a token with which an expression may go on
abbrev pub continues : GrammarPlace → ℕ → Token → Bool
continues p least t = is_tail t || reaches least (rank p t)

-- an expression at most this deep, that has no looser operator than `least` outside parentheses
unfoldable mutual
  pub deep : ℕ → GrammarPlace → ℕ → Rule Expression
  deep zero p least = atom
  deep (suc d) p least =
      let inner : Inner = λ q l. sealed begins_expression (continues q l) (deep d q l) in
      grown (operand inner (element_index d) p) (follows p (suc d) least) (step inner p) put
      (continues p least)

  -- an index in brackets, at most this deep
  pub element_index : ℕ → Rule Expression
  element_index zero = one_token never
  element_index (suc d) =
      brackets (sealed begins_expression (continues place.Anywhere 0) (deep d place.Anywhere 0))

abbrev pub expression_within : ℕ → GrammarPlace → ℕ → Rule Expression
expression_within d p least = sealed begins_expression (continues p least) (deep d p least)

abbrev pub max_depth : ℕ
max_depth = 64

-- AN EXPRESSION
unfoldable pub expression : Rule Expression
expression = expression_within max_depth place.Anywhere 0

-- an expression between `<` and `>`
unfoldable pub angle_expression : Rule Expression
angle_expression = expression_within max_depth place.Angles 0

-- "<" expression ">", as in the type of a submodule
unfoldable pub angled : Rule Expression
angled = mark m.Less ▷ (angle_expression ◁ mark m.Greater)
