-- The rules of expressions keep the laws, depth by depth.
use Rattle.std.proofs.Common.{◌≡◌, ℕ, zero, suc, ◌+◌, ◌-◌, length, Ok, ◌≤◌, ◌<◌, arith, Bool, true, false, ◌||◌, List, [], ◌∷◌, Option, Some, None, refl, sym, ap, subst, ◌∙◌}
use Rattle.std.specs.Prelude.{is_some}
use Rattle.std.proofs.lemmas.Bool.{false≢true, true≢false}
use Rattle.ned_tokens.specs.declared.token.Keyword.TheVariants as k
use Rattle.ned_tokens.specs.declared.token.Mark.TheVariants as m
use Rattle.ned_tokens.specs.declared.token.Token.{Token}
use Rattle.ned_tokens.specs.declared.token.Token.TheVariants as token
use Rattle.ned_tokens.specs.declared.refusal.Refusal.{Refusal}
use Rattle.ned_tokens.specs.Rule.{Reading, Fails, Rule, token as one_token, made, either, optional, sealed}
use Rattle.ned_tokens.specs.Growth.{next, never, grown}
use Rattle.ned_tokens.proofs.Laws.{or_left, Lawful, token-lawful, either-lawful, optional-lawful, sealed-lawful, then, before, after, mapped}
use Rattle.ned_tokens.proofs.Many.{shorter}
use Rattle.ned_tokens.proofs.GrowthLaws.{grown-lawful, Left, loop_begins, loop_first_fails, loop_goes_on, loop_fails, loop_ends}
use Rattle.ned_leaves.specs.Grammar.{is_mark, plain_literal, word, mark, name}
use Rattle.ned_leaves.proofs.GrammarLaws.{word-lawful, mark-lawful, name-lawful, plain_literal-lawful}
use Rattle.ned_trees.specs.declared.expressions.Expression.{Expression}
use Rattle.ned_trees.specs.declared.expressions.Choice.{Choice}
use Rattle.ned_expressions.specs.declared.levels.GrammarPlace.{GrammarPlace}
use Rattle.ned_expressions.specs.declared.levels.GrammarPlace.TheVariants as place
use Rattle.ned_expressions.specs.declared.chains.ChainStep.{ChainStep}
use Rattle.ned_expressions.specs.declared.atoms.Kind.{Kind}
use Rattle.ned_expressions.specs.declared.atoms.Kind.TheVariants as kinds
use Rattle.ned_expressions.specs.declared.operands.ChoiceTail.TheVariants as choice_tails
use Rattle.ned_expressions.specs.Grammar.{operator_in, right_level, left_level, rank, at_level, tightness, operator, Inner, choice_named, kind_of_name, kind_of, same_kind, is_kind, is_named, is_literal, literal, scope_of, scoped, brackets, member, element, begins_tail, nothing, tail, pair, choice_tail, choice_of, unless_choice, plain_name_of, flat_named, named, chosen, no_arguments, flat_index, index, parent_index, size_of, exists_rule, group, sign_of, signed, of_kind, any_literal, operand, atom, conditional_step, binary_step, step, put, follows, begins_expression, is_tail, reaches, continues, deep, element_index, expression_within, max_depth, expression, angle_expression, angled}
use Rattle.ned_expressions.proofs.LevelLaws.{at_rank, operator_rank, question_rank, tight_binary, tight_conditional, first_of, allowed_by, allowed_also, ends_all, continues_up, ends_before, continues_last, rank_no_tail, left_right, next_small, next_above}

-- ---- what an operand is, by its first token

or_none : (b : Bool) → b || false ≡ true → b ≡ true
or_none true e = refl
or_none false e = e

-- a literal is of no other kind
literal_other : (t : Token) → is_literal t ≡ true → is_kind kinds.Other t ≡ true
literal_other (token.Mark _) e = absurd (false≢true e)
literal_other (token.Word k.True) e = refl
literal_other (token.Word k.False) e = refl
literal_other (token.Word _) e = absurd (false≢true e)
literal_other (token.Name text) e = absurd (false≢true e)
literal_other (token.Number n) e = refl
literal_other (token.Quantity x n) e = refl
literal_other (token.Literal text) e = refl
literal_other _ e = refl

-- Of two kinds a token has one. Each line is one alternative, before those that are left.
abbrev IsOther : Bool → Kind → Type 0
IsOther lit x = lit ≡ true → same_kind kinds.Other x ≡ true

scoped_apart : (x : Kind) (lit : Bool) → IsOther lit x → lit ≡ true → same_kind kinds.Scoped x ≡ false
scoped_apart kinds.Scoped lit h e = absurd (false≢true (h e))
scoped_apart _ lit h e = refl

named_apart : (x : Kind) (lit : Bool) → IsOther lit x → same_kind kinds.Scoped x || lit ≡ true → same_kind kinds.Named x ≡ false
named_apart kinds.Named lit h e = absurd (false≢true (h e))
named_apart _ lit h e = refl

chosen_apart : (x : Kind) (lit : Bool) → IsOther lit x → same_kind kinds.Named x || (same_kind kinds.Scoped x || lit) ≡ true → same_kind kinds.Chosen x ≡ false
chosen_apart kinds.Chosen lit h e = absurd (false≢true (h e))
chosen_apart _ lit h e = refl

exists_apart : (x : Kind) (lit : Bool) → IsOther lit x → same_kind kinds.Chosen x || (same_kind kinds.Named x || (same_kind kinds.Scoped x || lit)) ≡ true → same_kind kinds.Exists x ≡ false
exists_apart kinds.Exists lit h e = absurd (false≢true (h e))
exists_apart _ lit h e = refl

sizeof_apart : (x : Kind) (lit : Bool) → IsOther lit x → same_kind kinds.Exists x || (same_kind kinds.Chosen x || (same_kind kinds.Named x || (same_kind kinds.Scoped x || lit))) ≡ true → same_kind kinds.Sizeof x ≡ false
sizeof_apart kinds.Sizeof lit h e = absurd (false≢true (h e))
sizeof_apart _ lit h e = refl

parent_apart : (x : Kind) (lit : Bool) → IsOther lit x → same_kind kinds.Sizeof x || (same_kind kinds.Exists x || (same_kind kinds.Chosen x || (same_kind kinds.Named x || (same_kind kinds.Scoped x || lit)))) ≡ true → same_kind kinds.ParentIndex x ≡ false
parent_apart kinds.ParentIndex lit h e = absurd (false≢true (h e))
parent_apart _ lit h e = refl

index_apart : (x : Kind) (lit : Bool) → IsOther lit x → same_kind kinds.ParentIndex x || (same_kind kinds.Sizeof x || (same_kind kinds.Exists x || (same_kind kinds.Chosen x || (same_kind kinds.Named x || (same_kind kinds.Scoped x || lit))))) ≡ true → same_kind kinds.Index x ≡ false
index_apart kinds.Index lit h e = absurd (false≢true (h e))
index_apart _ lit h e = refl

signed_apart : (x : Kind) (lit : Bool) → IsOther lit x → same_kind kinds.Index x || (same_kind kinds.ParentIndex x || (same_kind kinds.Sizeof x || (same_kind kinds.Exists x || (same_kind kinds.Chosen x || (same_kind kinds.Named x || (same_kind kinds.Scoped x || lit)))))) ≡ true → same_kind kinds.Signed x ≡ false
signed_apart kinds.Signed lit h e = absurd (false≢true (h e))
signed_apart _ lit h e = refl

group_apart : (x : Kind) (lit : Bool) → IsOther lit x → same_kind kinds.Signed x || (same_kind kinds.Index x || (same_kind kinds.ParentIndex x || (same_kind kinds.Sizeof x || (same_kind kinds.Exists x || (same_kind kinds.Chosen x || (same_kind kinds.Named x || (same_kind kinds.Scoped x || lit))))))) ≡ true → same_kind kinds.Group x ≡ false
group_apart kinds.Group lit h e = absurd (false≢true (h e))
group_apart _ lit h e = refl

-- without depth
flat_named_apart : (x : Kind) (lit : Bool) → IsOther lit x → same_kind kinds.Scoped x || lit ≡ true → same_kind kinds.Chosen x || same_kind kinds.Named x ≡ false
flat_named_apart kinds.Named lit h e = absurd (false≢true (h e))
flat_named_apart kinds.Chosen lit h e = absurd (false≢true (h e))
flat_named_apart _ lit h e = refl

flat_index_apart : (x : Kind) (lit : Bool) → IsOther lit x → (same_kind kinds.Chosen x || same_kind kinds.Named x) || (same_kind kinds.Scoped x || lit) ≡ true → same_kind kinds.Index x ≡ false
flat_index_apart kinds.Index lit h e = absurd (false≢true (h e))
flat_index_apart _ lit h e = refl

-- what begins no expression is of no kind, and no literal
no_kind : (t : Token) → begins_expression t ≡ false → (kind_of t ≡ kinds.Other) × (is_literal t ≡ false)
no_kind (token.Mark m.LeftParen) e = absurd (true≢false e)
no_kind (token.Mark m.Minus) e = absurd (true≢false e)
no_kind (token.Mark m.Bang) e = absurd (true≢false e)
no_kind (token.Mark m.Tilde) e = absurd (true≢false e)
no_kind (token.Mark _) e = (refl, refl)
no_kind (token.Word k.True) e = absurd (true≢false e)
no_kind (token.Word k.False) e = absurd (true≢false e)
no_kind (token.Word k.This) e = absurd (true≢false e)
no_kind (token.Word k.Parent) e = absurd (true≢false e)
no_kind (token.Word k.Index) e = absurd (true≢false e)
no_kind (token.Word k.ParentIndex) e = absurd (true≢false e)
no_kind (token.Word k.Sizeof) e = absurd (true≢false e)
no_kind (token.Word k.Exists) e = absurd (true≢false e)
no_kind (token.Word _) e = (refl, refl)
no_kind (token.Name text) e = absurd (true≢false e)
no_kind (token.Number n) e = absurd (true≢false e)
no_kind (token.Quantity x n) e = absurd (true≢false e)
no_kind (token.Literal text) e = absurd (true≢false e)
no_kind _ e = (refl, refl)

-- what may not stand after a name is none of these marks
no_dot : (t : Token) → is_tail t ≡ false → is_mark m.Dot t ≡ None
no_dot (token.Mark m.Dot) e = absurd (true≢false e)
no_dot (token.Mark _) e = refl
no_dot _ e = refl

no_paren : (t : Token) → is_tail t ≡ false → is_mark m.LeftParen t ≡ None
no_paren (token.Mark m.LeftParen) e = absurd (true≢false e)
no_paren (token.Mark _) e = refl
no_paren _ e = refl

no_tail : (t : Token) → is_tail t ≡ false → begins_tail t ≡ false
no_tail (token.Mark m.Dot) e = absurd (true≢false e)
no_tail (token.Mark m.LeftBracket) e = absurd (true≢false e)
no_tail (token.Mark _) e = refl
no_tail _ e = refl

-- ---- operands without depth

literal-lawful : Lawful literal
unfolding literal
literal-lawful = mapped plain_literal-lawful

pub any_literal-lawful : Lawful any_literal
unfolding literal plain_literal
any_literal-lawful = sealed-lawful is_literal is_tail literal literal-lawful refl (λ t e. e) (λ t e. refl)

scoped-lawful : Lawful scoped
unfolding scoped mark
scoped-lawful = mapped (then (token-lawful scope_of) (before (mark-lawful m.Dot) name-lawful (λ t e. refl)) (λ t e. refl))

scoped_outside : (t : Token) → is_kind kinds.Scoped t ≡ false → scoped.starts t ≡ false
unfolding scoped
scoped_outside (token.Word k.This) e = absurd (true≢false e)
scoped_outside (token.Word k.Parent) e = absurd (true≢false e)
scoped_outside (token.Word _) e = refl
scoped_outside _ e = refl

any_scoped-lawful : Lawful (of_kind kinds.Scoped scoped)
unfolding scoped mark name
any_scoped-lawful = sealed-lawful (is_kind kinds.Scoped) is_tail scoped scoped-lawful refl scoped_outside (λ t e. refl)

pub member-lawful : Lawful member
unfolding member mark
member-lawful = mapped (before (mark-lawful m.Dot) name-lawful (λ t e. refl))

pub flat_named-lawful : Lawful flat_named
unfolding flat_named member mark name
flat_named-lawful = mapped (then name-lawful (optional-lawful member member-lawful refl) (λ t e. refl))

flat_named_outside : (t : Token) → is_named t ≡ false → flat_named.starts t ≡ false
unfolding flat_named name
flat_named_outside (token.Name text) e = go (choice_named text) e
  where
    go : (o : Option Choice) → same_kind kinds.Chosen (kind_of_name o) || same_kind kinds.Named (kind_of_name o) ≡ false → true ≡ false
    go None e = e
    go (Some c) e = e
flat_named_outside _ e = refl

flat_named_ends : (t : Token) → is_tail t ≡ false → flat_named.goes_on t ≡ false
unfolding flat_named member mark name
flat_named_ends t e = rw (no_dot t e) refl

flat_index-lawful : Lawful flat_index
unfolding flat_index
flat_index-lawful = mapped (word-lawful k.Index)

word_index : (t : Token) → is_kind kinds.Index t ≡ false → (word k.Index).starts t ≡ false
unfolding word
word_index (token.Word k.Index) e = absurd (true≢false e)
word_index (token.Word _) e = refl
word_index _ e = refl

pub atom-lawful : Lawful atom
unfolding atom flat_index flat_named name word
atom-lawful =
    either-lawful (of_kind kinds.Index flat_index) (either (sealed is_named is_tail flat_named) (either (of_kind kinds.Scoped scoped) any_literal))
    (sealed-lawful (is_kind kinds.Index) is_tail flat_index flat_index-lawful refl word_index (λ t e. refl))
    (either-lawful (sealed is_named is_tail flat_named) (either (of_kind kinds.Scoped scoped) any_literal)
    (sealed-lawful is_named is_tail flat_named flat_named-lawful refl flat_named_outside flat_named_ends)
    (either-lawful (of_kind kinds.Scoped scoped) any_literal any_scoped-lawful any_literal-lawful refl refl (λ t e. scoped_apart (kind_of t) (is_literal t) (literal_other t) e))
    refl refl (λ t e. flat_named_apart (kind_of t) (is_literal t) (literal_other t) e))
    refl refl (λ t e. flat_index_apart (kind_of t) (is_literal t) (literal_other t) e)

-- ---- calls

no_arguments-lawful : Lawful no_arguments
unfolding no_arguments mark
no_arguments-lawful = before (mark-lawful m.LeftParen) (mark-lawful m.RightParen) (λ t e. refl)

index-lawful : Lawful index
unfolding index no_arguments mark word
index-lawful = mapped (before (word-lawful k.Index) (optional-lawful no_arguments no_arguments-lawful refl) (λ t e. refl))

index_outside : (t : Token) → is_kind kinds.Index t ≡ false → index.starts t ≡ false
unfolding index word
index_outside (token.Word k.Index) e = absurd (true≢false e)
index_outside (token.Word _) e = refl
index_outside _ e = refl

index_ends : (t : Token) → is_tail t ≡ false → index.goes_on t ≡ false
unfolding index no_arguments mark word
index_ends t e = rw (no_paren t e) refl

any_index-lawful : Lawful (of_kind kinds.Index index)
unfolding index word
any_index-lawful = sealed-lawful (is_kind kinds.Index) is_tail index index-lawful refl index_outside index_ends

parent_index-lawful : Lawful parent_index
unfolding parent_index word
parent_index-lawful = mapped (before (word-lawful k.ParentIndex) no_arguments-lawful (λ t e. refl))

parent_outside : (t : Token) → is_kind kinds.ParentIndex t ≡ false → parent_index.starts t ≡ false
unfolding parent_index word
parent_outside (token.Word k.ParentIndex) e = absurd (true≢false e)
parent_outside (token.Word _) e = refl
parent_outside _ e = refl

any_parent-lawful : Lawful (of_kind kinds.ParentIndex parent_index)
unfolding parent_index no_arguments mark word
any_parent-lawful = sealed-lawful (is_kind kinds.ParentIndex) is_tail parent_index parent_index-lawful refl parent_outside (λ t e. refl)

size_of-lawful : Lawful size_of
unfolding size_of word mark name
size_of-lawful = mapped (before (word-lawful k.Sizeof) (before (mark-lawful m.LeftParen) (after name-lawful (mark-lawful m.RightParen) (λ t e. refl)) (λ t e. refl)) (λ t e. refl))

sizeof_outside : (t : Token) → is_kind kinds.Sizeof t ≡ false → size_of.starts t ≡ false
unfolding size_of word
sizeof_outside (token.Word k.Sizeof) e = absurd (true≢false e)
sizeof_outside (token.Word _) e = refl
sizeof_outside _ e = refl

any_sizeof-lawful : Lawful (of_kind kinds.Sizeof size_of)
unfolding size_of word mark name
any_sizeof-lawful = sealed-lawful (is_kind kinds.Sizeof) is_tail size_of size_of-lawful refl sizeof_outside (λ t e. refl)

pub record IsIndex (at : Rule Expression) : Type 0 where
  pub lawful : Lawful at
  pub full : at.empty ≡ false
  pub closes : (t : Token) → (mark m.RightParen).starts t ≡ true → (at.starts t ≡ false) × (at.goes_on t ≡ false)

module _ (at : Rule Expression) (ia : IsIndex at) where
  pub exists-lawful : Lawful (exists_rule at)
  unfolding exists_rule word mark name
  exists-lawful =
      mapped
      (before (word-lawful k.Exists)
      (before (mark-lawful m.LeftParen) (after (then name-lawful (optional-lawful at ia.lawful ia.full) (λ t e. refl)) (mark-lawful m.RightParen) (λ t e. let c = ia.closes t e in rw (c.0, c.1) refl)) (λ t e. refl))
      (λ t e. refl))

  exists_outside : (t : Token) → is_kind kinds.Exists t ≡ false → (exists_rule at).starts t ≡ false
  unfolding exists_rule word
  exists_outside (token.Word k.Exists) e = absurd (true≢false e)
  exists_outside (token.Word _) e = refl
  exists_outside _ e = refl

  pub any_exists-lawful : Lawful (of_kind kinds.Exists (exists_rule at))
  unfolding exists_rule word mark name
  any_exists-lawful = sealed-lawful (is_kind kinds.Exists) is_tail (exists_rule at) exists-lawful refl exists_outside (λ t e. refl)

-- ---- operands with parts

module _ (d : ℕ) (li : (p : GrammarPlace) (l : ℕ) → Lawful (expression_within d p l)) where
  abbrev pub inner : Inner
  inner p l = expression_within d p l

  close_bracket : (p : GrammarPlace) (t : Token) → (mark m.RightBracket).starts t ≡ true → continues p 0 t ≡ false
  unfolding mark
  close_bracket p (token.Mark m.RightBracket) e = refl
  close_bracket p (token.Mark _) e = absurd (false≢true e)
  close_bracket p _ e = absurd (false≢true e)

  close_paren : (p : GrammarPlace) (t : Token) → (mark m.RightParen).starts t ≡ true → continues p 0 t ≡ false
  unfolding mark
  close_paren p (token.Mark m.RightParen) e = refl
  close_paren p (token.Mark _) e = absurd (false≢true e)
  close_paren p _ e = absurd (false≢true e)

  comma : (p : GrammarPlace) (t : Token) → (mark m.Comma).starts t ≡ true → continues p 0 t ≡ false
  unfolding mark
  comma p (token.Mark m.Comma) e = refl
  comma p (token.Mark _) e = absurd (false≢true e)
  comma p _ e = absurd (false≢true e)

  colon : (p : GrammarPlace) (t : Token) → (mark m.Colon).starts t ≡ true → continues p 0 t ≡ false
  unfolding mark
  colon p (token.Mark m.Colon) e = refl
  colon p (token.Mark _) e = absurd (false≢true e)
  colon p _ e = absurd (false≢true e)

  pub brackets-lawful : (p : GrammarPlace) → Lawful (brackets (expression_within d p 0))
  unfolding brackets mark
  brackets-lawful p = before (mark-lawful m.LeftBracket) (after (li p 0) (mark-lawful m.RightBracket) (close_bracket p)) (λ t e. refl)

  pub element-lawful : (p : GrammarPlace) → Lawful (element (expression_within d p 0))
  unfolding element brackets mark
  element-lawful p = mapped (then (brackets-lawful p) (before (mark-lawful m.Dot) name-lawful (λ t e. refl)) (λ t e. refl))

  element_apart : (p : GrammarPlace) (t : Token) → (element (expression_within d p 0)).starts t ≡ true → member.starts t ≡ false
  unfolding element brackets member mark
  element_apart p (token.Mark m.LeftBracket) e = refl
  element_apart p (token.Mark _) e = absurd (false≢true e)
  element_apart p _ e = absurd (false≢true e)

  tail_outside : (p : GrammarPlace) (t : Token) → begins_tail t ≡ false → (either member (element (expression_within d p 0))).starts t ≡ false
  unfolding element brackets member mark
  tail_outside p (token.Mark m.Dot) e = absurd (true≢false e)
  tail_outside p (token.Mark m.LeftBracket) e = absurd (true≢false e)
  tail_outside p (token.Mark _) e = refl
  tail_outside p _ e = refl

  pub tail-lawful : (p : GrammarPlace) → Lawful (tail (expression_within d p 0))
  unfolding tail element brackets member mark name
  tail-lawful p =
      sealed-lawful begins_tail nothing (either member (element (expression_within d p 0)))
      (either-lawful member (element (expression_within d p 0)) member-lawful (element-lawful p) refl refl (element_apart p)) refl (tail_outside p) (λ t e. refl)

  pub pair-lawful : Lawful (pair (expression_within d place.Anywhere 0))
  unfolding pair mark
  pair-lawful =
      mapped
      (before (mark-lawful m.LeftParen)
      (then (li place.Anywhere 0) (before (mark-lawful m.Comma) (after (li place.Anywhere 0) (mark-lawful m.RightParen) (close_paren place.Anywhere)) (λ t e. refl)) (λ t e. comma place.Anywhere t (or_none _ e)))
      (λ t e. refl))

  pair_apart : (p : GrammarPlace) (t : Token) → (made choice_tails.Plain (tail (expression_within d p 0))).starts t ≡ true → (pair (expression_within d place.Anywhere 0)).starts t ≡ false
  unfolding pair tail mark
  pair_apart p (token.Mark m.LeftParen) e = absurd (false≢true e)
  pair_apart p (token.Mark _) e = refl
  pair_apart p _ e = refl

  choice_outside : (p : GrammarPlace) (t : Token) → is_tail t ≡ false → (either (pair (expression_within d place.Anywhere 0)) (made choice_tails.Plain (tail (expression_within d p 0)))).starts t ≡ false
  unfolding pair tail mark
  choice_outside p t e = rw (no_paren t e, no_tail t e) refl

  pub choice_tail-lawful : (p : GrammarPlace) → Lawful (choice_tail inner p)
  unfolding choice_tail pair tail mark
  choice_tail-lawful p =
      sealed-lawful is_tail nothing (either (pair (expression_within d place.Anywhere 0)) (made choice_tails.Plain (tail (expression_within d p 0))))
      (either-lawful (pair (expression_within d place.Anywhere 0)) (made choice_tails.Plain (tail (expression_within d p 0))) pair-lawful (mapped (tail-lawful p)) refl refl (pair_apart p)) refl (choice_outside p) (λ t e. refl)

  pub named-lawful : (p : GrammarPlace) → Lawful (named inner p)
  unfolding named tail
  named-lawful p = mapped (then (token-lawful plain_name_of) (optional-lawful (tail (expression_within d p 0)) (tail-lawful p) refl) (λ t e. refl))

  named_outside : (p : GrammarPlace) (t : Token) → is_kind kinds.Named t ≡ false → (named inner p).starts t ≡ false
  unfolding named
  named_outside p (token.Name text) e = go (choice_named text) e
    where
      go : (o : Option Choice) → same_kind kinds.Named (kind_of_name o) ≡ false → is_some (unless_choice o text) || false ≡ false
      go None e = e
      go (Some c) e = refl
  named_outside p _ e = refl

  named_ends : (p : GrammarPlace) (t : Token) → is_tail t ≡ false → (named inner p).goes_on t ≡ false
  unfolding named tail
  named_ends p t e = rw (no_tail t e) refl

  pub chosen-lawful : (p : GrammarPlace) → Lawful (chosen inner p)
  unfolding chosen choice_tail
  chosen-lawful p = mapped (then (token-lawful choice_of) (optional-lawful (choice_tail inner p) (choice_tail-lawful p) refl) (λ t e. refl))

  chosen_outside : (p : GrammarPlace) (t : Token) → is_kind kinds.Chosen t ≡ false → (chosen inner p).starts t ≡ false
  unfolding chosen
  chosen_outside p (token.Name text) e = go (choice_named text) e
    where
      go : (o : Option Choice) → same_kind kinds.Chosen (kind_of_name o) ≡ false → is_some o || false ≡ false
      go None e = refl
      go (Some c) e = e
  chosen_outside p _ e = refl

  chosen_ends : (p : GrammarPlace) (t : Token) → is_tail t ≡ false → (chosen inner p).goes_on t ≡ false
  unfolding chosen choice_tail
  chosen_ends p t e = rw e refl

  pub group-lawful : Lawful (group inner)
  unfolding group mark
  group-lawful = mapped (before (mark-lawful m.LeftParen) (after (li place.Anywhere 0) (mark-lawful m.RightParen) (close_paren place.Anywhere)) (λ t e. refl))

  group_outside : (t : Token) → is_kind kinds.Group t ≡ false → (group inner).starts t ≡ false
  unfolding group mark
  group_outside (token.Mark m.LeftParen) e = absurd (true≢false e)
  group_outside (token.Mark _) e = refl
  group_outside _ e = refl

  pub signed-lawful : (p : GrammarPlace) → Lawful (signed inner p)
  unfolding signed
  signed-lawful p = mapped (then (token-lawful sign_of) (li p 12) (λ t e. refl))

  signed_outside : (p : GrammarPlace) (t : Token) → is_kind kinds.Signed t ≡ false → (signed inner p).starts t ≡ false
  unfolding signed
  signed_outside p (token.Mark m.Minus) e = absurd (true≢false e)
  signed_outside p (token.Mark m.Bang) e = absurd (true≢false e)
  signed_outside p (token.Mark m.Tilde) e = absurd (true≢false e)
  signed_outside p (token.Mark _) e = refl
  signed_outside p _ e = refl

  signed_ends : (p : GrammarPlace) (t : Token) → is_tail t ≡ false → (signed inner p).goes_on t ≡ false
  unfolding signed
  signed_ends p t e = rw (continues_last p t e) refl

  any_group-lawful : Lawful (of_kind kinds.Group (group inner))
  unfolding group mark
  any_group-lawful = sealed-lawful (is_kind kinds.Group) is_tail (group inner) group-lawful refl group_outside (λ t e. refl)

  any_signed-lawful : (p : GrammarPlace) → Lawful (of_kind kinds.Signed (signed inner p))
  unfolding signed
  any_signed-lawful p = sealed-lawful (is_kind kinds.Signed) is_tail (signed inner p) (signed-lawful p) refl (signed_outside p) (signed_ends p)

  any_named-lawful : (p : GrammarPlace) → Lawful (of_kind kinds.Named (named inner p))
  unfolding named
  any_named-lawful p = sealed-lawful (is_kind kinds.Named) is_tail (named inner p) (named-lawful p) refl (named_outside p) (named_ends p)

  any_chosen-lawful : (p : GrammarPlace) → Lawful (of_kind kinds.Chosen (chosen inner p))
  unfolding chosen
  any_chosen-lawful p = sealed-lawful (is_kind kinds.Chosen) is_tail (chosen inner p) (chosen-lawful p) refl (chosen_outside p) (chosen_ends p)

  -- ---- steps

  pub question-lawful : (p : GrammarPlace) → Lawful (conditional_step inner p)
  unfolding conditional_step mark
  question-lawful p = mapped (before (mark-lawful m.Question) (then (li p 0) (before (mark-lawful m.Colon) (li p 1) (λ t e. refl)) (λ t e. colon p t (or_none _ e))) (λ t e. refl))

  pub binary-lawful : (p : GrammarPlace) (l : ℕ) → Lawful (binary_step inner p l)
  unfolding binary_step operator
  binary-lawful p l = mapped (then (token-lawful (λ t. at_level l (operator_in p t))) (li p (right_level l)) (λ t e. refl))

  pub step-lawful : (p : GrammarPlace) (l : ℕ) → Lawful (step inner p l)
  step-lawful p zero = question-lawful p
  step-lawful p (suc l) = binary-lawful p (suc l)

  pub step-full : (p : GrammarPlace) (l : ℕ) → (step inner p l).empty ≡ false
  unfolding conditional_step binary_step operator mark
  step-full p zero = refl
  step-full p (suc l) = refl

  step_ends : (p : GrammarPlace) (l : ℕ) (u : Token) → continues p (right_level l) u ≡ false → (step inner p l).goes_on u ≡ false
  unfolding conditional_step binary_step operator mark
  step_ends p zero u e = rw e refl
  step_ends p (suc l) u e = rw e refl

  -- what a step makes is as tight as the step
  step_tight : (p : GrammarPlace) (x : Expression) (l : ℕ) (f : List Token) (t : ChainStep) → (step inner p l).Is f t → tightness (put x t) ≡ l
  unfolding conditional_step binary_step operator
  step_tight p x zero f t is = ap (λ (s : ChainStep). tightness (put x s)) is.2 ∙ tight_conditional x is.0.0 is.0.1
  step_tight p x (suc l) f t is =
      let pair = is.1 in
      let single = pair.3 in
      ap (λ (s : ChainStep). tightness (put x s)) is.2 ∙ tight_binary is.0.0 x is.0.1 ∙ (at_rank (suc l) (operator_in p single.0) is.0.0 single.2).1

  pub step_begun : (p : GrammarPlace) (deepest least : ℕ) (x : Expression) (l : ℕ) (u v : Token) (more : List Token) (t : ChainStep) → follows p deepest least x u ≡ Some l → (step inner p l).Is (v ∷ more) t → follows p deepest least x v ≡ Some l
  unfolding conditional_step binary_step operator mark
  step_begun p deepest least x zero u v more t e is = allowed_also p deepest least x u v 0 e (let single = is.1.1.3 in question_rank p v (ap (is_mark m.Question) (sym (first_of v single.0 more is.1.1.0 is.1.1.1 is.1.1.2 single.1)) ∙ single.2))
  step_begun p deepest least x (suc l) u v more t e is = allowed_also p deepest least x u v (suc l) e (let single = is.1.3 in operator_rank p v (suc l) is.0.0 (ap (λ (w : Token). at_level (suc l) (operator_in p w)) (sym (first_of v single.0 more is.1.0 is.1.1 is.1.2 single.1)) ∙ single.2))

  -- ---- operands

  module _ (at : Rule Expression) (ia : IsIndex at) (p : GrammarPlace) where
    abbrev pub from_scoped : Rule Expression
    from_scoped = either (of_kind kinds.Scoped scoped) any_literal

    abbrev pub from_named : Rule Expression
    from_named = either (of_kind kinds.Named (named inner p)) from_scoped

    abbrev pub from_chosen : Rule Expression
    from_chosen = either (of_kind kinds.Chosen (chosen inner p)) from_named

    abbrev pub from_exists : Rule Expression
    from_exists = either (of_kind kinds.Exists (exists_rule at)) from_chosen

    abbrev pub from_sizeof : Rule Expression
    from_sizeof = either (of_kind kinds.Sizeof size_of) from_exists

    abbrev pub from_parent : Rule Expression
    from_parent = either (of_kind kinds.ParentIndex parent_index) from_sizeof

    abbrev pub from_index : Rule Expression
    from_index = either (of_kind kinds.Index index) from_parent

    abbrev pub from_signed : Rule Expression
    from_signed = either (of_kind kinds.Signed (signed inner p)) from_index

    from_scoped-lawful : Lawful from_scoped
    from_scoped-lawful = either-lawful (of_kind kinds.Scoped scoped) any_literal any_scoped-lawful any_literal-lawful refl refl (λ t e. scoped_apart (kind_of t) (is_literal t) (literal_other t) e)

    from_named-lawful : Lawful from_named
    from_named-lawful = either-lawful (of_kind kinds.Named (named inner p)) from_scoped (any_named-lawful p) from_scoped-lawful refl refl (λ t e. named_apart (kind_of t) (is_literal t) (literal_other t) e)

    from_chosen-lawful : Lawful from_chosen
    from_chosen-lawful = either-lawful (of_kind kinds.Chosen (chosen inner p)) from_named (any_chosen-lawful p) from_named-lawful refl refl (λ t e. chosen_apart (kind_of t) (is_literal t) (literal_other t) e)

    from_exists-lawful : Lawful from_exists
    from_exists-lawful = either-lawful (of_kind kinds.Exists (exists_rule at)) from_chosen (any_exists-lawful at ia) from_chosen-lawful refl refl (λ t e. exists_apart (kind_of t) (is_literal t) (literal_other t) e)

    from_sizeof-lawful : Lawful from_sizeof
    from_sizeof-lawful = either-lawful (of_kind kinds.Sizeof size_of) from_exists any_sizeof-lawful from_exists-lawful refl refl (λ t e. sizeof_apart (kind_of t) (is_literal t) (literal_other t) e)

    from_parent-lawful : Lawful from_parent
    from_parent-lawful = either-lawful (of_kind kinds.ParentIndex parent_index) from_sizeof any_parent-lawful from_sizeof-lawful refl refl (λ t e. parent_apart (kind_of t) (is_literal t) (literal_other t) e)

    from_index-lawful : Lawful from_index
    from_index-lawful = either-lawful (of_kind kinds.Index index) from_parent any_index-lawful from_parent-lawful refl refl (λ t e. index_apart (kind_of t) (is_literal t) (literal_other t) e)

    from_signed-lawful : Lawful from_signed
    from_signed-lawful = either-lawful (of_kind kinds.Signed (signed inner p)) from_index (any_signed-lawful p) from_index-lawful refl refl (λ t e. signed_apart (kind_of t) (is_literal t) (literal_other t) e)

    pub operand-lawful : Lawful (operand inner at p)
    unfolding operand
    operand-lawful = either-lawful (of_kind kinds.Group (group inner)) from_signed any_group-lawful from_signed-lawful refl refl (λ t e. group_apart (kind_of t) (is_literal t) (literal_other t) e)

    pub operand-full : (operand inner at p).empty ≡ false
    unfolding operand
    operand-full = refl

    operand_outside : (t : Token) → begins_expression t ≡ false → (operand inner at p).starts t ≡ false
    unfolding operand
    operand_outside t e = let n = no_kind t e in rw (n.0, n.1) refl

    -- after an operand goes on only what may stand after a name
    operand_ends : (t : Token) → is_tail t ≡ false → (operand inner at p).goes_on t ≡ false
    unfolding operand
    operand_ends t e = rw e refl

    pub chain-lawful : (least : ℕ) → Lawful (grown (operand inner at p) (follows p (suc d) least) (step inner p) put (continues p least))
    chain-lawful least = grown-lawful (operand inner at p) (follows p (suc d) least) (step inner p) put (continues p least) operand-lawful (step-lawful p) operand-full (step-full p)
        (λ x u l e. operand_ends u (rank_no_tail p u l (allowed_by p (suc d) least x u l e).ranked))
        (λ x f l j t u e is on.
        let a = allowed_by p (suc d) least (put x t) u j on in
        step_ends p l u (ends_before p (right_level l) u j a.ranked (left_right j l (subst (λ (i : ℕ). left_level j ≤ i) (step_tight p x l f t is) a.fits) (next_small p (suc d) least x f l e))))
        (λ u e. operand_ends u (or_left (is_tail u) (reaches least (rank p u)) e))
        (λ x f l u e off. step_ends p l u (continues_up p least (right_level l) u (next_above p (suc d) least x f l e) off))
        (λ x u off. ends_all p (suc d) least x u off)

-- ---- depth by depth

atom_outside : (t : Token) → begins_expression t ≡ false → atom.starts t ≡ false
unfolding atom
atom_outside t e = let n = no_kind t e in rw (n.0, n.1) refl

atom_ends : (t : Token) → is_tail t ≡ false → atom.goes_on t ≡ false
unfolding atom
atom_ends t e = rw e refl

abbrev pub AllLawful : ℕ → Type 0
AllLawful d = (p : GrammarPlace) (l : ℕ) → Lawful (expression_within d p l)

never_closes : (t : Token) → (mark m.RightParen).starts t ≡ true → ((one_token {X = Expression} never).starts t ≡ false) × ((one_token {X = Expression} never).goes_on t ≡ false)
never_closes t e = (refl, refl)

bracket_closes : (d : ℕ) (t : Token) → (mark m.RightParen).starts t ≡ true → ((brackets (expression_within d place.Anywhere 0)).starts t ≡ false) × ((brackets (expression_within d place.Anywhere 0)).goes_on t ≡ false)
unfolding brackets mark
bracket_closes d (token.Mark m.RightParen) h = (refl, refl)
bracket_closes d (token.Mark _) h = absurd (false≢true h)
bracket_closes d _ h = absurd (false≢true h)

pub first-lawful : AllLawful zero
unfolding deep atom
first-lawful p l = sealed-lawful begins_expression (continues p l) atom atom-lawful refl atom_outside (λ t e. atom_ends t (or_left (is_tail t) (reaches l (rank p t)) e))

pub next-lawful : (d : ℕ) → AllLawful d → IsIndex (element_index d) → AllLawful (suc d)
unfolding deep
next-lawful d li at p l = sealed-lawful begins_expression (continues p l) (deep (suc d) p l) (chain-lawful d li (element_index d) at p l) refl (operand_outside d li (element_index d) at p) (λ t e. e)

first-index : IsIndex (element_index zero)
unfolding deep
first-index = record { lawful = token-lawful never; full = refl; closes = never_closes }

next-index : (d : ℕ) → AllLawful d → IsIndex (element_index (suc d))
unfolding deep brackets mark
next-index d li = record { lawful = brackets-lawful d li place.Anywhere; full = refl; closes = bracket_closes d }

pub laws : (d : ℕ) → AllLawful d × IsIndex (element_index d)
laws zero = (first-lawful, first-index)
laws (suc d) = let h = laws d in (next-lawful d h.0 h.1, next-index d h.0)

pub within-lawful : (d : ℕ) (p : GrammarPlace) (l : ℕ) → Lawful (expression_within d p l)
within-lawful d = (laws d).0

pub expression-lawful : Lawful expression
unfolding expression
expression-lawful = within-lawful max_depth place.Anywhere 0

pub angle_expression-lawful : Lawful angle_expression
unfolding angle_expression
angle_expression-lawful = within-lawful max_depth place.Angles 0

angle_close : (t : Token) → (mark m.Greater).starts t ≡ true → angle_expression.goes_on t ≡ false
unfolding mark angle_expression
angle_close (token.Mark m.Greater) e = refl
angle_close (token.Mark _) e = absurd (false≢true e)
angle_close _ e = absurd (false≢true e)

pub angled-lawful : Lawful angled
unfolding angled mark
angled-lawful = before (mark-lawful m.Less) (after angle_expression-lawful (mark-lawful m.Greater) angle_close) (λ t e. refl)

-- ---- as the loop of the code reads

abbrev pub Remaining : ℕ → GrammarPlace → ℕ → Expression → List Token → Reading Expression → Type 0
Remaining d p least x ts total = Left (follows p (suc d) least) (λ l. (step (expression_within d) p l).read) put x ts total

module _ (d : ℕ) (p : GrammarPlace) (least : ℕ) where
  abbrev pub base : Rule Expression
  base = operand (expression_within d) (element_index d) p

  pub base-lawful : Lawful base
  base-lawful = let h = laws d in operand-lawful d h.0 (element_index d) h.1 p

  pub base-full : base.empty ≡ false
  base-full = let h = laws d in operand-full d h.0 (element_index d) h.1 p

  pub steps-lawful : (l : ℕ) → Lawful (step (expression_within d) p l)
  steps-lawful = step-lawful d (within-lawful d) p

  pub steps-full : (l : ℕ) → (step (expression_within d) p l).empty ≡ false
  steps-full = step-full d (within-lawful d) p

  pub chain_begins : (ts : List Token) (x : Expression) (after : List Token) → base.read ts ≡ Ok (x, after) → Remaining d p least x after ((expression_within (suc d) p least).read ts)
  unfolding deep
  chain_begins ts x after e = loop_begins base (follows p (suc d) least) (step (expression_within d) p) put (continues p least) base-lawful steps-lawful base-full steps-full ts x after e

  pub chain_first_fails : (e : Refusal) (ts : List Token) → Fails e (base.read ts) → Fails e ((expression_within (suc d) p least).read ts)
  unfolding deep
  chain_first_fails e ts h = loop_first_fails base (follows p (suc d) least) (step (expression_within d) p) put (continues p least) base-lawful steps-lawful base-full steps-full e ts h

  -- the code writes `d + 1`
  plus : (x : Expression) (ts : List Token) (o : Option ℕ) → next (follows p (d + 1) least) x ts ≡ o → next (follows p (suc d) least) x ts ≡ o
  plus x ts o e = let same : d + 1 ≡ suc d = omega arith in subst (λ (n : ℕ). next (follows p n least) x ts ≡ o) same e

  pub chain_goes_on : (x : Expression) (ts : List Token) (l : ℕ) (t : ChainStep) (after : List Token) (total : Reading Expression) → next (follows p (d + 1) least) x ts ≡ Some l → (step (expression_within d) p l).read ts ≡ Ok (t, after) → Remaining d p least x ts total → Remaining d p least (put x t) after total
  chain_goes_on x ts l t after total e = loop_goes_on base (follows p (suc d) least) (step (expression_within d) p) put (continues p least) base-lawful steps-lawful base-full steps-full x ts l t after total (plus x ts (Some l) e)

  pub chain_fails : (e : Refusal) (x : Expression) (ts : List Token) (l : ℕ) (total : Reading Expression) → next (follows p (d + 1) least) x ts ≡ Some l → Fails e ((step (expression_within d) p l).read ts) → Remaining d p least x ts total → Fails e total
  chain_fails r x ts l total e = loop_fails base (follows p (suc d) least) (step (expression_within d) p) put (continues p least) base-lawful steps-lawful base-full steps-full r x ts l total (plus x ts (Some l) e)

  pub chain_ends : (x : Expression) (ts : List Token) (total : Reading Expression) → next (follows p (d + 1) least) x ts ≡ None → Remaining d p least x ts total → total ≡ Ok (x, ts)
  chain_ends x ts total e = loop_ends base (follows p (suc d) least) (step (expression_within d) p) put (continues p least) base-lawful steps-lawful base-full steps-full x ts total (plus x ts None e)

  pub chain_shorter : (ts : List Token) (l : ℕ) (t : ChainStep) (after : List Token) → (step (expression_within d) p l).read ts ≡ Ok (t, after) → length after < length ts
  chain_shorter ts l t after e = shorter (step (expression_within d) p l) (steps-lawful l) (steps-full l) ts t after e

pub within-step : (d : ℕ) (p : GrammarPlace) (least : ℕ) → 0 < d → expression_within d p least ≡ expression_within (suc (d - 1)) p least
within-step zero p least h = absurd (omega (arith, h))
within-step (suc d) p least h = let e : suc d - 1 ≡ d = omega arith in ap (λ (n : ℕ). expression_within (suc n) p least) (sym e)

pub within-none : (d : ℕ) (p : GrammarPlace) (least : ℕ) (ts : List Token) → d ≡ 0 → (expression_within d p least).read ts ≡ atom.read ts
unfolding deep
within-none zero p least ts h = refl
within-none (suc d) p least ts h = absurd (omega (arith, h))

pub index-step : (d : ℕ) → 0 < d → element_index d ≡ brackets (expression_within (d - 1) place.Anywhere 0)
unfolding deep
index-step zero h = absurd (omega (arith, h))
index-step (suc d) h = let e : suc d - 1 ≡ d = omega arith in ap (λ (n : ℕ). brackets (expression_within n place.Anywhere 0)) (sym e)

pub index-none : (d : ℕ) (ts : List Token) → d ≡ 0 → (optional (element_index d)).read ts ≡ Ok (None, ts)
unfolding deep
index-none zero [] h = refl
index-none zero (t ∷ ts) h = refl
index-none (suc d) ts h = absurd (omega (arith, h))

pub step-zero : (d : ℕ) (p : GrammarPlace) (l : ℕ) → l ≡ 0 → step (expression_within d) p l ≡ conditional_step (expression_within d) p
step-zero d p zero h = refl
step-zero d p (suc l) h = absurd (omega (arith, h))

pub step-more : (d : ℕ) (p : GrammarPlace) (l : ℕ) → 0 < l → step (expression_within d) p l ≡ binary_step (expression_within d) p l
step-more d p zero h = absurd (omega (arith, h))
step-more d p (suc l) h = refl
