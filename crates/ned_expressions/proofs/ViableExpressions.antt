-- The tokens before the first that can't go on begin some expression, at each depth.
use Rattle.std.proofs.Common.{◌≡◌, ℕ, zero, suc, Bool, true, false, cond, Option, Some, None, refl}
use Rattle.std.specs.Prelude.{codes, ◌==◌}
use Rattle.std.proofs.lemmas.Bool.{eqb-false}
use Rattle.ned_tokens.specs.declared.token.Keyword.TheVariants as k
use Rattle.ned_tokens.specs.declared.token.Mark.TheVariants as m
use Rattle.ned_tokens.specs.declared.token.Token.{Token}
use Rattle.ned_tokens.specs.declared.token.Token.TheVariants as token
use Rattle.ned_tokens.specs.Rule.{Rule, made, either, optional, sealed}
use Rattle.ned_tokens.proofs.Laws.{token-lawful, optional-lawful, then}
use Rattle.ned_tokens.proofs.ViableLaws.{Viable, token-viable, either-viable, optional-viable, then_on, before_on, after_on, mapped_on}
use Rattle.ned_tokens.proofs.GrowthLaws.{grown-viable, sealed-viable, never-viable}
use Rattle.ned_leaves.specs.Grammar.{is_mark, name}
use Rattle.ned_leaves.proofs.GrammarLaws.{word-lawful, mark-lawful, name-lawful}
use Rattle.ned_leaves.proofs.ViableGrammar.{word_on, mark_on, letter, name_on, plain_literal_on}
use Rattle.ned_trees.specs.declared.expressions.Expression.{Expression}
use Rattle.ned_trees.specs.declared.expressions.Operator.{Operator}
use Rattle.ned_trees.specs.declared.expressions.Choice.TheVariants as choices
use Rattle.ned_trees.specs.declared.expressions.Scope.TheVariants as scopes
use Rattle.ned_trees.specs.declared.expressions.Sign.TheVariants as signs
use Rattle.ned_expressions.specs.declared.atoms.Kind.{Kind}
use Rattle.ned_expressions.specs.declared.atoms.Kind.TheVariants as kinds
use Rattle.ned_expressions.specs.declared.levels.GrammarPlace.{GrammarPlace}
use Rattle.ned_expressions.specs.declared.levels.GrammarPlace.TheVariants as place
use Rattle.ned_expressions.specs.declared.operands.ChoiceTail.TheVariants as choice_tails
use Rattle.ned_expressions.specs.Grammar.{operator_in, level_of, level_in, right_level, or_level, rank, at_level, operator, Inner, is_kind, is_named, is_literal, is_tail, begins_tail, nothing, literal, scope_of, scoped, brackets, member, element, tail, pair, choice_tail, choice_of, plain_name_of, flat_named, named, chosen, no_arguments, flat_index, index, parent_index, size_of, exists_rule, group, sign_of, signed, of_kind, any_literal, operand, atom, conditional_step, binary_step, step, put, follows, begins_expression, continues, deep, element_index, expression_within, max_depth, expression, angle_expression, angled}
use Rattle.ned_expressions.proofs.LevelLaws.{allowed_by}
use Rattle.ned_expressions.proofs.ExpressionLaws as laws

-- ---- operands without depth

of_kind_on : (x : Kind) {r : Rule Expression} → Viable r → Viable (of_kind x r)
of_kind_on x {r = r} vr = sealed-viable (is_kind x) is_tail r vr

any_literal_on : Viable any_literal
unfolding literal
any_literal_on = sealed-viable is_literal is_tail literal (mapped_on plain_literal_on)

scoped_on : Viable scoped
unfolding scoped
scoped_on = mapped_on (then_on (token-lawful scope_of) (token-viable scope_of (token.Word k.This) scopes.This refl) (before_on (mark-lawful m.Dot) (mark_on m.Dot refl) name_on))

member_on : Viable member
unfolding member
member_on = mapped_on (before_on (mark-lawful m.Dot) (mark_on m.Dot refl) name_on)

flat_named_on : Viable flat_named
unfolding flat_named
flat_named_on = mapped_on (then_on name-lawful name_on (optional-viable member member_on))

flat_index_on : Viable flat_index
unfolding flat_index
flat_index_on = mapped_on (word_on k.Index refl)

atom_on : Viable atom
unfolding atom
atom_on =
    either-viable (of_kind kinds.Index flat_index) (either (sealed is_named is_tail flat_named) (either (of_kind kinds.Scoped scoped) any_literal)) (of_kind_on kinds.Index flat_index_on)
    (either-viable (sealed is_named is_tail flat_named) (either (of_kind kinds.Scoped scoped) any_literal) (sealed-viable is_named is_tail flat_named flat_named_on)
    (either-viable (of_kind kinds.Scoped scoped) any_literal (of_kind_on kinds.Scoped scoped_on) any_literal_on))

-- ---- calls

no_arguments_on : Viable no_arguments
unfolding no_arguments
no_arguments_on = before_on (mark-lawful m.LeftParen) (mark_on m.LeftParen refl) (mark_on m.RightParen refl)

index_on : Viable index
unfolding index
index_on = mapped_on (before_on (word-lawful k.Index) (word_on k.Index refl) (optional-viable no_arguments no_arguments_on))

parent_index_on : Viable parent_index
unfolding parent_index
parent_index_on = mapped_on (before_on (word-lawful k.ParentIndex) (word_on k.ParentIndex refl) no_arguments_on)

size_of_on : Viable size_of
unfolding size_of
size_of_on = mapped_on (before_on (word-lawful k.Sizeof) (word_on k.Sizeof refl) (before_on (mark-lawful m.LeftParen) (mark_on m.LeftParen refl) (after_on name-lawful name_on (mark_on m.RightParen refl))))

exists_on : (at : Rule Expression) → laws.IsIndex at → Viable (optional at) → Viable (exists_rule at)
unfolding exists_rule name
exists_on at ia va =
    mapped_on
    (before_on (word-lawful k.Exists) (word_on k.Exists refl)
    (before_on (mark-lawful m.LeftParen) (mark_on m.LeftParen refl) (after_on (then name-lawful (optional-lawful at ia.lawful ia.full) (λ t e. refl)) (then_on name-lawful name_on va) (mark_on m.RightParen refl))))

-- ---- an operator of the level that a token has

op_of_level : (l : ℕ) (o : Option Operator) → level_in o ≡ Some l → (found : Operator) × (at_level l o ≡ Some found)
op_of_level l None e = absurd cc
op_of_level l (Some o) e = (o, go (level_of o == l) refl)
  where
    go : (b : Bool) → (level_of o == l) ≡ b → cond b (Some o) None ≡ Some o
    go true h = refl
    go false h = let same : level_of o ≡ l = cc in absurd (eqb-false (level_of o) l h same)

op_of_rank : (p : GrammarPlace) (u : Token) (l : ℕ) → rank p u ≡ Some (suc l) → (found : Operator) × (at_level (suc l) (operator_in p u) ≡ Some found)
op_of_rank p u l e = go (is_mark m.Question u) e
  where
    go : (q : Option (Unit {0})) → or_level q (level_in (operator_in p u)) ≡ Some (suc l) → (found : Operator) × (at_level (suc l) (operator_in p u) ≡ Some found)
    go None e = op_of_level (suc l) (operator_in p u) e
    go (Some x) e = absurd cc

-- ---- operands and steps, a depth down

module _ (d : ℕ) (li : laws.AllLawful d) (vi : (p : GrammarPlace) (l : ℕ) → Viable (expression_within d p l)) where
  abbrev inner : Inner
  inner p l = expression_within d p l

  pub brackets_on : (p : GrammarPlace) → Viable (brackets (expression_within d p 0))
  unfolding brackets
  brackets_on p = before_on (mark-lawful m.LeftBracket) (mark_on m.LeftBracket refl) (after_on (li p 0) (vi p 0) (mark_on m.RightBracket refl))

  element_on : (p : GrammarPlace) → Viable (element (expression_within d p 0))
  unfolding element
  element_on p = mapped_on (then_on (laws.brackets-lawful d li p) (brackets_on p) (before_on (mark-lawful m.Dot) (mark_on m.Dot refl) name_on))

  tail_on : (p : GrammarPlace) → Viable (tail (expression_within d p 0))
  unfolding tail
  tail_on p = sealed-viable begins_tail nothing (either member (element (expression_within d p 0))) (either-viable member (element (expression_within d p 0)) member_on (element_on p))

  pair_on : Viable (pair (expression_within d place.Anywhere 0))
  unfolding pair
  pair_on =
      mapped_on
      (before_on (mark-lawful m.LeftParen) (mark_on m.LeftParen refl)
      (then_on (li place.Anywhere 0) (vi place.Anywhere 0) (before_on (mark-lawful m.Comma) (mark_on m.Comma refl) (after_on (li place.Anywhere 0) (vi place.Anywhere 0) (mark_on m.RightParen refl)))))

  choice_tail_on : (p : GrammarPlace) → Viable (choice_tail inner p)
  unfolding choice_tail
  choice_tail_on p =
      sealed-viable is_tail nothing (either (pair (expression_within d place.Anywhere 0)) (made choice_tails.Plain (tail (expression_within d p 0))))
      (either-viable (pair (expression_within d place.Anywhere 0)) (made choice_tails.Plain (tail (expression_within d p 0))) pair_on (mapped_on (tail_on p)))

  named_on : (p : GrammarPlace) → Viable (named inner p)
  unfolding named
  named_on p = mapped_on (then_on (token-lawful plain_name_of) (token-viable plain_name_of (token.Name letter) letter refl) (optional-viable (tail (expression_within d p 0)) (tail_on p)))

  chosen_on : (p : GrammarPlace) → Viable (chosen inner p)
  unfolding chosen
  chosen_on p = mapped_on (then_on (token-lawful choice_of) (token-viable choice_of (token.Name (codes "min")) choices.Min refl) (optional-viable (choice_tail inner p) (choice_tail_on p)))

  group_on : Viable (group inner)
  unfolding group
  group_on = mapped_on (before_on (mark-lawful m.LeftParen) (mark_on m.LeftParen refl) (after_on (li place.Anywhere 0) (vi place.Anywhere 0) (mark_on m.RightParen refl)))

  signed_on : (p : GrammarPlace) → Viable (signed inner p)
  unfolding signed
  signed_on p = mapped_on (then_on (token-lawful sign_of) (token-viable sign_of (token.Mark m.Minus) signs.Minus refl) (vi p 12))

  conditional_on : (p : GrammarPlace) → Viable (conditional_step inner p)
  unfolding conditional_step
  conditional_on p = mapped_on (before_on (mark-lawful m.Question) (mark_on m.Question refl) (then_on (li p 0) (vi p 0) (before_on (mark-lawful m.Colon) (mark_on m.Colon refl) (vi p 1))))

  binary_on : (p : GrammarPlace) (u : Token) (l : ℕ) → rank p u ≡ Some (suc l) → Viable (binary_step inner p (suc l))
  unfolding binary_step operator
  binary_on p u l e =
      let found = op_of_rank p u l e in
      mapped_on (then_on (token-lawful (λ t. at_level (suc l) (operator_in p t))) (token-viable (λ t. at_level (suc l) (operator_in p t)) u found.0 found.1) (vi p (right_level (suc l))))

  step_on : (p : GrammarPlace) (u : Token) (l : ℕ) → rank p u ≡ Some l → Viable (step inner p l)
  step_on p u zero e = conditional_on p
  step_on p u (suc l) e = binary_on p u l e

  module _ (at : laws.IsIndex (element_index d)) (va : Viable (optional (element_index d))) (p : GrammarPlace) where
    from_scoped_on : Viable (laws.from_scoped d li (element_index d) at p)
    from_scoped_on = either-viable (of_kind kinds.Scoped scoped) any_literal (of_kind_on kinds.Scoped scoped_on) any_literal_on

    from_named_on : Viable (laws.from_named d li (element_index d) at p)
    from_named_on = either-viable (of_kind kinds.Named (named inner p)) (laws.from_scoped d li (element_index d) at p) (of_kind_on kinds.Named (named_on p)) from_scoped_on

    from_chosen_on : Viable (laws.from_chosen d li (element_index d) at p)
    from_chosen_on = either-viable (of_kind kinds.Chosen (chosen inner p)) (laws.from_named d li (element_index d) at p) (of_kind_on kinds.Chosen (chosen_on p)) from_named_on

    from_exists_on : Viable (laws.from_exists d li (element_index d) at p)
    from_exists_on = either-viable (of_kind kinds.Exists (exists_rule (element_index d))) (laws.from_chosen d li (element_index d) at p) (of_kind_on kinds.Exists (exists_on (element_index d) at va)) from_chosen_on

    from_sizeof_on : Viable (laws.from_sizeof d li (element_index d) at p)
    from_sizeof_on = either-viable (of_kind kinds.Sizeof size_of) (laws.from_exists d li (element_index d) at p) (of_kind_on kinds.Sizeof size_of_on) from_exists_on

    from_parent_on : Viable (laws.from_parent d li (element_index d) at p)
    from_parent_on = either-viable (of_kind kinds.ParentIndex parent_index) (laws.from_sizeof d li (element_index d) at p) (of_kind_on kinds.ParentIndex parent_index_on) from_sizeof_on

    from_index_on : Viable (laws.from_index d li (element_index d) at p)
    from_index_on = either-viable (of_kind kinds.Index index) (laws.from_parent d li (element_index d) at p) (of_kind_on kinds.Index index_on) from_parent_on

    from_signed_on : Viable (laws.from_signed d li (element_index d) at p)
    from_signed_on = either-viable (of_kind kinds.Signed (signed inner p)) (laws.from_index d li (element_index d) at p) (of_kind_on kinds.Signed (signed_on p)) from_index_on

    operand_on : Viable (operand inner (element_index d) p)
    unfolding operand
    operand_on = either-viable (of_kind kinds.Group (group inner)) (laws.from_signed d li (element_index d) at p) (of_kind_on kinds.Group group_on) from_signed_on

    pub next_on : (l : ℕ) → Viable (expression_within (suc d) p l)
    unfolding deep
    next_on l = sealed-viable begins_expression (continues p l) (deep (suc d) p l)
        (grown-viable (operand inner (element_index d) p) (follows p (suc d) l) (step inner p) put (continues p l)
        (laws.operand-lawful d li (element_index d) at p) (laws.step-lawful d li p) (laws.operand-full d li (element_index d) at p) (laws.step-full d li p)
        operand_on (λ x u j e. step_on p u j (allowed_by p (suc d) l x u j e).ranked) (λ x j u v more t e is. laws.step_begun d li p (suc d) l x j u v more t e is))

-- ---- depth by depth

abbrev AllOn : ℕ → Type 0
AllOn d = (p : GrammarPlace) (l : ℕ) → Viable (expression_within d p l)

first_on : AllOn zero
unfolding deep
first_on p l = sealed-viable begins_expression (continues p l) atom atom_on

first_index_on : Viable (optional (element_index zero))
unfolding deep
first_index_on = never-viable

next_index_on : (d : ℕ) → AllOn d → Viable (optional (element_index (suc d)))
unfolding deep
next_index_on d vi = optional-viable (brackets (expression_within d place.Anywhere 0)) (brackets_on d (laws.within-lawful d) vi place.Anywhere)

all_on : (d : ℕ) → AllOn d × Viable (optional (element_index d))
all_on zero = (first_on, first_index_on)
all_on (suc d) = let h = all_on d in let known = laws.laws d in (next_on d known.0 h.0 known.1 h.1, next_index_on d h.0)

pub within_on : (d : ℕ) (p : GrammarPlace) (l : ℕ) → Viable (expression_within d p l)
within_on d = (all_on d).0

pub expression_on : Viable expression
unfolding expression
expression_on = within_on max_depth place.Anywhere 0

pub angle_expression_on : Viable angle_expression
unfolding angle_expression
angle_expression_on = within_on max_depth place.Angles 0

pub angled_on : Viable angled
unfolding angled
angled_on = before_on (mark-lawful m.Less) (mark_on m.Less refl) (after_on laws.angle_expression-lawful angle_expression_on (mark_on m.Greater refl))
