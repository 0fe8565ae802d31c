-- The levels of operators, and what may stand after what.
use Rattle.std.proofs.Common.{◌≡◌, ℕ, suc, ◌≤◌, ◌<◌, arith, Bool, true, false, cond, ◌&&◌, List, [], ◌∷◌, ◌++◌, Option, Some, None, refl, sym, ap, subst, ◌∙◌}
use Rattle.std.specs.Prelude.{nat_le, nat_lt, ◌==◌}
use Rattle.std.proofs.lemmas.Bool.{eqb-true, eqb-false, leb-true, le-leb, false≢true}
use Rattle.ned_tokens.specs.declared.token.Mark.TheVariants as m
use Rattle.ned_tokens.specs.declared.token.Token.{Token}
use Rattle.ned_tokens.specs.declared.token.Token.TheVariants as token
use Rattle.ned_tokens.specs.Growth.{next}
use Rattle.ned_tokens.proofs.Laws.{or_left, or_right}
use Rattle.ned_leaves.specs.Grammar.{is_mark}
use Rattle.ned_trees.specs.declared.expressions.Expression.{Expression, out-Expression}
use denote.Hole.Carrier.{out}
use Rattle.ned_trees.specs.declared.expressions.Expression.TheVariants as expr
use Rattle.ned_trees.specs.declared.expressions.Operator.{Operator}
use Rattle.ned_trees.specs.declared.expressions.Operator.TheVariants as op
use Rattle.ned_expressions.specs.declared.levels.GrammarPlace.{GrammarPlace}
use Rattle.ned_expressions.specs.Grammar.{operator_of, operator_in, level_of, level_in, left_level, right_level, rank, at_level, tightness, may, filtered, depth, or_level, follows, is_tail, reaches, continues}

-- ---- operators and their levels

op_small : (o : Operator) → level_of o < 12
op_small op.Or = omega arith
op_small _ = omega arith

pub rank_small : (p : GrammarPlace) (t : Token) (l : ℕ) → rank p t ≡ Some l → l < 12
rank_small p t l e = go (is_mark m.Question t) (operator_in p t) e
  where
    within : (o : Option Operator) → level_in o ≡ Some l → l < 12
    within None e = absurd cc
    within (Some o) e = let same : level_of o ≡ l = cc in omega (arith, same, op_small o)

    go : (q : Option (Unit {0})) (o : Option Operator) → or_level q (level_in o) ≡ Some l → l < 12
    go None o e = within o e
    go (Some u) o e = let same : 0 ≡ l = cc in omega (arith, same)

tail_no_question : (t : Token) → is_tail t ≡ true → is_mark m.Question t ≡ None
tail_no_question (token.Mark m.Question) e = absurd (false≢true e)
tail_no_question (token.Mark _) e = refl
tail_no_question _ e = refl

tail_no_operator : (t : Token) → is_tail t ≡ true → operator_of t ≡ None
tail_no_operator (token.Mark m.Dot) e = refl
tail_no_operator (token.Mark m.LeftBracket) e = refl
tail_no_operator (token.Mark m.LeftParen) e = refl
tail_no_operator (token.Mark _) e = absurd (false≢true e)
tail_no_operator _ e = absurd (false≢true e)

-- what may stand after a name is no operator
pub rank_no_tail : (p : GrammarPlace) (t : Token) (l : ℕ) → rank p t ≡ Some l → is_tail t ≡ false
rank_no_tail p t l e = go (is_tail t) refl
  where
    go : (b : Bool) → is_tail t ≡ b → b ≡ false
    go false h = refl
    go true h =
        let none : rank p t ≡ None = rw (tail_no_question t h, tail_no_operator t h) refl in
        absurd cc

pub at_rank : (l : ℕ) (o : Option Operator) (found : Operator) → at_level l o ≡ Some found → (o ≡ Some found) × (level_of found ≡ l)
at_rank l None found e = absurd cc
at_rank l (Some o) found e = go (level_of o == l) refl e
  where
    go : (b : Bool) → (level_of o == l) ≡ b → cond b (Some o) None ≡ Some found → (Some o ≡ Some found) × (level_of found ≡ l)
    go false h e = absurd cc
    go true h e = let same : o ≡ found = cc in (ap Some same, ap level_of (sym same) ∙ eqb-true (level_of o) l h)

no_question : (p : GrammarPlace) (t : Token) (o : Operator) → operator_in p t ≡ Some o → is_mark m.Question t ≡ None
no_question p (token.Mark m.Question) o e = absurd cc
no_question p (token.Mark _) o e = refl
no_question p _ o e = refl

pub operator_rank : (p : GrammarPlace) (t : Token) (l : ℕ) (o : Operator) → at_level l (operator_in p t) ≡ Some o → rank p t ≡ Some l
operator_rank p t l o e =
    let found = at_rank l (operator_in p t) o e in
    ap (λ (q : Option (Unit {0})). or_level q (level_in (operator_in p t))) (no_question p t o found.0) ∙ ap level_in found.0 ∙ ap Some found.1

pub question_rank : (p : GrammarPlace) (t : Token) → is_mark m.Question t ≡ Some tt → rank p t ≡ Some 0
question_rank p t e = ap (λ (q : Option (Unit {0})). or_level q (level_in (operator_in p t))) e

pub tight_binary : (o : Operator) (a b : Expression) → tightness (expr.Binary o a b) ≡ level_of o
unfolding out-Expression out
tight_binary o a b = refl

pub tight_conditional : (c a b : Expression) → tightness (expr.Conditional c a b) ≡ 0
unfolding out-Expression out
tight_conditional c a b = refl

-- the first token of what begins with one token
pub first_of : (v t : Token) (more front back : List Token) → v ∷ more ≡ front ++ back → front ≡ t ∷ [] → t ≡ v
first_of v t more front back e f = let h : v ∷ more ≡ t ∷ back = e ∙ ap (λ (l : List Token). l ++ back) f in let same : t ≡ v = cc in same

-- ---- the tests of levels

le_true : (a b : ℕ) → nat_le a b ≡ true → a ≤ b
le_true a b e = leb-true a b e

le_false : (a b : ℕ) → b < a → nat_le a b ≡ false
le_false a b h = go (nat_le a b) refl
  where
    go : (t : Bool) → nat_le a b ≡ t → t ≡ false
    go false e = refl
    go true e = absurd (omega (arith, h, leb-true a b e))

pub and_first : (a b : Bool) → a && b ≡ true → a ≡ true
and_first true b e = refl
and_first false b e = e

pub and_second : (a b : Bool) → a && b ≡ true → b ≡ true
and_second true b e = e
and_second false b e = absurd (false≢true e)

pub record Allowed (p : GrammarPlace) (deepest least : ℕ) (x : Expression) (t : Token) (l : ℕ) : Type 0 where
  pub ranked : rank p t ≡ Some l
  pub above : least ≤ l
  pub fits : left_level l ≤ tightness x
  pub allowed : may deepest least x l ≡ true

pub allowed_by : (p : GrammarPlace) (deepest least : ℕ) (x : Expression) (t : Token) (l : ℕ) → follows p deepest least x t ≡ Some l → Allowed p deepest least x t l
allowed_by p deepest least x t l e = go (rank p t) refl e
  where
    made_of : (j : ℕ) → rank p t ≡ Some j → (b : Bool) → may deepest least x j ≡ b → cond b (Some j) None ≡ Some l → Allowed p deepest least x t l
    made_of j er false eb e = absurd cc
    made_of j er true eb e =
        let same : j ≡ l = cc in
        subst (λ (i : ℕ). Allowed p deepest least x t i) same
        (record {
          ranked = er;
          above = le_true least j (and_first (nat_le least j) _ eb);
          fits = le_true (left_level j) (tightness x) (and_first (nat_le (left_level j) (tightness x)) _ (and_second (nat_le least j) _ eb));
          allowed = eb;
        })

    go : (o : Option ℕ) → rank p t ≡ o → filtered (may deepest least x) o ≡ Some l → Allowed p deepest least x t l
    go None er e = absurd cc
    go (Some j) er e = made_of j er (may deepest least x j) refl e

-- a token of the same level may stand there too
pub allowed_also : (p : GrammarPlace) (deepest least : ℕ) (x : Expression) (u v : Token) (l : ℕ) → follows p deepest least x u ≡ Some l → rank p v ≡ Some l → follows p deepest least x v ≡ Some l
allowed_also p deepest least x u v l e er = let a = allowed_by p deepest least x u l e in ap (filtered (may deepest least x)) er ∙ ap (λ (b : Bool). cond b (Some l) None) a.allowed

pub ends_all : (p : GrammarPlace) (deepest least : ℕ) (x : Expression) (u : Token) → continues p least u ≡ false → follows p deepest least x u ≡ None
ends_all p deepest least x u e = go (rank p u) refl (or_right (is_tail u) (reaches least (rank p u)) e)
  where
    go : (o : Option ℕ) → rank p u ≡ o → reaches least o ≡ false → filtered (may deepest least x) o ≡ None
    go None er h = refl
    go (Some l) er h = ap (λ (b : Bool). cond (b && (nat_le (left_level l) (tightness x) && nat_lt (depth x) deepest)) (Some l) None) h

-- a token that reaches a tighter level reaches a looser one
reaches_down : (least k : ℕ) (o : Option ℕ) → least ≤ k → reaches least o ≡ false → reaches k o ≡ false
reaches_down least k None h e = refl
reaches_down least k (Some l) h e = go (nat_le k l) refl
  where
    go : (b : Bool) → nat_le k l ≡ b → b ≡ false
    go false eb = refl
    go true eb = let yes : nat_le least l ≡ true = le-leb least l (omega (arith, h, leb-true k l eb)) in absurd cc

pub continues_up : (p : GrammarPlace) (least k : ℕ) (u : Token) → least ≤ k → continues p least u ≡ false → continues p k u ≡ false
continues_up p least k u h e = rw (or_left (is_tail u) (reaches least (rank p u)) e, reaches_down least k (rank p u) h (or_right (is_tail u) (reaches least (rank p u)) e)) refl

-- an operator that binds looser ends what stands before it
pub ends_before : (p : GrammarPlace) (k : ℕ) (u : Token) (m : ℕ) → rank p u ≡ Some m → m < k → continues p k u ≡ false
ends_before p k u m er h = rw (rank_no_tail p u m er, er) (le_false k m h)

-- no operator is as tight as an operand
pub continues_last : (p : GrammarPlace) (u : Token) → is_tail u ≡ false → continues p 12 u ≡ false
continues_last p u e = rw e (go (rank p u) refl)
  where
    go : (o : Option ℕ) → rank p u ≡ o → reaches 12 o ≡ false
    go None er = refl
    go (Some l) er = le_false 12 l (rank_small p u l er)

-- left of an operator stands nothing looser, so it binds looser than what stands on the right of
-- that
pub left_right : (m l : ℕ) → left_level m ≤ l → l < 12 → m < right_level l
left_right m l h s = go (m == 11) refl (l == 11) refl h
  where
    go : (a : Bool) → (m == 11) ≡ a → (b : Bool) → (l == 11) ≡ b → cond a 12 m ≤ l → m < cond b 11 (suc l)
    go true ea b eb h = absurd (omega (arith, h, s))
    go false ea true eb h = omega (arith, h, eqb-true l 11 eb, eqb-false m 11 ea)
    go false ea false eb h = omega (arith, h)

-- ---- what stands on the right of an operator

pub right_above : (l : ℕ) → l ≤ right_level l
right_above l = go (l == 11) refl
  where
    go : (b : Bool) → (l == 11) ≡ b → l ≤ cond b 11 (suc l)
    go true e = omega (arith, eqb-true l 11 e)
    go false e = omega arith

pub next_small : (p : GrammarPlace) (deepest least : ℕ) (x : Expression) (ts : List Token) (l : ℕ) → next (follows p deepest least) x ts ≡ Some l → l < 12
next_small p deepest least x [] l e = absurd cc
next_small p deepest least x (u ∷ ts) l e = rank_small p u l (allowed_by p deepest least x u l e).ranked

pub next_above : (p : GrammarPlace) (deepest least : ℕ) (x : Expression) (f : List Token) (l : ℕ) → next (follows p deepest least) x f ≡ Some l → least ≤ right_level l
next_above p deepest least x [] l e = absurd cc
next_above p deepest least x (u ∷ f) l e = omega (arith, (allowed_by p deepest least x u l e).above, right_above l)
