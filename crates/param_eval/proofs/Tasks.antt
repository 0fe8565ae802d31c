-- A task that is added at the end is the next.
use Rattle.std.proofs.Common.{◌≡◌, ℕ, ◌+◌, sym, ◌∙◌, ap, subst, Result, IfOk, List, [], ◌∷◌, ◌++◌, arith, Bor}
use mathlib.Core.Path.{fun_ext}
use Rattle.param_following.specs.Asking.{Done, ◌>>=◌}
use Rattle.param_following.proofs.Binds.{bind_assoc, bind_done}
use Rattle.sim_values.specs.declared.NoMemory.{NoMemory}
use Rattle.sim_values.specs.declared.value.Value.{Value}
use Rattle.ned_trees.specs.declared.expressions.Choice.{Choice}
use Rattle.ned_trees.specs.declared.expressions.Expression.{Expression, the_lemmas}
use Rattle.ned_trees.specs.declared.expressions.Expression.TheVariants as expr
use Rattle.ned_trees.specs.declared.expressions.Operator.{Operator}
use Rattle.ned_trees.specs.declared.expressions.Sign.{Sign}
use Rattle.param_eval.specs.declared.evaluation.TaskStep.{TaskStep}
use Rattle.param_eval.specs.declared.evaluation.Task.{Task}
use Rattle.param_eval.specs.declared.evaluation.Task.TheVariants as task
use Rattle.param_eval.specs.declared.operators.Combination.TheVariants as combination
use Rattle.param_eval.specs.Evaluating.{after, continued, valued_then, valued_with, step_of, weight, task_weight}
use Rattle.param_eval.specs.Operators.{applied, decided, signed, chosen}
use Rattle.param_eval.specs.References.{Element, ExistsAt}
use Rattle.param_eval.specs.Values.{Valued, valued, indexed, unless, branched}

pub continued_push : (ts : List Task) (t : Task) (v : Value) → continued (ts ++ t ∷ []) v ≡ after t v >>= continued ts
continued_push [] t v = sym (bind_done (after t v))
continued_push (u ∷ us) t v = ap (λ a. a >>= after u) (continued_push us t v) ∙ bind_assoc (after t v) (continued us) (after u)

pub then_push : (ts : List Task) (t : Task) (e : Expression) → valued_then (ts ++ t ∷ []) e ≡ valued_with ts t e
then_push ts t e = ap (λ f. valued e >>= f) (fun_ext (continued_push ts t)) ∙ sym (bind_assoc (valued e) (after t) (continued ts))

pub weight_push : (ts : List Task) (t : Task) → weight (ts ++ t ∷ []) ≡ weight ts + task_weight t
weight_push [] t = omega arith
weight_push (u ∷ us) t = omega (arith, weight_push us t)

pub at_element : (sub : List ℕ) (i : Expression) (x : List ℕ) → valued (expr.Element sub i x) ≡ valued i >>= indexed (λ k. Element sub k x)
at_element sub i x = search the_lemmas

pub at_index : (sub : List ℕ) (i : Expression) → valued (expr.ExistsAt sub i) ≡ valued i >>= indexed (λ k. ExistsAt sub k)
at_index sub i = search the_lemmas

pub at_sign : (s : Sign) (a : Expression) → valued (expr.Signed s a) ≡ valued a >>= λ x. Done (signed s x)
at_sign s a = search the_lemmas

pub at_choice : (c : Choice) (a b : Expression) → valued (expr.Chosen c a b) ≡ valued a >>= λ x. valued b >>= λ y. Done (chosen c x y)
at_choice c a b = search the_lemmas

pub at_operator : (o : Operator) (a b : Expression) → valued (expr.Binary o a b) ≡ valued a >>= λ x. unless (decided o x) (valued b >>= λ y. Done (applied o x y))
at_operator o a b = search the_lemmas

pub at_condition : (c a b : Expression) → valued (expr.Conditional c a b) ≡ valued c >>= λ x. branched x (valued a) (valued b)
at_condition c a b = search the_lemmas

-- an expression whose first part is evaluated now, with a task for the other parts
pub entered : (r : Result TaskStep NoMemory) (new ts : List Task) (f : Value → Valued) (first e : Expression) → valued e ≡ valued first >>= f
    → IfOk r (λ s. step_of new s ≡ valued first >>= f >>= continued ts) → IfOk r (λ s. step_of new s ≡ valued_then ts e)
entered r new ts f first e h g = subst (λ x. IfOk r (λ s. step_of new s ≡ x)) (sym (ap (λ a. a >>= continued ts) h)) g

module _ (e : Expression) where
  pub first_of_choice : (c : Choice) (a b : Expression) (p q : Bor Expression) → e ≡ expr.Chosen c a b → p.now ≡ a → q.now ≡ b
      → valued e ≡ valued p.now >>= after (task.Right (combination.Choice c) q)
  first_of_choice c a b p q h k l =
      ap valued h ∙ at_choice c a b
      ∙ sym (ap (λ z. valued a >>= λ x. valued z >>= λ y. Done (chosen c x y)) l)
      ∙ sym (ap (λ z. valued z >>= after (task.Right (combination.Choice c) q)) k)

  pub first_of_operator : (o : Operator) (a b : Expression) (p q : Bor Expression) → e ≡ expr.Binary o a b → p.now ≡ a → q.now ≡ b
      → valued e ≡ valued p.now >>= after (task.Right (combination.Operator o) q)
  first_of_operator o a b p q h k l =
      ap valued h ∙ at_operator o a b
      ∙ sym (ap (λ z. valued a >>= λ x. unless (decided o x) (valued z >>= λ y. Done (applied o x y))) l)
      ∙ sym (ap (λ z. valued z >>= after (task.Right (combination.Operator o) q)) k)

  pub first_of_condition : (c a b : Expression) (p q r : Bor Expression) → e ≡ expr.Conditional c a b → p.now ≡ c → q.now ≡ a → r.now ≡ b
      → valued e ≡ valued p.now >>= after (task.Branch q r)
  first_of_condition c a b p q r h k l m =
      ap valued h ∙ at_condition c a b
      ∙ sym (ap (λ z. valued c >>= λ x. branched x (valued z) (valued b)) l)
      ∙ sym (ap (λ z. valued c >>= λ x. branched x (valued q.now) (valued z)) m)
      ∙ sym (ap (λ z. valued z >>= after (task.Branch q r)) k)

pub of_element : (r : Result TaskStep NoMemory) (new ts : List Task) (sub x : List ℕ) (i : Expression) (p : Bor Expression) (e : Expression)
    → IfOk r (λ s. step_of new s ≡ valued p.now >>= indexed (λ k. Element sub k x) >>= continued ts) → e ≡ expr.Element sub i x → p.now ≡ i
    → IfOk r (λ s. step_of new s ≡ valued_then ts e)
of_element r new ts sub x i p e g h k =
    entered r new ts (indexed (λ n. Element sub n x)) p.now e (ap valued h ∙ at_element sub i x ∙ sym (ap (λ z. valued z >>= indexed (λ n. Element sub n x)) k)) g

pub of_index : (r : Result TaskStep NoMemory) (new ts : List Task) (sub : List ℕ) (i : Expression) (p : Bor Expression) (e : Expression)
    → IfOk r (λ s. step_of new s ≡ valued p.now >>= indexed (λ k. ExistsAt sub k) >>= continued ts) → e ≡ expr.ExistsAt sub i → p.now ≡ i
    → IfOk r (λ s. step_of new s ≡ valued_then ts e)
of_index r new ts sub i p e g h k =
    entered r new ts (indexed (λ n. ExistsAt sub n)) p.now e (ap valued h ∙ at_index sub i ∙ sym (ap (λ z. valued z >>= indexed (λ n. ExistsAt sub n)) k)) g
