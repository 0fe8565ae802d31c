-- An expression that is being evaluated: what is left to be done, as a list of tasks of which the
-- last is the next.
use Rattle.std.specs.Prelude.{ℕ, ◌+◌, List, [], ◌∷◌, Ok, Err}
use Rattle.param_following.specs.Asking.{Done, Ask, ◌>>=◌}
use Rattle.sim_values.specs.declared.value.Value.{Value}
use Rattle.ned_trees.specs.declared.expressions.Expression.{Expression, fold-Expression}
use Rattle.ned_trees.specs.declared.expressions.Expression.TheOpen.{Expression-F}
use Rattle.param_eval.specs.declared.evaluation.Evaluation.{Evaluation}
use Rattle.param_eval.specs.declared.evaluation.TaskStep.{TaskStep}
use Rattle.param_eval.specs.declared.evaluation.TaskStep.TheVariants as step
use Rattle.param_eval.specs.declared.evaluation.Task.{Task}
use Rattle.param_eval.specs.declared.evaluation.Task.TheVariants as task
use Rattle.param_eval.specs.declared.evaluation.EvaluationStep.{EvaluationStep}
use Rattle.param_eval.specs.declared.evaluation.EvaluationStep.TheVariants as turn
use Rattle.param_eval.specs.Combinations.{combined, settled}
use Rattle.param_eval.specs.Operators.{Evaluated, signed}
use Rattle.param_eval.specs.References.{Element, ExistsAt, reference_of}
use Rattle.param_eval.specs.Values.{Valued, indexed, unless, branched, valued}

-- what a task makes of the value that it is given
abbrev pub after : Task → Value → Valued
after (task.Right c e) x = unless (settled c x) (valued e.now >>= λ y. Done (combined c x y))
after (task.Combine c x) y = Done (combined c x y)
after (task.Sign s) x = Done (signed s x)
after (task.Branch a b) x = branched x (valued a.now) (valued b.now)
after (task.Element sub x) k = indexed (λ k. Element sub.now k x.now) k
after (task.ExistsAt sub) k = indexed (λ k. ExistsAt sub.now k) k

-- what the tasks make of a value, the last of them first
abbrev pub continued : List Task → Value → Valued
continued [] v = Done (Ok v)
continued (t ∷ ts) v = continued ts v >>= after t

-- an expression is evaluated, and then the tasks are done with its value
abbrev pub valued_then : List Task → Expression → Valued
valued_then ts e = valued e >>= continued ts

-- an expression is evaluated, then the task is done with its value, and then the others
abbrev pub valued_with : List Task → Task → Expression → Valued
valued_with ts t e = valued e >>= after t >>= continued ts

-- a task is done with its value, and then the others
abbrev pub done_after : Task → Value → List Task → Valued
done_after t v ts = after t v >>= continued ts

-- what is done next, and then the tasks
abbrev pub step_of : List Task → TaskStep → Valued
step_of ts (step.Evaluate e) = valued_then ts e.now
step_of ts (step.Keep v) = continued ts v
step_of ts (step.Ask n) = Ask (reference_of n) (continued ts)
step_of ts (step.Fault f) = Done (Err f)

abbrev pub kept : Evaluated → TaskStep
kept (Ok v) = step.Keep v
kept (Err f) = step.Fault f

-- where an evaluation has come to that goes no further by itself
abbrev pub ended : List Task → EvaluationStep → Valued
ended ts (turn.Ask n) = Ask (reference_of n) (continued ts)
ended ts (turn.Done v) = Done (Ok v)
ended ts (turn.Fault f) = Done (Err f)

-- a number that falls with each step
abbrev pub weight_by : Expression-F ℕ → ℕ
weight_by (Expression-F.Literal v) = 1
weight_by (Expression-F.Name x) = 2
weight_by (Expression-F.Scoped s x) = 2
weight_by (Expression-F.Member x y) = 2
weight_by (Expression-F.Element x e y) = e + 3
weight_by Expression-F.Index = 2
weight_by Expression-F.IndexCall = 2
weight_by Expression-F.ParentIndex = 2
weight_by (Expression-F.Sizeof x) = 2
weight_by (Expression-F.Exists x) = 2
weight_by (Expression-F.ExistsAt x e) = e + 3
weight_by (Expression-F.Chosen c a b) = a + b + 3
weight_by (Expression-F.Group e) = e + 1
weight_by (Expression-F.Signed s e) = e + 2
weight_by (Expression-F.Binary o a b) = a + b + 3
weight_by (Expression-F.Conditional c a b) = c + a + b + 2

abbrev pub weight_of : Expression → ℕ
weight_of = fold-Expression ℕ weight_by

abbrev pub task_weight : Task → ℕ
task_weight (task.Right c e) = weight_of e.now + 2
task_weight (task.Combine c x) = 1
task_weight (task.Sign s) = 1
task_weight (task.Branch a b) = weight_of a.now + weight_of b.now + 1
task_weight (task.Element sub x) = 2
task_weight (task.ExistsAt sub) = 2

abbrev pub weight : List Task → ℕ
weight [] = 0
weight (t ∷ ts) = task_weight t + weight ts

abbrev pub step_weight : TaskStep → ℕ
step_weight (step.Evaluate e) = weight_of e.now
step_weight (step.Keep v) = 0
step_weight (step.Ask n) = 1
step_weight (step.Fault f) = 0

-- whether it asks, as a number
abbrev pub asks : EvaluationStep → ℕ
asks (turn.Ask n) = 1
asks (turn.Done v) = 0
asks (turn.Fault f) = 0

-- how an evaluation goes on with a value
abbrev pub resumed : Evaluation → Value → Valued
resumed e v = continued e.tasks.items v

-- where an evaluation has come to
abbrev pub came_to : Evaluation → EvaluationStep → Valued
came_to e t = ended e.tasks.items t

-- how often an evaluation asks at most, from where it is
abbrev pub left : Evaluation → ℕ
left e = weight e.tasks.items
