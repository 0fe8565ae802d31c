-- What tasks and values lead to.
use Rattle.std.proofs.Common.{◌≡◌, ℕ, ◌+◌, ◌≤◌, ℤ, List, Bor, ap, arith}
use Rattle.ned_trees.specs.declared.connections.Clause.{Clause}
use Rattle.ned_trees.specs.declared.connections.Connection.{Connection}
use Rattle.inside_parts.specs.declared.parts.NamedGate.{NamedGate}
use Rattle.inside_walk.specs.declared.task.Body.{Body}
use Rattle.inside_walk.specs.declared.task.Ground.{Ground}
use Rattle.inside_walk.specs.declared.task.Side.{Side}
use Rattle.inside_walk.specs.declared.task.Side.TheVariants as side
use Rattle.inside_walk.specs.declared.task.Task.{Task}
use Rattle.inside_walk.specs.declared.task.Task.TheVariants as task
use Rattle.inside_walk.specs.declared.task.Want.{Want}
use Rattle.inside_walk.specs.declared.task.Want.TheVariants as want
use Rattle.inside_walk.specs.Tasks.{end_at}
use Rattle.inside_walk.specs.Weights.{of_end, of_rest, of_task, of_want, of_body, of_clauses, of_position, cost_of_want}

module _ (g : Ground) where
  by_side : (c : Bor Connection) (at : Side) → of_end (end_at at c.now) + of_rest c.now at ≤ of_task g (task.End c at)
  by_side c side.Left = omega arith
  by_side c (side.Right l) = omega arith

  pub end_within : (t : Task) (c : Bor Connection) (at : Side) → t ≡ task.End c at → of_end (end_at at c.now) + of_rest c.now at ≤ of_task g t
  end_within t c at e = let same : of_task g t ≡ of_task g (task.End c at) = ap (of_task g) e in let h = by_side c at in omega (arith, same, h)

  pub last_within : (w : Want) (x : Bor (List ℕ)) (z : ℤ) (cs : Bor (List Clause)) (b : Body) → w ≡ want.Last x z cs b → 1 ≤ of_want g w
  last_within w x z cs b e = let same : of_want g w ≡ 2 = ap (of_want g) e in omega (arith, same)

  pub part_within : (w : Want) (c : Bor Connection) (at : Side) (x : Bor (List ℕ)) → w ≡ want.Part c at x → of_position (end_at at c.now).gate.index + of_rest c.now at + 2 ≤ of_want g w
  part_within w c at x e = let same : of_want g w ≡ of_position (end_at at c.now).gate.index + of_rest c.now at + 3 = ap (of_want g) e in omega (arith, same)

pub index_within : (g : Ground) (w : Want) (c : Bor Connection) (at : Side) (gate : NamedGate) → w ≡ want.Index c at gate → of_rest c.now at ≤ of_want g w
index_within g w c at gate e = let same : of_want g w ≡ of_rest c.now at + 1 = ap (of_want g) e in omega (arith, same)

pub last_costs : (w : Want) (x : Bor (List ℕ)) (z : ℤ) (cs : Bor (List Clause)) (b : Body) → w ≡ want.Last x z cs b → of_clauses cs.now (of_body b) + 1 ≤ cost_of_want w
last_costs w x z cs b e = let same : cost_of_want w ≡ of_clauses cs.now (of_body b) + 1 = ap cost_of_want e in omega (arith, same)

pub none_costs : (n : ℕ) → 0 ≤ n
none_costs n = omega arith

pub if_within : (n : ℕ) → n ≤ n + 2
if_within n = omega arith

pub no_more : (n : ℕ) → n ≤ n
no_more n = omega arith
