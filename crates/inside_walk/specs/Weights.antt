-- How much is left to be done of an inside, as a number that falls with each step.
use Rattle.std.specs.Prelude.{ℕ, ◌+◌, ◌*◌, ◌<◌, ◌≤◌, max, List, [], ◌∷◌, Option, Some, None, Result}
use Rattle.std.specs.Prelude.{Ok, Err}
use Rattle.ned_trees.specs.declared.expressions.Expression.{Expression}
use Rattle.inside_parts.specs.declared.fault.InsideError.{InsideError}
use Rattle.ned_trees.specs.declared.connections.Clause.{Clause}
use Rattle.ned_trees.specs.declared.connections.Clause.TheVariants.{For, If}
use Rattle.ned_trees.specs.declared.connections.Connection.{Connection}
use Rattle.ned_trees.specs.declared.connections.End.{End}
use Rattle.inside_parts.specs.declared.gates.TypeGate.{TypeGate}
use Rattle.inside_parts.specs.declared.gates.TypeGates.{TypeGates}
use Rattle.ned_trees.specs.declared.connections.ConnectionItem.{ConnectionItem}
use Rattle.ned_trees.specs.declared.connections.ConnectionItem.TheVariants.{Line, Group}
use Rattle.ned_trees.specs.declared.declarations.SectionLine.{SectionLine}
use Rattle.ned_trees.specs.declared.declarations.Submodule.{Submodule}
use Rattle.ned_trees.specs.declared.declarations.TypeDeclaration.{TypeDeclaration}
use Rattle.ned_trees.specs.declared.connections.Owner.{Owner}
use Rattle.ned_trees.specs.declared.connections.GateIndex.{GateIndex}
use Rattle.ned_trees.specs.declared.connections.GateIndex.TheVariants.{At, Next as NextFree}
use Rattle.ned_trees.specs.declared.connections.ConnectionLine.{ConnectionLine}
use Rattle.param_eval.specs.Evaluating.{weight_of, asks, left}
use Rattle.inside_walk.specs.declared.task.Body.{Body}
use Rattle.inside_walk.specs.declared.task.Body.TheVariants as body
use Rattle.inside_walk.specs.declared.task.Carry.{Carry}
use Rattle.inside_walk.specs.declared.task.Carry.TheVariants as carry
use Rattle.inside_walk.specs.declared.task.Doing.{Doing}
use Rattle.inside_walk.specs.declared.task.Doing.TheVariants as doing
use Rattle.inside_walk.specs.declared.task.Ground.{Ground}
use Rattle.inside_walk.specs.Tasks.{end_at}
use Rattle.inside_walk.specs.declared.task.Next.{Next}
use Rattle.inside_walk.specs.declared.task.Next.TheVariants as next
use Rattle.inside_walk.specs.declared.task.Side as side_type
use Rattle.inside_walk.specs.declared.task.Side.TheVariants as side
use Rattle.inside_walk.specs.declared.task.Task.{Task}
use Rattle.inside_walk.specs.declared.task.Task.TheVariants as task
use Rattle.inside_walk.specs.declared.task.Wait.{Wait}
use Rattle.inside_walk.specs.declared.task.Wait.TheVariants as wait
use Rattle.inside_walk.specs.declared.task.Want.{Want}
use Rattle.inside_walk.specs.declared.task.Want.TheVariants as want

-- ---- of what is written

-- lines of a parameter section
abbrev pub of_section : List SectionLine → ℕ
of_section [] = 1
of_section (l ∷ ls) = of_section ls + 3

abbrev pub of_gates : List TypeGate → ℕ
of_gates [] = 1
of_gates (g ∷ gs) = of_gates gs + 3

-- the parameter sections of all types, whichever a submodule has
abbrev pub of_types : List TypeDeclaration → ℕ
of_types [] = 1
of_types (t ∷ ts) = of_section t.lines + of_types ts

-- and their gates
abbrev pub of_type_gates : List TypeGates → ℕ
of_type_gates [] = 1
of_type_gates (g ∷ gs) = of_gates g.gates + of_type_gates gs

abbrev pub of_maybe : Option Expression → ℕ
of_maybe None = 0
of_maybe (Some e) = weight_of e

abbrev pub of_owner : Option Owner → ℕ
of_owner None = 0
of_owner (Some m) = of_maybe m.index

abbrev pub of_position : Option GateIndex → ℕ
of_position None = 0
of_position (Some (At e)) = weight_of e
of_position (Some NextFree) = 0

abbrev pub of_end : End → ℕ
of_end e = of_owner e.owner + of_position e.gate.index + 6

abbrev pub of_connection : Connection → ℕ
of_connection c = of_end c.left + of_end c.right + 8

abbrev pub of_clause : Clause → ℕ
of_clause (If e) = weight_of e + 4
of_clause (For f) = weight_of f.first + weight_of f.last + 8

-- clauses around a body of that weight
abbrev pub of_clauses : List Clause → ℕ → ℕ
of_clauses [] b = b + 2
of_clauses (c ∷ cs) b = of_clause c + of_clauses cs b

abbrev pub of_connection_lines : List ConnectionLine → ℕ
of_connection_lines [] = 1
of_connection_lines (c ∷ cs) =
    of_clauses c.clauses (of_connection c.connection) + of_connection_lines cs + 2

abbrev pub of_item : ConnectionItem → ℕ
of_item (Line c) = of_clauses c.clauses (of_connection c.connection)
of_item (Group g) = of_clauses g.clauses (of_connection_lines g.lines)

abbrev pub of_items : List ConnectionItem → ℕ
of_items [] = 1
of_items (i ∷ is) = of_item i + of_items is + 2

abbrev pub of_body : Body → ℕ
of_body (body.Connections cs) = of_connection_lines cs.now
of_body (body.Connection c) = of_connection c.now

-- after an end of a connection
abbrev pub of_rest : Connection → side_type.Side → ℕ
of_rest c side.Left = of_end c.right + 8
of_rest c (side.Right l) = 7

-- after what a channel does
abbrev pub of_carry : Carry → ℕ
of_carry (carry.Onwards way l r) = 4
of_carry (carry.Back way l r onwards) = 1

module _ (g : Ground) where
  -- a submodule whose type is known, whichever that is
  abbrev pub of_typed : ℕ
  of_typed = of_types g.types.now + of_type_gates g.gates.now + 3

  abbrev pub of_element : ℕ
  of_element = of_typed + 2

  abbrev pub of_elements : ℕ → ℕ
  of_elements n = n * of_element + 1

  -- a declared submodule: its condition, its size, and as many elements as there can be
  abbrev pub of_submodule : ℕ
  of_submodule = 65536 * of_element + of_element + 8

  abbrev pub of_submodules : List Submodule → ℕ
  of_submodules [] = 1
  of_submodules (l ∷ ls) = of_submodule + of_submodules ls + 2

  -- ---- of what is left to be done

  abbrev pub of_task : Task → ℕ
  of_task (task.Parameters m ls) = of_section ls.now
  of_task (task.Gates m sort gs) = of_gates gs.now
  of_task (task.Misplaced m x) = 3
  of_task (task.Elements l n all) = of_elements n
  of_task (task.Submodules ls) = of_submodules ls.now
  of_task (task.Items is) = of_items is.now
  of_task (task.Connections cs) = of_connection_lines cs.now
  of_task (task.Clauses cs b) = of_clauses cs.now (of_body b)
  of_task (task.Turns x z last cs b) = 1
  of_task (task.End c side.Left) = of_connection c.now
  of_task (task.End c (side.Right l)) = of_end c.now.right + 7

  abbrev pub of_tasks : List Task → ℕ
  of_tasks [] = 0
  of_tasks (t ∷ ts) = of_task t + of_tasks ts

  abbrev pub of_wait : Wait → ℕ
  of_wait wait.Parameter = 1
  of_wait wait.Gate = 1
  of_wait (wait.Condition l) = 65536 * of_element + of_element + 6
  of_wait (wait.Size l) = 65536 * of_element + 3
  of_wait (wait.Type l index) = of_typed

  abbrev pub of_want : Want → ℕ
  of_want (want.If cs b) = of_clauses cs.now (of_body b) + 2
  of_want (want.First x e cs b) = weight_of e.now + 5
  of_want (want.Last x z cs b) = 2
  of_want (want.Part c at name) = of_position (end_at at c.now).gate.index + of_rest c.now at + 3
  of_want (want.Index c at gate) = of_rest c.now at + 1

  abbrev pub of_next : Next → ℕ
  of_next (next.Go s) = 0
  of_next (next.Ask k w s) = of_wait w + 1
  of_next (next.At e t w s) = asks t + left e + of_want w
  of_next (next.Carry k c s) = of_carry c + 1

  abbrev pub of_doing : Doing → ℕ
  of_doing (doing.Key w) = of_wait w
  of_doing (doing.Expression e w) = left e + of_want w
  of_doing (doing.Carrier c) = of_carry c

-- ---- the most that one turn of a loop costs

abbrev pub cost_of_task : Task → ℕ
cost_of_task (task.Items is) = of_items is.now
cost_of_task (task.Connections cs) = of_connection_lines cs.now
cost_of_task (task.Clauses cs b) = of_clauses cs.now (of_body b)
cost_of_task (task.Turns x z last cs b) = of_clauses cs.now (of_body b) + 1
cost_of_task _ = 0

abbrev pub cost_of_tasks : List Task → ℕ
cost_of_tasks [] = 0
cost_of_tasks (t ∷ ts) = max (cost_of_task t) (cost_of_tasks ts)

abbrev pub cost_of_want : Want → ℕ
cost_of_want (want.If cs b) = of_clauses cs.now (of_body b)
cost_of_want (want.First x e cs b) = of_clauses cs.now (of_body b) + 1
cost_of_want (want.Last x z cs b) = of_clauses cs.now (of_body b) + 1
cost_of_want _ = 0

abbrev pub cost_of_next : Next → ℕ
cost_of_next (next.At e t w s) = cost_of_want w
cost_of_next _ = 0

abbrev pub cost_of_doing : Doing → ℕ
cost_of_doing (doing.Expression e w) = cost_of_want w
cost_of_doing (doing.Key w) = 0
cost_of_doing (doing.Carrier c) = 0

abbrev pub turns_of : Next → ℕ
turns_of (next.Go s) = s.turns
turns_of (next.Ask k w s) = s.turns
turns_of (next.At e t w s) = s.turns
turns_of (next.Carry k c s) = s.turns

-- What a step leaves to be done is less than a weight and what the tasks before it had, where each
-- turn that is left counts as much as `most`.
pub record IsSpent (g : Ground) (most weight : ℕ) (before : List Task) (n : ℕ) (found : Next)
    (ts : List Task) : Type 0 where
  pub cost : cost_of_next found ≤ most
  pub costs : cost_of_tasks ts ≤ most
  pub less : of_next g found + of_tasks g ts + turns_of found * most
      < weight + of_tasks g before + n * most

abbrev pub Spends : Ground → ℕ → ℕ → List Task → ℕ → Result Next InsideError → List Task → Type 0
Spends g weight cost before n (Ok found) ts = (most : ℕ) → cost ≤ most → cost_of_tasks before ≤ most
    → IsSpent g most weight before n found ts
Spends g weight cost before n (Err e) ts = Unit {0}
