-- An inside that is built until a value is needed.
use Rattle.std.specs.Prelude.{◌≡◌, ℕ, ◌+◌, ◌*◌, ◌<◌, ◌≤◌, max, List, Option, Some, None, Result, Ok}
use Rattle.std.specs.Prelude.{Err}
use Rattle.param_following.specs.Asking.{Done}
use Rattle.inside_keys.specs.declared.found.State.{State}
use Rattle.inside_keys.specs.declared.place.Meaning.{Meaning}
use Rattle.inside_keys.specs.Asked.{KeyAsking, ask_then, valued_then}
use Rattle.inside_parts.specs.declared.fault.InsideError.{InsideError}
use Rattle.inside_parts.specs.declared.fault.InsideError.TheVariants as stop
use Rattle.ned_trees.specs.declared.declarations.TypeDeclaration.{TypeDeclaration}
use Rattle.param_eval.specs.declared.evaluation.Evaluation.{Evaluation}
use Rattle.param_eval.specs.Evaluating.{resumed}
use Rattle.param_eval.specs.References.{Reference}
use Rattle.param_eval.specs.Values.{Valued}
use Rattle.sim_values.specs.declared.value.Value.{Value}
use Rattle.inside_run.specs.declared.reach.Reached.{Reached}
use Rattle.inside_run.specs.declared.run.Came.{Came}
use Rattle.inside_run.specs.declared.run.Came.TheVariants as came
use Rattle.inside_run.specs.declared.reach.Reached.TheVariants as reached
use Rattle.inside_walk.specs.declared.task.Doing.{Doing}
use Rattle.inside_walk.specs.declared.task.Ground.{Ground}
use Rattle.inside_walk.specs.declared.task.Halt.{Halt}
use Rattle.inside_walk.specs.declared.task.Halt.TheVariants as halt
use Rattle.inside_walk.specs.declared.task.Next.{Next}
use Rattle.inside_walk.specs.declared.task.Task.{Task}
use Rattle.inside_walk.specs.Tasks.{halted, next_of}
use Rattle.inside_walk.specs.Weights.{of_items, of_submodules, of_type_gates, of_next, of_tasks}
use Rattle.inside_walk.specs.Weights.{of_doing, turns_of, cost_of_next, cost_of_tasks}
use Rattle.inside_walk.specs.Weights.{cost_of_doing}

-- the one, or else the other
abbrev pub or_else : {A : Type 0} → Option A → Option A → Option A
or_else (Some x) other = Some x
or_else None other = other

-- an expression has come to its value, or needs one
abbrev pub reached_of : (Reference → Meaning) → Reached → Evaluation
    → (Value → KeyAsking) → KeyAsking
reached_of means (reached.Value v) e next = next v
reached_of means (reached.Key k) e next = ask_then k (λ v. valued_then means (resumed e v) next)

abbrev pub Reaches : (Reference → Meaning) → Result Reached InsideError → Evaluation
    → Valued → Type 0
Reaches means (Ok r) e t = (next : Value → KeyAsking)
    → reached_of means r e next ≡ valued_then means t next
Reaches means (Err (stop.Fault f)) e t = (next : Value → KeyAsking)
    → valued_then means t next ≡ Done (Err f)
Reaches means (Err (stop.Memory m)) e t = Unit {0}

-- one where it needs a value
abbrev pub needs : Reached → ℕ
needs (reached.Value v) = 0
needs (reached.Key k) = 1

module _ (g : Ground) where
  -- how much is left, where each turn counts as much as the dearest
  abbrev pub load : Next → List Task → ℕ
  load n ts = of_next g n + of_tasks g ts + turns_of n * max (cost_of_next n) (cost_of_tasks ts)

  abbrev pub load_of : Doing → List Task → State → ℕ
  load_of d ts s = of_doing g d + of_tasks g ts + s.turns * max (cost_of_doing d) (cost_of_tasks ts)

  -- it asks once, and what is left then is no more than that
  abbrev pub AsksWithin : ℕ → List Task → Halt → Type 0
  AsksWithin n ts (halt.Asks k d s) = 1 + load_of d ts s ≤ n
  AsksWithin n ts (halt.Done f) = Unit {0}

  -- where one step has come to
  abbrev pub came_of : List Task → Came → KeyAsking
  came_of ts (came.Next n) = next_of g ts n
  came_of ts (came.Halt h) = halted g ts h

  abbrev pub Comes : Result Came InsideError → List Task → KeyAsking → Type 0
  Comes (Ok c) ts t = came_of ts c ≡ t
  Comes (Err (stop.Fault f)) ts t = t ≡ Done (Err f)
  Comes (Err (stop.Memory e)) ts t = Unit {0}

  -- less is left than that, or it asks within it
  abbrev pub IsWithin : ℕ → List Task → Came → Type 0
  IsWithin n ts (came.Next m) = load m ts < n
  IsWithin n ts (came.Halt h) = AsksWithin n ts h

  -- of an inside of that type that has begun
  abbrev pub begun_load : TypeDeclaration → ℕ
  begun_load t = of_type_gates g.gates.now + of_submodules g t.submodules
      + of_items t.connections.items + 1000000 * of_items t.connections.items
