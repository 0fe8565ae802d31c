-- What is left to be done of an inside, as a stack of tasks of which the first is the next.
use Rattle.std.specs.Prelude.{◌≡◌, ℕ, ℤ, pos, ◌+ℤ◌, List, [], ◌∷◌, Option, Some, None, Result, Ok}
use Rattle.std.specs.Prelude.{Err, length}
use Rattle.std.specs.Borrow.{Bor}
use Rattle.param_following.specs.Asking.{Done, Ask}
use Rattle.inside_keys.specs.declared.found.State.{State}
use Rattle.inside_keys.specs.declared.key.Module.{Module}
use Rattle.inside_keys.specs.declared.key.What.{What}
use Rattle.inside_keys.specs.declared.key.What.TheVariants as what
use Rattle.inside_keys.specs.declared.found.Found.{Found}
use Rattle.inside_keys.specs.Asked.{KeyAsking, ask_then, carried_then, carrier_then, result_then}
use Rattle.inside_keys.specs.Asked.{whole_then, size_then, truth_then, number_then, value_then}
use Rattle.inside_keys.specs.Asked.{valued_then}
use Rattle.inside_keys.specs.Inside.{Rest, whole, looped, turns, count, gate_then, named_then}
use Rattle.inside_keys.specs.Inside.{part_then, end_then, right_end, connected, connection_lines}
use Rattle.inside_keys.specs.Inside.{items, gates, parameters, element_typed, elements}
use Rattle.inside_keys.specs.Inside.{submodule_there, submodules, made_of, back_then, linked_then}
use Rattle.inside_keys.specs.Inside as joins
use Rattle.inside_keys.specs.Keys.{child, key}
use Rattle.inside_keys.specs.Places.{Scope, bind, meant_under}
use Rattle.inside_keys.specs.States.{with_wiring, grown, noted}
use Rattle.inside_parts.specs.declared.fault.InsideError.{InsideError}
use Rattle.inside_parts.specs.declared.fault.InsideError.TheVariants as stop
use Rattle.ned_trees.specs.declared.connections.Connection.{Connection}
use Rattle.ned_trees.specs.declared.connections.End.{End}
use Rattle.ned_trees.specs.declared.connections.GateIndex.{GateIndex}
use Rattle.ned_trees.specs.declared.connections.Owner.{Owner}
use Rattle.inside_parts.specs.declared.gates.TypeGate.{TypeGate}
use Rattle.inside_parts.specs.declared.parts.NamedGate.{NamedGate}
use Rattle.inside_wiring.specs.declared.ends.Taken.{Taken}
use Rattle.inside_parts.specs.declared.parts.Made.TheVariants.{Absent, Vector}
use Rattle.inside_wiring.specs.declared.wiring.Role.{Role}
use Rattle.inside_wiring.specs.declared.wiring.Carrier.{Carrier}
use Rattle.inside_wiring.specs.declared.wiring.GateId.{GateId}
use Rattle.inside_wiring.specs.Ends.{part_named, at_index, left_role, right_role, beside}
use Rattle.param_eval.specs.Evaluating.{came_to, resumed}
use Rattle.sim_values.specs.declared.value.Value.{Value}
use Rattle.inside_walk.specs.declared.task.Body.{Body}
use Rattle.inside_walk.specs.declared.task.Body.TheVariants as body
use Rattle.inside_walk.specs.declared.task.Carry.{Carry}
use Rattle.inside_walk.specs.declared.task.Carry.TheVariants as carry
use Rattle.inside_walk.specs.declared.task.Doing.{Doing}
use Rattle.inside_walk.specs.declared.task.Doing.TheVariants as doing
use Rattle.inside_walk.specs.declared.task.Ground.{Ground}
use Rattle.inside_walk.specs.declared.task.Halt.{Halt}
use Rattle.inside_walk.specs.declared.task.Halt.TheVariants as halt
use Rattle.inside_walk.specs.declared.task.Next.{Next}
use Rattle.inside_walk.specs.declared.task.Next.TheVariants as next
use Rattle.inside_walk.specs.declared.task.Side.{Side}
use Rattle.inside_walk.specs.declared.task.Side.TheVariants as side
use Rattle.inside_walk.specs.declared.task.Sort.{Sort}
use Rattle.inside_walk.specs.declared.task.Sort.TheVariants as sort
use Rattle.inside_walk.specs.declared.task.Task.{Task}
use Rattle.inside_walk.specs.declared.task.Task.TheVariants as task
use Rattle.inside_walk.specs.declared.task.Wait.{Wait}
use Rattle.inside_walk.specs.declared.task.Wait.TheVariants as wait
use Rattle.inside_walk.specs.declared.task.Want.{Want}
use Rattle.inside_walk.specs.declared.task.Want.TheVariants as want

-- the loop variables in scope: those of the loops that have begun
abbrev pub scope_of : List Task → Scope
scope_of [] = []
scope_of (task.Turns x z last cs b ∷ ts) = bind x.now z (scope_of ts)
scope_of (_ ∷ ts) = scope_of ts

-- which size of a gate is asked for
abbrev pub size_by : Sort → List ℕ → What
size_by sort.Own x = what.GateSize x
size_by sort.Declared x = what.Declared x

-- what asks for the declared sizes of the gates of a submodule, where a line may speak of what is no
-- gate, or give a size to what is no gate vector
abbrev pub sizes_task : Module → Option (Bor (List ℕ)) → Bor (List TypeGate) → Task
sizes_task m None gs = task.Gates m sort.Declared gs
sizes_task m (Some x) gs = task.Misplaced m x

-- ---- ends of connections

abbrev pub end_at : Side → Connection → End
end_at side.Left c = c.left
end_at (side.Right l) c = c.right

abbrev pub role_at : Side → Connection → Role
role_at side.Left c = left_role c.arrow
role_at (side.Right l) c = right_role c.arrow

abbrev pub other_at : Side → Connection → Option GateId
other_at side.Left c = None
other_at (side.Right l) c = beside c.arrow l

-- the number that a loop gives its variable now
abbrev pub numbers_of : Task → List ℤ
numbers_of (task.Turns x z last cs b) = z ∷ []
numbers_of _ = []

module _ (g : Ground) where
  -- two gates are joined
  abbrev pub joined : Connection → GateId → GateId → Scope → State → Rest → KeyAsking
  joined = joins.joined g.site g.submodules.now g.gates.now g.is_whole

  -- what is done with what a channel does
  abbrev pub carried : Carry → Carrier → Scope → State → Rest → KeyAsking
  carried (carry.Onwards way l r) k scope s rest =
      back_then g.site g.submodules.now g.gates.now g.is_whole way l r scope s rest k
  carried (carry.Back way l r onwards) k scope s rest =
      linked_then g.site g.submodules.now g.gates.now g.is_whole way l r s rest onwards k

  -- what comes after an end that has taken a gate
  abbrev pub taken : Connection → Side → Scope → State → Rest → Taken → KeyAsking
  taken c side.Left scope s rest t = right_end g.place g.submodules.now g.gates.now joined c t.id
      scope (with_wiring s t.wiring) rest
  taken c (side.Right l) scope s rest t = joined c l t.id scope (with_wiring s t.wiring) rest

  -- an end of a connection, and what comes after it
  abbrev pub end_begun : Connection → Side → Scope → State → Rest → KeyAsking
  end_begun c at scope s rest = end_then g.place g.submodules.now g.gates.now (end_at at c)
      (role_at at c) (other_at at c) scope s (taken c at scope s rest)

  -- the gate at that place, and what comes after it
  abbrev pub place_begun : Connection → Side → Option GateIndex → Scope → State → Rest
      → NamedGate → KeyAsking
  place_begun c at place scope s rest gate = gate_then g.place g.submodules.now g.gates.now place
      gate (role_at at c) (other_at at c) scope s (taken c at scope s rest)

  -- the gate of that part at the place that the end names, and what comes after it
  abbrev pub gate_begun : Connection → Side → Scope → State → Rest → NamedGate → KeyAsking
  gate_begun c at scope s rest gate = place_begun c at (end_at at c).gate.index scope s rest gate

  -- the gate of that part, and what comes after it
  abbrev pub part_begun : Connection → Side → Scope → State → Rest → ℕ → KeyAsking
  part_begun c at scope s rest part = named_then g.place g.submodules.now g.gates.now (end_at at c)
      (role_at at c) (other_at at c) scope s part (taken c at scope s rest)

  -- the gate of the submodule of that name, and what comes after it
  abbrev pub name_begun : Connection → Side → Scope → State → Rest → Owner → KeyAsking
  name_begun c at scope s rest m =
      part_then g.place g.submodules.now g.gates.now (Some m) scope s (part_begun c at scope s rest)

  -- ---- tasks

  abbrev pub body_of : Body → Scope → State → Rest → KeyAsking
  body_of (body.Connections cs) =
      connection_lines g.place g.submodules.now g.gates.now joined cs.now
  body_of (body.Connection c) = connected g.place g.submodules.now g.gates.now joined c.now

  -- a task under the loop variables in scope, and then the rest
  abbrev pub after : Task → Scope → State → Rest → KeyAsking
  after (task.Parameters m xs) scope s rest = parameters m xs.now s rest
  after (task.Gates m sort gs) scope s rest = gates m (size_by sort) gs.now s rest
  after (task.Misplaced m x) scope s rest = ask_then (key m (what.Declared x.now)) (λ v. rest s)
  after (task.Elements l n all) scope s rest =
      elements g.site g.types.now g.gates.now g.is_whole n all l.now s rest
  after (task.Submodules ls) scope s rest =
      submodules g.site g.types.now g.gates.now g.is_whole ls.now s rest
  after (task.Items is) scope s rest =
      items g.place g.submodules.now g.gates.now joined is.now scope s rest
  after (task.Connections cs) scope s rest =
      connection_lines g.place g.submodules.now g.gates.now joined cs.now scope s rest
  after (task.Clauses cs b) scope s rest = looped g.place cs.now (body_of b) scope s rest
  after (task.Turns x z last cs b) scope s rest =
      turns (count (z +ℤ pos 1) last) (z +ℤ pos 1)
      (λ y t next. looped g.place cs.now (body_of b) (bind x.now y scope) t next) s rest
  after (task.End c at) scope s rest = end_begun c.now at scope s rest

  -- all tasks, and then the inside is there
  abbrev pub continued : List Task → State → KeyAsking
  continued [] s = made_of s
  continued (t ∷ ts) s = after t (scope_of ts) s (continued ts)

  -- what is done with the value of a key
  abbrev pub waited : Wait → Value → State → Rest → KeyAsking
  waited wait.Parameter v s rest = rest s
  waited wait.Gate v s rest = size_then v (λ n. rest (grown s n))
  waited (wait.Condition l) v s rest = truth_then v
      (submodule_there g.site g.types.now g.gates.now g.is_whole l.now s rest)
      (rest (noted s Absent))
  waited (wait.Size l) v s rest = size_then v (λ n. elements g.site g.types.now g.gates.now
      g.is_whole n n l.now (noted s (Vector (length s.parts.parts) n)) rest)
  waited (wait.Type l index) v s rest = number_then v (λ n. element_typed g.site g.types.now
      g.gates.now g.is_whole l.now (child g.site l.now.name index) index n s rest)

  -- what is done with the value of an expression
  abbrev pub wanted : Want → Value → Scope → State → Rest → KeyAsking
  wanted (want.If cs b) v scope s rest =
      truth_then v (looped g.place cs.now (body_of b) scope s rest) (rest s)
  wanted (want.First x e cs b) v scope s rest =
      whole_then v (λ first. whole g.place e.now scope (λ last. turns (count first last) first
      (λ y t next. looped g.place cs.now (body_of b) (bind x.now y scope) t next) s rest))
  wanted (want.Last x first cs b) v scope s rest =
      whole_then v (λ last. turns (count first last) first
      (λ y t next. looped g.place cs.now (body_of b) (bind x.now y scope) t next) s rest)
  wanted (want.Part c at name) v scope s rest =
      whole_then v (λ z. result_then (part_named g.submodules.now s.parts name.now (Some z))
      (part_begun c.now at scope s rest))
  wanted (want.Index c at gate) v scope s rest =
      whole_then v (λ z. result_then (at_index s.wiring (other_at at c.now) (role_at at c.now) gate
      z) (taken c.now at scope s rest))

  -- what is done next, and then the tasks
  abbrev pub next_of : List Task → Next → KeyAsking
  next_of ts (next.Go s) = continued ts s
  next_of ts (next.Ask k w s) = ask_then k (λ v. waited w v s (continued ts))
  next_of ts (next.At e t w s) = valued_then (meant_under (scope_of ts) g.place) (came_to e t)
      (λ v. wanted w v (scope_of ts) s (continued ts))
  next_of ts (next.Carry k c s) = carried_then k (λ x. carried c x (scope_of ts) s (continued ts))

  -- a step has led to that
  abbrev pub Leads : Result Next InsideError → List Task → KeyAsking → Type 0
  Leads (Ok n) ts t = next_of ts n ≡ t
  Leads (Err (stop.Fault f)) ts t = t ≡ Done (Err f)
  Leads (Err (stop.Memory e)) ts t = Unit {0}

  -- what is done with what was asked for
  abbrev pub done_with : Doing → List Task → State → Found → KeyAsking
  done_with (doing.Key w) ts s = value_then (λ v. waited w v s (continued ts))
  done_with (doing.Expression e w) ts s = value_then (λ v. valued_then (meant_under (scope_of ts)
      g.place) (resumed e v) (λ u. wanted w u (scope_of ts) s (continued ts)))
  done_with (doing.Carrier c) ts s = carrier_then (λ x. carried c x (scope_of ts) s (continued ts))

  abbrev pub halted : List Task → Halt → KeyAsking
  halted ts (halt.Asks k d s) = Ask k (done_with d ts s)
  halted ts (halt.Done f) = Done (Ok f)

  abbrev pub Halts : Result Halt InsideError → List Task → KeyAsking → Type 0
  Halts (Ok h) ts t = halted ts h ≡ t
  Halts (Err (stop.Fault f)) ts t = t ≡ Done (Err f)
  Halts (Err (stop.Memory e)) ts t = Unit {0}
