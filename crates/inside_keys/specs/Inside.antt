-- The inside of a compound module: what it asks, and what is made of the answers. Each definition
-- says one thing that is done, and then `rest`. OMNeT++ Simulation Manual, "Submodules",
-- "Connections", "Parametric Connections".
use Rattle.std.specs.Prelude.{ℕ, zero, suc, ◌+◌, ◌-◌, ◌==◌, ℤ, pos, negsuc, ◌+ℤ◌, ◌-ℤ◌, Bool, true}
use Rattle.std.specs.Prelude.{List, [], ◌∷◌, Option, Some, None, Ok, Err, if◌then◌else◌, is_some}
use Rattle.std.specs.Prelude.{length, map, slice_get}
use Rattle.param_following.specs.Asking.{Done}
use Rattle.ned_trees.specs.declared.connections.Arrow.{Arrow}
use Rattle.ned_trees.specs.declared.connections.Arrow.TheVariants.{Right, Left, Both}
use Rattle.ned_trees.specs.declared.connections.Channel.{Channel}
use Rattle.ned_trees.specs.declared.connections.Clause.{Clause}
use Rattle.ned_trees.specs.declared.connections.Clause.TheVariants.{For, If}
use Rattle.ned_trees.specs.declared.connections.Connection.{Connection}
use Rattle.ned_trees.specs.declared.connections.ConnectionItem.{ConnectionItem}
use Rattle.ned_trees.specs.declared.connections.ConnectionItem.TheVariants.{Line, Group}
use Rattle.ned_trees.specs.declared.connections.ConnectionLine.{ConnectionLine}
use Rattle.ned_trees.specs.declared.connections.End.{End}
use Rattle.ned_trees.specs.declared.connections.GateIndex.{GateIndex}
use Rattle.ned_trees.specs.declared.connections.GateIndex.TheVariants.{At, Next}
use Rattle.ned_trees.specs.declared.connections.Owner.{Owner}
use Rattle.ned_trees.specs.declared.declarations.SectionLine.{SectionLine}
use Rattle.ned_trees.specs.declared.declarations.SectionLine.TheVariants as line
use Rattle.ned_trees.specs.declared.declarations.Submodule.{Submodule}
use Rattle.ned_trees.specs.declared.declarations.TypeDeclaration.{TypeDeclaration}
use Rattle.ned_trees.specs.declared.expressions.Expression.{Expression}
use Rattle.sim_values.specs.declared.value.Value.{Value}
use Rattle.sim_values.specs.declared.model_fault.ModelFault.TheVariants.{NoGate, TooManyTurns}
use Rattle.inside_parts.specs.declared.gates.TypeGate.{TypeGate}
use Rattle.inside_parts.specs.declared.gates.TypeGates.{TypeGates}
use Rattle.inside_parts.specs.declared.parts.Made.TheVariants.{Absent, Single, Vector}
use Rattle.inside_parts.specs.declared.parts.NamedGate.{NamedGate}
use Rattle.inside_wiring.specs.declared.ends.Taken.{Taken}
use Rattle.inside_wiring.specs.declared.wiring.Carrier.{Carrier}
use Rattle.inside_wiring.specs.declared.wiring.GateId.{GateId}
use Rattle.inside_wiring.specs.declared.wiring.Role.{Role}
use Rattle.inside_wiring.specs.Ends.{part_named, gate_named, fits, at_index, at_next, at_single}
use Rattle.inside_wiring.specs.Ends.{left_role, right_role, beside, linked}
use Rattle.param_eval.specs.Values.{valued}
use Rattle.inside_keys.specs.declared.found.Found.TheVariants as found
use Rattle.inside_keys.specs.declared.found.State.{State}
use Rattle.inside_keys.specs.declared.key.ChannelAt.{ChannelAt}
use Rattle.inside_keys.specs.declared.key.Key.{Key}
use Rattle.inside_keys.specs.declared.key.Module.{Module}
use Rattle.inside_keys.specs.declared.key.What.{What}
use Rattle.inside_keys.specs.declared.key.What.TheVariants as what
use Rattle.inside_keys.specs.declared.place.ExpressionPlace.{ExpressionPlace}
use Rattle.inside_keys.specs.Asked.{KeyAsking, ask_then, carried_then, known_then, number_then}
use Rattle.inside_keys.specs.Asked.{result_then, size_then, truth_then, valued_then, whole_then}
use Rattle.inside_keys.specs.Channels.{channel_path, ideal}
use Rattle.inside_keys.specs.Given.{misplaced_in}
use Rattle.inside_keys.specs.Keys.{child, key}
use Rattle.inside_keys.specs.Places.{Scope, bind, meant_under}
use Rattle.inside_keys.specs.States.{at_item, at_line, with_wiring, grown, part_added, noted}

-- what is done next, with the inside as it has become
abbrev pub Rest : Type 0
Rest = State → KeyAsking

-- ---- loops and conditions

-- a turn is counted, where one is left
abbrev pub counted : State → Rest → KeyAsking
counted s rest = if s.turns == 0 then Done (Err TooManyTurns) else rest
    (record { parts = s.parts; wiring = s.wiring; turns = s.turns - 1; written = s.written })

-- n turns, the first with this number
abbrev pub turns : ℕ → ℤ → (ℤ → State → Rest → KeyAsking) → State → Rest → KeyAsking
turns zero z each s rest = rest s
turns (suc n) z each s rest = counted s (λ t. each z t (λ u. turns n (z +ℤ pos 1) each u rest))

abbrev pub or_zero : ℤ → ℕ
or_zero (pos n) = n
or_zero (negsuc n) = 0

-- how many whole numbers there are from a to b, both among them
unfoldable pub count : ℤ → ℤ → ℕ
count a b = or_zero ((b -ℤ a) +ℤ pos 1)

module _ (place : ExpressionPlace) where
  -- the value of an expression of the type's, under loop variables
  abbrev pub evaluated : Expression → Scope → (Value → KeyAsking) → KeyAsking
  evaluated e scope rest = valued_then (meant_under scope place) (valued e) rest

  -- a whole number
  abbrev pub whole : Expression → Scope → (ℤ → KeyAsking) → KeyAsking
  whole e scope rest = evaluated e scope (λ v. whole_then v rest)

  -- WHAT CLAUSES DO around a body, from the left: `if` asks whether the rest is done, `for` does it
  -- in turns
  abbrev pub looped : List Clause → (Scope → State → Rest → KeyAsking) → Scope → State
      → Rest → KeyAsking
  looped [] body scope s rest = body scope s rest
  looped (If e ∷ cs) body scope s rest =
      evaluated e scope (λ v. truth_then v (looped cs body scope s rest) (rest s))
  looped (For f ∷ cs) body scope s rest =
      whole f.first scope (λ first. whole f.last scope (λ last. turns (count first last) first
      (λ z t next. looped cs body (bind f.variable z scope) t next) s rest))

  -- ---- connections

  abbrev pub index_then : Option Expression → Scope → (Option ℤ → KeyAsking) → KeyAsking
  index_then None scope rest = rest None
  index_then (Some e) scope rest = whole e scope (λ z. rest (Some z))

  -- where the submodules that are declared have these names, and the types these gates
  module _ (names : List (List ℕ)) (gates : List TypeGates) where
    -- the number of the part that an end names
    abbrev pub part_then : Option Owner → Scope → State → (ℕ → KeyAsking) → KeyAsking
    part_then None scope s rest = rest 0
    part_then (Some m) scope s rest =
        index_then m.index scope (λ z. result_then (part_named names s.parts m.name z) rest)

    -- the gate at a place of a gate vector, or a single gate
    abbrev pub gate_then : Option GateIndex → NamedGate → Role → Option GateId → Scope → State
        → (Taken → KeyAsking) → KeyAsking
    gate_then None g role other scope s rest = if g.kind.is_vector then Done (Err NoGate)
        else result_then (at_single s.wiring other role g) rest
    gate_then (Some (At e)) g role other scope s rest = if g.kind.is_vector then whole e scope
        (λ z. result_then (at_index s.wiring other role g z) rest) else Done (Err NoGate)
    gate_then (Some Next) g role other scope s rest = if g.kind.is_vector
        then result_then (at_next s.wiring other role g) rest else Done (Err NoGate)

    -- the gate of a part that an end names, where it has that role
    abbrev pub named_then : End → Role → Option GateId → Scope → State → ℕ
        → (Taken → KeyAsking) → KeyAsking
    named_then e role other scope s part rest =
        result_then (gate_named gates s.parts (length s.wiring.sizes) part e.gate.name) (λ g.
        if fits g.is_own g.kind.direction e.gate.half role
        then gate_then e.gate.index g role other scope s rest else Done (Err NoGate))

    -- AN END OF A CONNECTION: submodule index, submodule, gate, direction, vector or not, gate
    -- index
    abbrev pub end_then : End → Role → Option GateId → Scope → State
        → (Taken → KeyAsking) → KeyAsking
    end_then e role other scope s rest =
        part_then e.owner scope s (λ part. named_then e role other scope s part rest)

    -- where this joins two gates that the ends of a connection have taken
    module _ (joined : Connection → GateId → GateId → Scope → State → Rest → KeyAsking) where
      -- the right end of a connection, and the connection
      abbrev pub right_end : Connection → GateId → Scope → State → Rest → KeyAsking
      right_end c l scope s rest = end_then c.right (right_role c.arrow) (beside c.arrow l) scope s
          (λ r. joined c l r.id scope (with_wiring s r.wiring) rest)

      -- A CONNECTION: its left end, its right end, and what joins them
      abbrev pub connected : Connection → Scope → State → Rest → KeyAsking
      connected c scope s rest = end_then c.left (left_role c.arrow) None scope s
          (λ l. right_end c l.id scope (with_wiring s l.wiring) rest)

      -- connections, each with its clauses
      abbrev pub connection_lines : List ConnectionLine → Scope → State → Rest → KeyAsking
      connection_lines [] scope s rest = rest s
      connection_lines (c ∷ cs) scope s rest = looped c.clauses (connected c.connection) scope
          (at_line s (length cs)) (λ t. connection_lines cs scope t rest)

      abbrev pub item : ConnectionItem → Scope → State → Rest → KeyAsking
      item (Line c) scope s rest = looped c.clauses (connected c.connection) scope s rest
      item (Group g) scope s rest = looped g.clauses (connection_lines g.lines) scope s rest

      -- THE CONNECTIONS SECTION: its items, one after another
      abbrev pub items : List ConnectionItem → Scope → State → Rest → KeyAsking
      items [] scope s rest = rest s
      items (i ∷ is) scope s rest =
          item i scope (at_item s (length is)) (λ t. items is scope t rest)

-- ---- what joins two gates

-- the values of the loop variables in scope
abbrev pub values_in : Scope → List ℤ
values_in [] = []
values_in (b ∷ scope) = b.value ∷ values_in scope

-- the gate that messages leave by first: that of the left end where it leads both ways
abbrev pub source_of : Arrow → GateId → GateId → GateId
source_of Right l r = l
source_of Left l r = r
source_of Both l r = l

-- the channel of a connection, where what it does is asked for
abbrev pub channel_of : Bool → Connection → Option Channel
channel_of is_whole c = if is_whole then c.channel else None

-- in a module whose types have these gates, and whose submodules these names; with what channels
-- do, or only as far as gate sizes need it
module _ (m : Module) (names : List (List ℕ)) (gates : List TypeGates) (is_whole : Bool) where
  -- the channel of a connection from that gate
  abbrev pub channel_from : GateId → Scope → State → ChannelAt
  channel_from id scope s = record {
    path = channel_path m names gates s.parts id;
    written = s.written;
    turn = values_in scope;
  }

  abbrev pub carrier_from : GateId → Scope → State → Key
  carrier_from id scope s = key m (what.Carrier (channel_from id scope s))

  -- what carries messages from that gate to the other
  abbrev pub carried_from : GateId → Scope → State → (Carrier → KeyAsking) → KeyAsking
  carried_from id scope s next = carried_then (carrier_from id scope s) next

  -- the connection is made
  abbrev pub linked_then : Arrow → GateId → GateId → State → Rest → Carrier → Carrier → KeyAsking
  linked_then way l r s rest onwards back =
      rest (with_wiring s (linked way l r onwards back s.wiring))

  -- what carries messages back, where the connection leads both ways
  abbrev pub back_then : Arrow → GateId → GateId → Scope → State → Rest → Carrier → KeyAsking
  back_then Right l r scope s rest onwards = linked_then Right l r s rest onwards onwards
  back_then Left l r scope s rest onwards = linked_then Left l r s rest onwards onwards
  back_then Both l r scope s rest onwards =
      carried_from r scope s (linked_then Both l r s rest onwards)

  abbrev pub joined_by : Option Channel → Arrow → GateId → GateId → Scope → State → Rest → KeyAsking
  joined_by None way l r scope s rest = linked_then way l r s rest ideal ideal
  joined_by (Some channel) way l r scope s rest =
      carried_from (source_of way l r) scope s (back_then way l r scope s rest)

  -- TWO GATES ARE JOINED: what the channel does in the one direction and in the other, and then the
  -- connection
  abbrev pub joined : Connection → GateId → GateId → Scope → State → Rest → KeyAsking
  joined c l r scope s rest = joined_by (channel_of is_whole c) c.arrow l r scope s rest

-- ---- submodules

-- the sizes of gates, each by a key: of a module's own gates the finished sizes, of a submodule's
-- the declared ones
abbrev pub gates : Module → (List ℕ → What) → List TypeGate → State → Rest → KeyAsking
gates m size [] s rest = rest s
gates m size (g ∷ gs) s rest =
    if g.kind.is_vector
    then ask_then (key m (size g.name))
    (λ v. size_then v (λ n. gates m size gs (grown s n) rest))
    else gates m size gs (grown s 1) rest

-- THE DECLARED SIZES OF A SUBMODULE'S GATES. That of what a line names and is no gate, or sizes and
-- is no gate vector, is asked for first, and refused
abbrev pub sizes : Module → Option (List ℕ) → List TypeGate → State → Rest → KeyAsking
sizes m None gs s rest = gates m what.Declared gs s rest
sizes m (Some name) gs s rest = ask_then (key m (what.Declared name)) (λ v. rest s)

-- all parameters that these lines declare have values
abbrev pub parameters : Module → List SectionLine → State → Rest → KeyAsking
parameters m [] s rest = rest s
parameters m (line.Declaration d ∷ ls) s rest =
    ask_then (key m (what.Param d.name)) (λ v. parameters m ls s rest)
parameters m (_ ∷ ls) s rest = parameters m ls s rest

abbrev pub gates_in : Option TypeGates → List TypeGate
gates_in None = []
gates_in (Some g) = g.gates

abbrev pub is_vector : Submodule → Bool
is_vector l = is_some l.size

-- one way where a submodule is there, the other where its condition doesn't hold
abbrev pub conditioned : Module → Submodule → KeyAsking → KeyAsking → KeyAsking
conditioned m l if_so if_not = if is_some l.condition
    then ask_then (key m (what.Condition l.name)) (λ v. truth_then v if_so if_not) else if_so

-- how many elements a vector has
abbrev pub sized : Module → Submodule → (ℕ → KeyAsking) → KeyAsking
sized m l next = ask_then (key m (what.VectorSize l.name)) (λ v. size_then v next)

-- the inside of a module, where the types have these declarations and these gates; with the values
-- of its submodules' parameters, or only as far as gate sizes need it
module _ (m : Module) (types : List TypeDeclaration) (type_gates : List TypeGates)
    (is_whole : Bool) where
  -- the gates of the type of that number
  abbrev pub gates_of : ℕ → List TypeGate
  gates_of n = gates_in (slice_get type_gates n)

  -- the lines whose parameters have to have values
  abbrev pub asked_lines : TypeDeclaration → List SectionLine
  asked_lines t = if is_whole then t.lines else []

  -- what a line names and is no gate of a submodule of the type of that number, or sizes and is no
  -- gate vector
  abbrev pub misplaced_of : Submodule → ℕ → TypeDeclaration → Option (List ℕ)
  misplaced_of l n t = misplaced_in (slice_get type_gates n) t l.body

  -- a submodule of the type of that number: its parameters, its declared gate sizes
  abbrev pub element_of : Submodule → Module → Option ℕ → ℕ → State → Rest
      → TypeDeclaration → KeyAsking
  element_of l at index n s rest t = parameters at (asked_lines t) (part_added s n index)
      (λ u. sizes at (misplaced_of l n t) (gates_of n) u rest)

  abbrev pub element_typed : Submodule → Module → Option ℕ → ℕ → State → Rest → KeyAsking
  element_typed l at index n s rest =
      known_then (slice_get types n) (element_of l at index n s rest)

  -- A SUBMODULE: its nesting and its type, its parameters, its declared gate sizes
  abbrev pub element : Submodule → Option ℕ → State → Rest → KeyAsking
  element l index s rest = ask_then (key (child m l.name index) what.Type)
      (λ v. number_then v (λ n. element_typed l (child m l.name index) index n s rest))

  -- the last n of so many elements of a vector
  abbrev pub elements : ℕ → ℕ → Submodule → State → Rest → KeyAsking
  elements zero all l s rest = rest s
  elements (suc n) all l s rest = element l (Some (all - suc n)) s (λ t. elements n all l t rest)

  -- what is made of a declaration: one submodule, or as many as the vector size says
  abbrev pub submodule_there : Submodule → State → Rest → KeyAsking
  submodule_there l s rest =
      if is_vector l
      then sized m l (λ n. elements n n l (noted s (Vector (length s.parts.parts) n)) rest)
      else element l None (noted s (Single (length s.parts.parts))) rest

  -- A DECLARATION: its condition, and then what it makes
  abbrev pub submodule : Submodule → State → Rest → KeyAsking
  submodule l s rest = conditioned m l (submodule_there l s rest) (rest (noted s Absent))

  -- the submodules in the order of their declaration
  abbrev pub submodules : List Submodule → State → Rest → KeyAsking
  submodules [] s rest = rest s
  submodules (l ∷ ls) s rest = submodule l s (λ t. submodules ls t rest)

-- the inside before anything is made, of a module of the type of that number
abbrev pub own_part : ℕ → State
own_part n = record {
  parts = record {
    made = [];
    parts = record { first = 0; of_type = n; is_own = true; line = 0; index = None } ∷ [];
  };
  wiring = record { sizes = []; links = [] };
  turns = 1000000;
  written = record { items = 0; lines = 0 };
}

-- the inside, as it is found at the end
abbrev pub made_of : State → KeyAsking
made_of s = Done (Ok (found.Inside (record { parts = s.parts; wiring = s.wiring })))

-- the names of the submodules that a type declares
abbrev pub submodule_names : TypeDeclaration → List (List ℕ)
submodule_names t = map (λ (l : Submodule). l.name) t.submodules

-- THE INSIDE OF A COMPOUND MODULE of a type, which has that number among these: the sizes of its
-- own gates, its submodules, its connections
abbrev pub inside : Module → List TypeDeclaration → List TypeGates → Bool → ExpressionPlace → ℕ
    → TypeDeclaration → KeyAsking
inside m types type_gates is_whole place n t =
    gates m what.GateSize (gates_of m types type_gates is_whole n) (own_part n) (λ s.
    submodules m types type_gates is_whole t.submodules s (λ u.
    items place (submodule_names t) type_gates (joined m (submodule_names t) type_gates is_whole)
    t.connections.items [] u made_of))
