-- Which gate an end of a connection names.
use Rattle.std.specs.Prelude.{ℕ, ℤ, pos, negsuc, ◌+◌, Bool, true, false, ◌&&◌, ◌||◌, not, nat_lt}
use Rattle.std.specs.Prelude.{List, ◌∷◌, Option, Some, None, Result, Ok, Err, if◌then◌else◌}
use Rattle.std.specs.Prelude.{slice_index, slice_set, slice_get, length}
use Rattle.sim_values.specs.declared.model_fault.ModelFault.{ModelFault}
use Rattle.sim_values.specs.declared.model_fault.ModelFault.TheVariants.{NoGate, GateSize}
use Rattle.sim_values.specs.declared.model_fault.ModelFault.TheVariants.{AlreadyConnected}
use Rattle.ned_trees.specs.declared.connections.Arrow.{Arrow}
use Rattle.ned_trees.specs.declared.connections.Arrow.TheVariants.{Right, Left, Both as BothWays}
use Rattle.ned_trees.specs.declared.declarations.GateDirection.{GateDirection}
use Rattle.ned_trees.specs.declared.declarations.GateDirection.TheVariants.{Input as IsInput}
use Rattle.ned_trees.specs.declared.declarations.GateDirection.TheVariants.{Output as IsOutput}
use Rattle.ned_trees.specs.declared.declarations.GateDirection.TheVariants.{Inout}
use Rattle.inside_parts.specs.declared.gates.TypeGate.{TypeGate}
use Rattle.ned_trees.specs.declared.connections.Half.{Half}
use Rattle.ned_trees.specs.declared.connections.Half.TheVariants.{Input, Output}
use Rattle.inside_parts.specs.declared.gates.TypeGates.{TypeGates}
use Rattle.inside_parts.specs.Names.{position_of}
use Rattle.inside_parts.specs.declared.parts.Made.{Made}
use Rattle.inside_parts.specs.declared.parts.Made.TheVariants.{Absent, Single, Vector}
use Rattle.inside_parts.specs.declared.parts.Part.{Part}
use Rattle.inside_parts.specs.declared.parts.NamedGate.{NamedGate}
use Rattle.inside_parts.specs.declared.parts.Parts.{Parts}
use Rattle.inside_wiring.specs.declared.wiring.Carrier.{Carrier}
use Rattle.inside_wiring.specs.declared.wiring.GateId.{GateId}
use Rattle.inside_wiring.specs.declared.wiring.Link.{Link}
use Rattle.inside_wiring.specs.declared.wiring.Role.{Role}
use Rattle.inside_wiring.specs.declared.wiring.Role.TheVariants.{Source, Target, Both}
use Rattle.inside_wiring.specs.declared.ends.Taken.{Taken}
use Rattle.inside_wiring.specs.Wired.{Wired, is_open, key, next_index}

abbrev pub or_fault : {A : Type 0} → ModelFault → Option A → Result A ModelFault
or_fault f None = Err f
or_fault f (Some x) = Ok x

abbrev pub natural : ℤ → Option ℕ
natural (pos n) = Some n
natural (negsuc n) = None

-- of the parts of a vector, which begin at `first`, that of an index; there are `all` parts
abbrev pub within : ℕ → ℕ → ℕ → Option ℕ → Option ℕ
within all first count None = None
within all first count (Some i) =
    if nat_lt i count && nat_lt (first + i) all then Some (first + i) else None

-- the number of the part that a name without or with an index means, by what was made of the
-- declaration of that name
abbrev pub part_of : ℕ → Option Made → Option ℤ → Option ℕ
part_of all (Some (Single part)) None = Some part
part_of all (Some (Single part)) (Some z) = None
part_of all (Some (Vector first count)) None = None
part_of all (Some (Vector first count)) (Some z) = within all first count (natural z)
part_of all (Some Absent) index = None
part_of all None index = None

abbrev pub part_at : Parts → Option ℕ → Option ℤ → Option ℕ
part_at ps None index = None
part_at ps (Some line) index = part_of (length ps.parts) (slice_get ps.made line) index

-- WHICH SUBMODULE a name and an index mean, where these are the names of those that are declared:
-- the number of its part
abbrev pub part_named : List (List ℕ) → Parts → List ℕ → Option ℤ → Result ℕ ModelFault
part_named names ps name index = or_fault NoGate (part_at ps (position_of name names) index)

-- of the part of that number
abbrev pub gate_of_kind : ℕ → ℕ → Part → ℕ → Option TypeGate → Option NamedGate
gate_of_kind count number part g None = None
gate_of_kind count number part g (Some gate) =
    if nat_lt (part.first + g) count then Some (record {
      part = number;
      vector = part.first + g;
      kind = gate.kind;
      is_own = part.is_own;
    }) else None

abbrev pub gate_at : ℕ → ℕ → Part → TypeGates → Option ℕ → Option NamedGate
gate_at count number part found None = None
gate_at count number part found (Some g) =
    gate_of_kind count number part g (slice_get found.gates g)

abbrev pub gate_of_part : ℕ → ℕ → List ℕ → Part → Option TypeGates → Option NamedGate
gate_of_part count number name part None = None
gate_of_part count number name part (Some found) =
    gate_at count number part found (position_of name found.names)

abbrev pub gate_of : ℕ → ℕ → List TypeGates → List ℕ → Option Part → Option NamedGate
gate_of count number types name None = None
gate_of count number types name (Some part) =
    gate_of_part count number name part (slice_get types part.of_type)

-- WHICH GATE a name means in a part, where the types have these gates; `count` is the number of all
-- gate vectors
abbrev pub gate_named : List TypeGates → Parts → ℕ → ℕ → List ℕ → Result NamedGate ModelFault
gate_named types ps count part name =
    or_fault NoGate (gate_of count part types name (slice_get ps.parts part))

-- whether a half of a gate gives what a role needs: inside a compound module its own gates are seen
-- from within
abbrev pub through : Bool → Half → Role → Bool
through own Input Source = own
through own Input Target = not own
through own Output Source = not own
through own Output Target = own
through own Input Both = false
through own Output Both = false

-- whether a gate of that direction, with the half that the end names, has the role
abbrev pub fits : Bool → GateDirection → Option Half → Role → Bool
fits own IsInput None role = through own Input role
fits own IsOutput None role = through own Output role
fits own Inout None Source = false
fits own Inout None Target = false
fits own Inout None Both = true
fits own Inout (Some half) role = through own half role
fits own IsInput (Some half) role = false
fits own IsOutput (Some half) role = false

abbrev pub extended : Wired → ℕ → Wired
extended w v = record { sizes = slice_set w.sizes v (slice_index w.sizes v + 1); links = w.links }

-- a gate at an index within the vector
abbrev pub unless_taken : Wired → Option GateId → Role → GateId → Result Taken ModelFault
unless_taken w other role id = if is_open w.links other role (key id)
    then Ok (record { wiring = w; id = id }) else Err AlreadyConnected

-- the gate of a vector at an index
abbrev pub gate_of_vector : NamedGate → ℕ → GateId
gate_of_vector g i = record { part = g.part; vector = g.vector; index = i }

abbrev pub at_natural : Wired → Option GateId → Role → NamedGate → Option ℕ
    → Result Taken ModelFault
at_natural w other role g None = Err GateSize
at_natural w other role g (Some i) = if nat_lt i (slice_index w.sizes g.vector)
    then unless_taken w other role (gate_of_vector g i) else Err GateSize

-- `[index]`
abbrev pub at_index : Wired → Option GateId → Role → NamedGate → ℤ → Result Taken ModelFault
at_index w other role g z = at_natural w other role g (natural z)

abbrev pub at_free : Wired → NamedGate → ℕ → Result Taken ModelFault
at_free w g i =
    if nat_lt i (slice_index w.sizes g.vector)
    then Ok (record { wiring = w; id = gate_of_vector g i })
    else if g.is_own || not (nat_lt i 65536) then Err GateSize
    else Ok (record { wiring = extended w g.vector; id = gate_of_vector g i })

-- `++`: the first free gate, or one more of a submodule's vector
abbrev pub at_next : Wired → Option GateId → Role → NamedGate → Result Taken ModelFault
at_next w other role g = at_free w g (next_index w other role g.vector)

-- a single gate
abbrev pub at_single : Wired → Option GateId → Role → NamedGate → Result Taken ModelFault
at_single w other role g = unless_taken w other role (gate_of_vector g 0)

abbrev pub left_role : Arrow → Role
left_role Right = Source
left_role Left = Target
left_role BothWays = Both

abbrev pub right_role : Arrow → Role
right_role Right = Target
right_role Left = Source
right_role BothWays = Both

-- only `<-->` takes the same halves at both ends
abbrev pub beside : Arrow → GateId → Option GateId
beside Right s = None
beside Left s = None
beside BothWays s = Some s

abbrev pub link : GateId → GateId → Carrier → Link
link s t c = record { from = s; to = t; carrier = c }

-- with a connection: of `<-->` the one carries from the left end, the other back
abbrev pub linked : Arrow → GateId → GateId → Carrier → Carrier → Wired → Wired
linked Right l r onwards back w = record { sizes = w.sizes; links = link l r onwards ∷ w.links }
linked Left l r onwards back w = record { sizes = w.sizes; links = link r l onwards ∷ w.links }
linked BothWays l r onwards back w =
    record { sizes = w.sizes; links = link r l back ∷ link l r onwards ∷ w.links }
