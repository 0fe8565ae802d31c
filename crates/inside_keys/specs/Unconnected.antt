-- Gates that have to be connected (OMNeT++ Simulation Manual, "Connections").
use Rattle.std.specs.Prelude.{ℕ, suc, ◌+◌, Bool, true, false, ◌||◌, List, [], ◌∷◌, Option, Some}
use Rattle.std.specs.Prelude.{None, is_none, is_some, nat_lt, if◌then◌else◌, slice_get, slice_index}
use Rattle.ned_trees.specs.declared.declarations.GateDirection.{GateDirection}
use Rattle.ned_trees.specs.declared.declarations.GateDirection.TheVariants.{Input, Output, Inout}
use Rattle.ned_trees.specs.declared.declarations.Submodule.{Submodule}
use Rattle.ned_trees.specs.declared.declarations.TypeDeclaration.{TypeDeclaration}
use Rattle.ned_types.specs.Flat.{or_else}
use Rattle.inside_parts.specs.declared.gates.TypeGate.{TypeGate}
use Rattle.inside_parts.specs.declared.gates.TypeGates.{TypeGates}
use Rattle.inside_parts.specs.declared.parts.Part.{Part}
use Rattle.inside_parts.specs.Gates.{loosened}
use Rattle.inside_parts.specs.Names.{position_of}
use Rattle.inside_wiring.specs.declared.wiring.Link.{Link}
use Rattle.inside_wiring.specs.declared.wiring.Role.{Role}
use Rattle.inside_wiring.specs.declared.wiring.Role.TheVariants.{Source, Target, Both}
use Rattle.inside_wiring.specs.Wired.{Key, Wired, least, link_from, link_to}
use Rattle.inside_keys.specs.declared.found.Inside.{Inside}
use Rattle.inside_keys.specs.Inside.{gates_in}

-- whether a gate lacks what a role needs; an inout gate needs both halves
abbrev pub is_lacking : List Link → Role → Key → Bool
is_lacking links Source q = is_none (link_from links q)
is_lacking links Target q = is_none (link_to links q)
is_lacking links Both q = is_none (link_from links q) || is_none (link_to links q)

-- the first index of a gate vector that isn't connected, else the size
abbrev pub first_lacking : Wired → Role → ℕ → ℕ
first_lacking w role v = least (λ i. is_lacking w.links role (v, i)) 0 (slice_index w.sizes v)

abbrev pub lacks_one : Wired → Role → ℕ → Bool
lacks_one w role v = nat_lt (first_lacking w role v) (slice_index w.sizes v)

-- what has to be connected of a gate: a submodule's is seen from outside, the module's own from
-- within
abbrev pub needed : Bool → GateDirection → Role
needed false Input = Target
needed false Output = Source
needed true Input = Source
needed true Output = Target
needed own Inout = Both

abbrev pub may_stay_free : List (List ℕ) → TypeGate → Bool
may_stay_free loose g = g.kind.is_loose || is_some (position_of g.name loose)

-- whether a gate lacks a connection, which has that vector, where the gates of these names may stay
-- free
abbrev pub gate_lacks : Wired → Bool → List (List ℕ) → ℕ → TypeGate → Bool
gate_lacks w own loose v g =
    if may_stay_free loose g then false else lacks_one w (needed own g.kind.direction) v

-- whether one of these gates does, whose vectors follow one another from that one on
abbrev pub one_lacks : Wired → Bool → List (List ℕ) → ℕ → List TypeGate → Bool
one_lacks w own loose v [] = false
one_lacks w own loose v (g ∷ gs) =
    if gate_lacks w own loose v g then true else one_lacks w own loose (v + 1) gs

abbrev pub loosened_in : Option Submodule → List (List ℕ)
loosened_in None = []
loosened_in (Some l) = loosened l.body.gates

-- the gates that the body of a submodule lets stay free; the module itself has no body here
abbrev pub loosened_of : List Submodule → Part → List (List ℕ)
loosened_of submodules p = if p.is_own then [] else loosened_in (slice_get submodules p.line)

-- whether a gate of a part lacks a connection
abbrev pub part_lacks : TypeDeclaration → List TypeGates → Wired → Part → Bool
part_lacks t gates w p =
    one_lacks w p.is_own (loosened_of t.submodules p) p.first (gates_in (slice_get gates p.of_type))

-- the number of the first of these parts that does, where the first of all has that number
abbrev pub lacking_from : TypeDeclaration → List TypeGates → Wired → ℕ → List Part → Option ℕ
lacking_from t gates w n [] = None
lacking_from t gates w n (p ∷ ps) =
    if part_lacks t gates w p then Some n else lacking_from t gates w (suc n) ps

abbrev pub own_lacking : TypeDeclaration → List TypeGates → Wired → Part → Option ℕ
own_lacking t gates w p = if part_lacks t gates w p then Some 0 else None

-- the submodules first, and then the module itself, which is part 0
abbrev pub lacking_in : TypeDeclaration → List TypeGates → Wired → List Part → Option ℕ
lacking_in t gates w [] = None
lacking_in t gates w (p ∷ ps) = or_else (lacking_from t gates w 1 ps) (own_lacking t gates w p)

-- THE FIRST PART with a gate that has to be connected and isn't: each submodule's on its outer
-- side, the module's own on its inner side, unless the connections of the type, or of what it
-- extends, allow it, or the gate is loose
abbrev pub unconnected : TypeDeclaration → List TypeGates → Inside → Option ℕ
unconnected t gates i =
    if t.connections.allow_unconnected then None else lacking_in t gates i.wiring i.parts.parts
