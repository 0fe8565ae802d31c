-- A module among the parts of an inside, and the sizes of its gates there.
use Rattle.std.specs.Prelude.{ℕ, List, Option, Some, None, length, option_map, slice_index}
use Rattle.std.specs.Result.{result_ok}
use Rattle.module_api.specs.declared.call.Direction.{Direction}
use Rattle.module_api.specs.declared.call.Direction.TheVariants as way
use Rattle.ned_trees.specs.declared.declarations.GateDirection.{GateDirection}
use Rattle.ned_trees.specs.declared.declarations.GateDirection.TheVariants as direction
use Rattle.inside_parts.specs.declared.gates.TypeGates.{TypeGates}
use Rattle.inside_parts.specs.declared.parts.NamedGate.{NamedGate}
use Rattle.inside_wiring.specs.Ends.{gate_named}
use Rattle.inside_parts.specs.declared.parts.Parts.{Parts}
use Rattle.inside_wiring.specs.Wired.{Wired}

-- the gate vector of that name of a part, where the types have these gates
abbrev pub vector_of : List TypeGates → Parts → Wired → ℕ → List ℕ → Option NamedGate
vector_of gates ps w part g = result_ok (gate_named gates ps (length w.sizes) part g)

-- the finished size of a gate vector of a part
abbrev pub finished_size : List TypeGates → Parts → Wired → ℕ → List ℕ → Option ℕ
finished_size gates ps w part g =
    option_map (λ (v : NamedGate). slice_index w.sizes v.vector) (vector_of gates ps w part g)

-- the direction of a gate, as a call shows it
abbrev pub direction_of : GateDirection → Direction
direction_of direction.Input = way.Input
direction_of direction.Output = way.Output
direction_of direction.Inout = way.Inout
