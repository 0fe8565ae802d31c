-- The gates of a flat type (OMNeT++ Simulation Manual, "Gates").
use Rattle.std.specs.Prelude.{ℕ, List, [], ◌∷◌, ◌++◌, is_some, if◌then◌else◌}
use Rattle.ned_trees.specs.declared.declarations.GateDeclaration.{GateDeclaration}
use Rattle.ned_trees.specs.declared.declarations.GateLine.{GateLine}
use Rattle.ned_trees.specs.declared.declarations.GateLine.TheVariants as line
use Rattle.ned_types.specs.Types.{is_vector}
use Rattle.inside_parts.specs.declared.gates.TypeGate.{TypeGate}
use Rattle.inside_parts.specs.declared.gates.TypeGates.{TypeGates}
use Rattle.inside_parts.specs.Names.{is_one, position_of, with_name}

-- the names, and that of a line which says that its gate may stay unconnected
abbrev pub loosened_by : GateLine → List (List ℕ) → List (List ℕ)
loosened_by (line.Declaration d) names = if d.loose then with_name d.name names else names
loosened_by (line.Refinement r) names = if r.loose then with_name r.name names else names

-- the names of the gates of which some line says that they may stay unconnected, after these
abbrev pub loosened_from : List GateLine → List (List ℕ) → List (List ℕ)
loosened_from [] names = names
loosened_from (l ∷ ls) names = loosened_from ls (loosened_by l names)

abbrev pub loosened : List GateLine → List (List ℕ)
loosened lines = loosened_from lines []

-- a gate that is declared so, where the gates of these names may stay unconnected
abbrev pub gate_by : List (List ℕ) → GateDeclaration → TypeGate
gate_by loose d = record {
  name = d.name;
  kind = record {
    direction = d.direction;
    is_vector = is_vector d.size;
    is_loose = is_some (position_of d.name loose);
  };
}

-- one more, unless there is one of its name
abbrev pub with_gate : List (List ℕ) → GateDeclaration → TypeGates → TypeGates
with_gate loose d g = if is_one d.name g.names then g
    else record { names = g.names ++ d.name ∷ []; gates = g.gates ++ gate_by loose d ∷ [] }

abbrev pub with_line : List (List ℕ) → GateLine → TypeGates → TypeGates
with_line loose (line.Declaration d) g = with_gate loose d g
with_line loose (line.Refinement r) g = g

abbrev pub gates_from : List (List ℕ) → List GateLine → TypeGates → TypeGates
gates_from loose [] g = g
gates_from loose (l ∷ ls) g = gates_from loose ls (with_line loose l g)

abbrev pub no_gates : TypeGates
no_gates = record { names = []; gates = [] }

-- THE GATES of a flat type with these lines: those that are declared, in their order; a line
-- without a direction may loosen one
abbrev pub gates_of : List GateLine → TypeGates
gates_of lines = gates_from (loosened lines) lines no_gates
