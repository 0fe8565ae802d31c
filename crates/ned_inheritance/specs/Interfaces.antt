-- Interfaces: what types may keep, and whether they do.
-- OMNeT++ Simulation Manual, "Module Interfaces and Channel Interfaces".
use Rattle.std.specs.Prelude.{ℕ, Bool, true, false, not, ◌||◌, ◌&&◌, List, Option, Some, None}
use Rattle.std.specs.Prelude.{if◌then◌else◌}
use Rattle.std.specs.List.{list_any}
use Rattle.std.specs.Str.{bytes_eq}
use Rattle.ned_trees.specs.declared.declarations.Declaration.{Declaration}
use Rattle.ned_trees.specs.declared.declarations.GateDeclaration.{GateDeclaration}
use Rattle.ned_trees.specs.declared.declarations.GateDirection.{GateDirection}
use Rattle.ned_trees.specs.declared.declarations.GateDirection.TheVariants as direction
use Rattle.ned_trees.specs.declared.declarations.GateLine.{GateLine}
use Rattle.ned_trees.specs.declared.declarations.GateLine.TheVariants as gate
use Rattle.ned_trees.specs.declared.declarations.GateSize.{GateSize}
use Rattle.ned_trees.specs.declared.declarations.ParameterWord.{ParameterWord}
use Rattle.ned_trees.specs.declared.declarations.ParameterWord.TheVariants as word
use Rattle.ned_trees.specs.declared.declarations.SectionLine.{SectionLine}
use Rattle.ned_trees.specs.declared.declarations.SectionLine.TheVariants as line
use Rattle.ned_trees.specs.declared.declarations.TypeDeclaration.{TypeDeclaration}
use Rattle.ned_trees.specs.declared.declarations.TypeKind.{TypeKind}
use Rattle.ned_trees.specs.declared.declarations.TypeKind.TheVariants.{Simple, Module, Network}
use Rattle.ned_trees.specs.declared.declarations.TypeKind.TheVariants.{Channel, ModuleInterface}
use Rattle.ned_trees.specs.declared.declarations.TypeKind.TheVariants.{ChannelInterface}
use Rattle.ned_types.specs.Types.{type_named, is_built_in, is_type_named, is_module_interface}
use Rattle.ned_types.specs.Types.{is_channel_interface, is_vector}

-- ---- names of interfaces

-- whether one of the names is neither that of a type nor that of a built-in channel
abbrev pub names_no_type : List TypeDeclaration → List (List ℕ) → Bool
names_no_type types names = list_any (λ n. not (is_built_in n || is_type_named n types)) names

abbrev pub has_unknown_interface : List TypeDeclaration → Bool
has_unknown_interface types = list_any (λ t. names_no_type types t.interfaces) types

-- whether what stands among the interfaces of a type of the first kind may be of the second
abbrev pub can_keep : TypeKind → TypeKind → Bool
can_keep Simple of = is_module_interface of
can_keep Module of = is_module_interface of
can_keep Network of = is_module_interface of
can_keep Channel of = is_channel_interface of
can_keep ModuleInterface of = is_module_interface of
can_keep ChannelInterface of = is_channel_interface of

abbrev pub is_interface_for : TypeKind → Option TypeDeclaration → Bool
is_interface_for kind None = false
is_interface_for kind (Some t) = can_keep kind t.kind

-- whether one of the names is not that of an interface for that kind
abbrev pub keeps_other : List TypeDeclaration → TypeKind → List (List ℕ) → Bool
keeps_other types kind names =
    list_any (λ n. not (is_interface_for kind (type_named n types))) names

abbrev pub has_other_interface : List TypeDeclaration → Bool
has_other_interface types = list_any (λ t. keeps_other types t.kind t.interfaces) types

-- ---- what a type lacks

-- whether two words are one
abbrev pub is_bool : ParameterWord → Bool
is_bool word.Bool = true
is_bool word.Int = false
is_bool word.Text = false
is_bool word.Double = false

abbrev pub is_int : ParameterWord → Bool
is_int word.Bool = false
is_int word.Int = true
is_int word.Text = false
is_int word.Double = false

abbrev pub is_text : ParameterWord → Bool
is_text word.Bool = false
is_text word.Int = false
is_text word.Text = true
is_text word.Double = false

abbrev pub is_double : ParameterWord → Bool
is_double word.Bool = false
is_double word.Int = false
is_double word.Text = false
is_double word.Double = true

abbrev pub is_word : ParameterWord → ParameterWord → Bool
is_word word.Bool other = is_bool other
is_word word.Int other = is_int other
is_word word.Text other = is_text other
is_word word.Double other = is_double other

-- whether the line declares a parameter of that name and word
abbrev pub declares_as : Declaration → SectionLine → Bool
declares_as d (line.Declaration e) = bytes_eq e.name d.name && is_word e.word d.word
declares_as d _ = false

abbrev pub has_parameter : List SectionLine → Declaration → Bool
has_parameter lines d = list_any (λ l. declares_as d l) lines

-- whether the line declares a parameter that these lines lack
abbrev pub lacks_parameter : List SectionLine → SectionLine → Bool
lacks_parameter lines (line.Declaration d) = not (has_parameter lines d)
lacks_parameter lines _ = false

-- whether two directions are one
abbrev pub is_input : GateDirection → Bool
is_input direction.Input = true
is_input direction.Output = false
is_input direction.Inout = false

abbrev pub is_output : GateDirection → Bool
is_output direction.Input = false
is_output direction.Output = true
is_output direction.Inout = false

abbrev pub is_inout : GateDirection → Bool
is_inout direction.Input = false
is_inout direction.Output = false
is_inout direction.Inout = true

abbrev pub is_direction : GateDirection → GateDirection → Bool
is_direction direction.Input other = is_input other
is_direction direction.Output other = is_output other
is_direction direction.Inout other = is_inout other

-- whether both are vectors, or none is
abbrev pub are_alike : GateSize → GateSize → Bool
are_alike a b = if is_vector a then is_vector b else not (is_vector b)

-- whether the line declares a gate of that name and direction, a vector where that is one
abbrev pub declares_gate_as : GateDeclaration → GateLine → Bool
declares_gate_as d (gate.Declaration e) =
    bytes_eq e.name d.name && (is_direction e.direction d.direction && are_alike e.size d.size)
declares_gate_as d (gate.Refinement r) = false

abbrev pub has_gate : List GateLine → GateDeclaration → Bool
has_gate gates d = list_any (λ g. declares_gate_as d g) gates

-- whether the line declares a gate that these lines lack
abbrev pub lacks_gate : List GateLine → GateLine → Bool
lacks_gate gates (gate.Declaration d) = not (has_gate gates d)
lacks_gate gates (gate.Refinement r) = false

-- whether a type lacks a member of an interface
abbrev pub lacks_members : TypeDeclaration → TypeDeclaration → Bool
lacks_members t i = list_any (λ l. lacks_parameter t.lines l) i.lines
    || list_any (λ g. lacks_gate t.gates g) i.gates

abbrev pub lacks_any : TypeDeclaration → Option TypeDeclaration → Bool
lacks_any t None = false
lacks_any t (Some i) = lacks_members t i

-- whether a type lacks a member of one of its interfaces
abbrev pub breaks_interface : List TypeDeclaration → TypeDeclaration → Bool
breaks_interface types t = list_any (λ n. lacks_any t (type_named n types)) t.interfaces

abbrev pub has_broken : List TypeDeclaration → Bool
has_broken types = list_any (λ t. breaks_interface types t) types
