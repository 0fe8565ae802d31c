-- The types that files declare, and what may be wrong with those that extend nothing.
use Rattle.std.specs.Prelude.{ℕ, Bool, true, false, not, ◌||◌, ◌&&◌, List, [], ◌∷◌, Option, Some}
use Rattle.std.specs.Prelude.{None, is_some, if◌then◌else◌, codes, ◌==◌}
use Rattle.std.specs.List.{list_any}
use Rattle.std.specs.Str.{bytes_eq}
use Rattle.ned_trees.specs.declared.declarations.GateSize.{GateSize}
use Rattle.ned_trees.specs.declared.declarations.GateSize.TheVariants as size
use Rattle.ned_trees.specs.declared.declarations.GateLine.{GateLine}
use Rattle.ned_trees.specs.declared.declarations.GateLine.TheVariants as gate
use Rattle.ned_trees.specs.declared.declarations.ParameterValue.{ParameterValue}
use Rattle.ned_trees.specs.declared.declarations.ParameterValue.TheVariants as parameter_value
use Rattle.ned_trees.specs.declared.declarations.SectionLine.{SectionLine}
use Rattle.ned_trees.specs.declared.declarations.SectionLine.TheVariants as line
use Rattle.ned_trees.specs.declared.declarations.Submodule.{Submodule}
use Rattle.ned_trees.specs.declared.declarations.SubmoduleType.{SubmoduleType}
use Rattle.ned_trees.specs.declared.declarations.SubmoduleType.TheVariants as submodule_type
use Rattle.ned_trees.specs.declared.declarations.TypeDeclaration.{TypeDeclaration}
use Rattle.ned_trees.specs.declared.declarations.TypeKind.{TypeKind}
use Rattle.ned_trees.specs.declared.declarations.TypeKind.TheVariants.{Simple, Module, Network}
use Rattle.ned_trees.specs.declared.declarations.TypeKind.TheVariants.{Channel, ModuleInterface}
use Rattle.ned_trees.specs.declared.declarations.TypeKind.TheVariants.{ChannelInterface}

-- the first type of that name
abbrev pub type_named : List ℕ → List TypeDeclaration → Option TypeDeclaration
type_named name [] = None
type_named name (t ∷ ts) = if bytes_eq t.name name then Some t else type_named name ts

-- ---- two types of one name

-- whether one of the types has that name
abbrev pub is_type_named : List ℕ → List TypeDeclaration → Bool
is_type_named name types = list_any (λ t. bytes_eq t.name name) types

-- whether a built-in channel has that name
abbrev pub is_built_in : List ℕ → Bool
is_built_in name = bytes_eq name (codes "IdealChannel") || bytes_eq name (codes "DelayChannel")
    || bytes_eq name (codes "DatarateChannel")

-- whether two types have one name, or one the name of a built-in channel
abbrev pub has_duplicate : List TypeDeclaration → Bool
has_duplicate [] = false
has_duplicate (t ∷ ts) = (is_built_in t.name || is_type_named t.name ts) || has_duplicate ts

-- ---- the type of a submodule

-- the name that stands for it: that of the type, or that of the interface after `like`
abbrev pub name_in_type : SubmoduleType → List ℕ
name_in_type (submodule_type.Named name) = name
name_in_type (submodule_type.Like p) = p.interface

abbrev pub type_name : Submodule → List ℕ
type_name s = name_in_type s.submodule_type

-- ---- a submodule of no type

-- whether the submodule's type is there
abbrev pub is_submodule_known : List TypeDeclaration → Submodule → Bool
is_submodule_known types s = is_built_in (type_name s) || is_type_named (type_name s) types

abbrev pub names_unknown : List TypeDeclaration → List Submodule → Bool
names_unknown types submodules = list_any (λ s. not (is_submodule_known types s)) submodules

-- whether the type of a submodule isn't there
abbrev pub has_unknown : List TypeDeclaration → Bool
has_unknown types = list_any (λ t. names_unknown types t.submodules) types

-- ---- parameter sections

-- the parameter that a line speaks of, and the value that it gives it
abbrev pub name_in : SectionLine → List ℕ
name_in (line.Declaration d) = d.name
name_in (line.Assignment a) = a.name
name_in _ = []

abbrev pub value_in : SectionLine → Option ParameterValue
value_in (line.Declaration d) = d.value
value_in (line.Assignment a) = a.value
value_in _ = None

-- whether the line declares the parameter
abbrev pub declares : List ℕ → SectionLine → Bool
declares name (line.Declaration d) = bytes_eq d.name name
declares name _ = false

abbrev pub is_declared : List ℕ → List SectionLine → Bool
is_declared name lines = list_any (λ l. declares name l) lines

abbrev pub is_declaration : SectionLine → Bool
is_declaration (line.Declaration d) = true
is_declaration _ = false

-- whether a parameter is declared twice
abbrev pub redeclares : List SectionLine → Bool
redeclares [] = false
redeclares (l ∷ ls) = (is_declaration l && is_declared (name_in l) ls) || redeclares ls

-- whether a value is given to a parameter that isn't declared
abbrev pub is_undeclared : List SectionLine → SectionLine → Bool
is_undeclared lines l = is_some (value_in l) && not (is_declared (name_in l) lines)

abbrev pub gives_undeclared : List SectionLine → Bool
gives_undeclared lines = list_any (λ l. is_undeclared lines l) lines

-- whether the line gives the parameter a value
abbrev pub gives : List ℕ → SectionLine → Bool
gives name l = is_some (value_in l) && bytes_eq (name_in l) name

abbrev pub is_fixed : Option ParameterValue → Bool
is_fixed (Some (parameter_value.Fixed e)) = true
is_fixed _ = false

abbrev pub is_given : List ℕ → List SectionLine → Bool
is_given name lines = list_any (λ l. gives name l) lines

-- whether a parameter with a fixed value is given another one
abbrev pub sets_fixed_again : List SectionLine → Bool
sets_fixed_again [] = false
sets_fixed_again (l ∷ ls) =
    (is_fixed (value_in l) && is_given (name_in l) ls) || sets_fixed_again ls

-- ---- bodies of submodules

-- whether the line gives the parameter a fixed value
abbrev pub gives_fixed : List ℕ → SectionLine → Bool
gives_fixed name l = is_fixed (value_in l) && bytes_eq (name_in l) name

abbrev pub is_fixed_in : List ℕ → List SectionLine → Bool
is_fixed_in name lines = list_any (λ l. gives_fixed name l) lines

-- whether the line gives a value to a parameter that has a fixed one in these lines
abbrev pub is_refixed : List SectionLine → SectionLine → Bool
is_refixed lines l = is_some (value_in l) && is_fixed_in (name_in l) lines

-- whether a line can't stand in a body over these lines of a type: it declares a parameter, or
-- gives a value to one that isn't declared there or has a fixed value there
abbrev pub is_unfit : List SectionLine → SectionLine → Bool
is_unfit lines l = is_declaration l || (is_undeclared lines l || is_refixed lines l)

abbrev pub has_unfit : List SectionLine → List SectionLine → Bool
has_unfit lines body = list_any (λ l. is_unfit lines l) body

-- whether a body can't stand over these lines of a type
abbrev pub body_clashes : List SectionLine → List SectionLine → Bool
body_clashes lines body = has_unfit lines body || sets_fixed_again body

-- the same of the body of a submodule, over the lines of its type
abbrev pub clashes_with : List SectionLine → Option TypeDeclaration → Bool
clashes_with body None = false
clashes_with body (Some t) = body_clashes t.lines body

abbrev pub has_unfit_body : List TypeDeclaration → Submodule → Bool
has_unfit_body types s = clashes_with s.body.lines (type_named (type_name s) types)

-- whether the body of a submodule can't stand over the lines of its type
abbrev pub bodies_clash : List TypeDeclaration → List Submodule → Bool
bodies_clash types submodules = list_any (λ s. has_unfit_body types s) submodules

-- ---- gates

-- whether the line declares a gate of that name
abbrev pub declares_gate : List ℕ → GateLine → Bool
declares_gate name (gate.Declaration d) = bytes_eq d.name name
declares_gate name (gate.Refinement r) = false

abbrev pub is_gate_declared : List ℕ → List GateLine → Bool
is_gate_declared name gates = list_any (λ g. declares_gate name g) gates

-- whether the line declares a gate that one of these declares
abbrev pub is_declared_again : List GateLine → GateLine → Bool
is_declared_again gates (gate.Declaration d) = is_gate_declared d.name gates
is_declared_again gates (gate.Refinement r) = false

-- whether a gate is declared twice
abbrev pub redeclares_gate : List GateLine → Bool
redeclares_gate [] = false
redeclares_gate (g ∷ gs) = is_declared_again gs g || redeclares_gate gs

-- whether the line declares a gate
abbrev pub is_gate_declaration : GateLine → Bool
is_gate_declaration (gate.Declaration d) = true
is_gate_declaration (gate.Refinement r) = false

abbrev pub declares_gates : Submodule → Bool
declares_gates s = list_any is_gate_declaration s.body.gates

-- whether the body of a submodule declares a gate: its type does
abbrev pub bodies_declare : List Submodule → Bool
bodies_declare submodules = list_any declares_gates submodules

-- ---- kinds

-- whether it is the kind of simple types
abbrev pub is_simple_kind : TypeKind → Bool
is_simple_kind Simple = true
is_simple_kind Module = false
is_simple_kind Network = false
is_simple_kind Channel = false
is_simple_kind ModuleInterface = false
is_simple_kind ChannelInterface = false

-- whether it is the kind of networks
abbrev pub is_network_kind : TypeKind → Bool
is_network_kind Simple = false
is_network_kind Module = false
is_network_kind Network = true
is_network_kind Channel = false
is_network_kind ModuleInterface = false
is_network_kind ChannelInterface = false

-- whether it is the kind of channels
abbrev pub is_channel_kind : TypeKind → Bool
is_channel_kind Simple = false
is_channel_kind Module = false
is_channel_kind Network = false
is_channel_kind Channel = true
is_channel_kind ModuleInterface = false
is_channel_kind ChannelInterface = false

-- whether it is the kind of module interfaces
abbrev pub is_module_interface : TypeKind → Bool
is_module_interface Simple = false
is_module_interface Module = false
is_module_interface Network = false
is_module_interface Channel = false
is_module_interface ModuleInterface = true
is_module_interface ChannelInterface = false

-- whether it is the kind of channel interfaces
abbrev pub is_channel_interface : TypeKind → Bool
is_channel_interface Simple = false
is_channel_interface Module = false
is_channel_interface Network = false
is_channel_interface Channel = false
is_channel_interface ModuleInterface = false
is_channel_interface ChannelInterface = true

-- whether it is a kind of interfaces
abbrev pub is_interface_kind : TypeKind → Bool
is_interface_kind Simple = false
is_interface_kind Module = false
is_interface_kind Network = false
is_interface_kind Channel = false
is_interface_kind ModuleInterface = true
is_interface_kind ChannelInterface = true

-- ---- networks within networks

-- whether it is the full name of a type within another: only there stands a dot (46)
abbrev pub is_inner_name : List ℕ → Bool
is_inner_name name = list_any (λ c. c == 46) name

-- whether it is a network within another
abbrev pub is_inner_network : TypeDeclaration → Bool
is_inner_network t = is_network_kind t.kind && is_inner_name t.name

abbrev pub has_inner_network : List TypeDeclaration → Bool
has_inner_network types = list_any is_inner_network types

-- ---- submodules

-- whether it is a kind of types of modules: that of simple types, of compound modules or of
-- networks
abbrev pub is_kind_of_modules : TypeKind → Bool
is_kind_of_modules Simple = true
is_kind_of_modules Module = true
is_kind_of_modules Network = true
is_kind_of_modules Channel = false
is_kind_of_modules ModuleInterface = false
is_kind_of_modules ChannelInterface = false

-- whether a type of that kind may stand there: a type of modules where its name does, an interface
-- of modules after `like`
abbrev pub suits_kind : SubmoduleType → TypeKind → Bool
suits_kind (submodule_type.Named name) kind = is_kind_of_modules kind
suits_kind (submodule_type.Like p) kind = is_module_interface kind

abbrev pub suits : SubmoduleType → Option TypeDeclaration → Bool
suits of None = false
suits of (Some t) = suits_kind of t.kind

abbrev pub is_submodule_suited : List TypeDeclaration → Submodule → Bool
is_submodule_suited types s = suits s.submodule_type (type_named (type_name s) types)

-- whether the type of a submodule isn't one of modules, or that after `like` isn't an interface of
-- modules
abbrev pub has_other_kind : List TypeDeclaration → List Submodule → Bool
has_other_kind types submodules = list_any (λ s. not (is_submodule_suited types s)) submodules

abbrev pub is_submodule_named : List ℕ → List Submodule → Bool
is_submodule_named name submodules = list_any (λ s. bytes_eq s.name name) submodules

-- whether a submodule is declared twice
abbrev pub repeats_submodule : List Submodule → Bool
repeats_submodule [] = false
repeats_submodule (s ∷ ss) = is_submodule_named s.name ss || repeats_submodule ss

-- ---- clashes

abbrev pub section_clashes : List SectionLine → Bool
section_clashes lines = redeclares lines || (gives_undeclared lines || sets_fixed_again lines)

abbrev pub submodules_clash : List TypeDeclaration → List Submodule → Bool
submodules_clash types submodules = repeats_submodule submodules || (has_other_kind types submodules
    || (bodies_clash types submodules || bodies_declare submodules))

-- ---- gates

-- whether it is a vector, whatever its size
abbrev pub is_vector : GateSize → Bool
is_vector size.Single = false
is_vector size.Open = true
is_vector (size.Sized e) = true
