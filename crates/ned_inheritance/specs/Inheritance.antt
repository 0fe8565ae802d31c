-- Types that extend others: the bases of a type, and what it has with all that they have.
-- OMNeT++ Simulation Manual, "Inheritance".
use Rattle.std.specs.Prelude.{ℕ, zero, suc, Bool, true, false, not, ◌||◌, ◌&&◌, List, [], ◌∷◌, ◌++◌}
use Rattle.std.specs.Prelude.{length, map, Option, Some, None, if◌then◌else◌}
use Rattle.std.specs.Borrow.{Bor}
use Rattle.std.specs.List.{filter, list_any}
use Rattle.std.specs.Option.{option_and_then}
use Rattle.ned_trees.specs.declared.connections.ConnectionSection.{ConnectionSection}
use Rattle.ned_trees.specs.declared.declarations.SectionLine.{SectionLine}
use Rattle.ned_trees.specs.declared.declarations.SectionLine.TheVariants as line
use Rattle.ned_trees.specs.declared.declarations.TypeDeclaration.{TypeDeclaration}
use Rattle.ned_trees.specs.declared.declarations.TypeKind.{TypeKind}
use Rattle.ned_trees.specs.declared.declarations.TypeKind.TheVariants.{Simple, Module, Network}
use Rattle.ned_trees.specs.declared.declarations.TypeKind.TheVariants.{Channel, ModuleInterface}
use Rattle.ned_trees.specs.declared.declarations.TypeKind.TheVariants.{ChannelInterface}
use Rattle.ned_types.specs.Types.{type_named, is_built_in, is_type_named, is_simple_kind}
use Rattle.ned_types.specs.Types.{is_network_kind, is_channel_kind, is_interface_kind}
use Rattle.ned_types.specs.Channels.{root_lines}
use Rattle.ned_types.specs.Flat.{class_in, class_of, named_or}

-- ---- bases

-- the type of the name that is extended
abbrev pub base_of : List TypeDeclaration → Option (List ℕ) → Option TypeDeclaration
base_of types base = option_and_then (λ name. type_named name types) base

-- a type, what it extends, what that extends, and so on, so many of them
abbrev pub line_within : ℕ → List TypeDeclaration → Option TypeDeclaration → List TypeDeclaration
line_within n types None = []
line_within zero types (Some t) = []
line_within (suc n) types (Some t) = t ∷ line_within n types (base_of types t.base)

-- the same up to the root, as no line without a circle has more types than there are
abbrev pub line_of : List TypeDeclaration → TypeDeclaration → List TypeDeclaration
line_of types t = line_within (length types) types (Some t)

-- ---- the order of types

-- whether one of the types has the name of a base
abbrev pub is_base_among : List TypeDeclaration → Option (List ℕ) → Bool
is_base_among types None = false
is_base_among types (Some name) = is_type_named name types

-- whether one of the types has one of the names
abbrev pub is_one_among : List TypeDeclaration → List (List ℕ) → Bool
is_one_among types names = list_any (λ n. is_type_named n types) names

-- whether a type extends one of these; what an interface extends are its interfaces
abbrev pub extends_one : List TypeDeclaration → TypeDeclaration → Bool
extends_one types t =
    is_base_among types t.base || (is_interface_kind t.kind && is_one_among types t.interfaces)

-- those of the types that extend one of them
abbrev pub heirs : List TypeDeclaration → List TypeDeclaration
heirs types = filter (λ t. extends_one types t) types

-- the types that are left where those that extend none of the others were taken away so many times
abbrev pub left_after : ℕ → List TypeDeclaration → List TypeDeclaration
left_after zero types = types
left_after (suc n) types = left_after n (heirs types)

abbrev pub is_one_left : List TypeDeclaration → Bool
is_one_left [] = false
is_one_left (t ∷ ts) = true

-- whether a type extends itself, perhaps by way of others: some are left where those that extend
-- none of the others were taken away as many times as there are types
abbrev pub has_circle : List TypeDeclaration → Bool
has_circle types = is_one_left (left_after (length types) types)

-- ---- unknown bases

-- whether what is extended isn't there
abbrev pub extends_unknown : List TypeDeclaration → Option (List ℕ) → Bool
extends_unknown types None = false
extends_unknown types (Some name) = not (is_built_in name || is_type_named name types)

abbrev pub has_unknown_base : List TypeDeclaration → Bool
has_unknown_base types = list_any (λ t. extends_unknown types t.base) types

-- whether it is the kind of `module`
abbrev pub is_module_kind : TypeKind → Bool
is_module_kind Simple = false
is_module_kind Module = true
is_module_kind Network = false
is_module_kind Channel = false
is_module_kind ModuleInterface = false
is_module_kind ChannelInterface = false

-- whether it is a kind of compound modules
abbrev pub is_compound_kind : TypeKind → Bool
is_compound_kind kind = is_module_kind kind || is_network_kind kind

-- whether a type of the first kind may extend one of the second: a simple type a simple type, a
-- compound module or a network one of these two, and a channel a channel; what an interface extends
-- stands among its interfaces
abbrev pub can_extend : TypeKind → TypeKind → Bool
can_extend Simple of = is_simple_kind of
can_extend Module of = is_compound_kind of
can_extend Network of = is_compound_kind of
can_extend Channel of = is_channel_kind of
can_extend ModuleInterface of = false
can_extend ChannelInterface of = false

abbrev pub is_base : TypeKind → Option TypeDeclaration → Bool
is_base kind None = false
is_base kind (Some t) = can_extend kind t.kind

-- whether it is a channel that extends a built-in one
abbrev pub is_channel_of : TypeKind → List ℕ → Bool
is_channel_of kind name = is_channel_kind kind && is_built_in name

-- whether what is extended isn't of the kind of the type that extends it
abbrev pub extends_other : List TypeDeclaration → TypeKind → Option (List ℕ) → Bool
extends_other types kind None = false
extends_other types kind (Some name) =
    not (is_channel_of kind name || is_base kind (type_named name types))

abbrev pub has_other_base : List TypeDeclaration → Bool
has_other_base types = list_any (λ t. extends_other types t.kind t.base) types

-- ---- flat types

-- a section of connections without items
abbrev pub no_connections : ConnectionSection
no_connections = record { allow_unconnected = false; items = [] }

-- the connections of two sections, those of the first one first; gates may stay unconnected where
-- one of them says so
abbrev pub joined_connections : ConnectionSection → ConnectionSection → ConnectionSection
joined_connections c d = record {
  allow_unconnected = c.allow_unconnected || d.allow_unconnected;
  items = c.items ++ d.items;
}

-- a type with the members of another one after its own; those begin with what a built-in channel
-- has that the other extends
abbrev pub with_members : TypeDeclaration → TypeDeclaration → TypeDeclaration
with_members flat t = record {
  kind = flat.kind;
  name = flat.name;
  base = flat.base;
  interfaces = flat.interfaces ++ t.interfaces;
  lines = (flat.lines ++ root_lines t.base) ++ t.lines;
  gates = flat.gates ++ t.gates;
  submodules = flat.submodules ++ t.submodules;
  connections = joined_connections flat.connections t.connections;
}

-- a type with the members of all these, those of the last one first
abbrev pub joined_with : TypeDeclaration → List TypeDeclaration → TypeDeclaration
joined_with flat [] = flat
joined_with flat (t ∷ ts) = with_members (joined_with flat ts) t

-- the class of a type: the one that it names, or else that of its base; of the root at last its own
-- name
abbrev pub class_along : List TypeDeclaration → List ℕ
class_along [] = []
class_along (t ∷ []) = class_of t
class_along (t ∷ u ∷ ts) = named_or (class_in t.lines) (class_along (u ∷ ts))

-- the line that names the class, where there is one
abbrev pub class_lines : Bool → List ℕ → List SectionLine
class_lines true class = line.Class class ∷ []
class_lines false class = []

-- a type that extends another, before it has any member. The class of a simple type stands before
-- its lines, as the first class that lines name counts; types of other kinds have none. It keeps
-- the name of what it extends: names that values choose are looked up there too
abbrev pub bare_derived_type : List TypeDeclaration → TypeDeclaration → TypeDeclaration
bare_derived_type line t = record {
  kind = t.kind;
  name = t.name;
  base = t.base;
  interfaces = [];
  lines = class_lines (is_simple_kind t.kind) (class_along line);
  gates = [];
  submodules = [];
  connections = no_connections;
}

abbrev pub bare_derived : List TypeDeclaration → TypeDeclaration → TypeDeclaration
bare_derived types t = bare_derived_type (line_of types t) t

-- a type that extends another, with all that its bases have, what the root has first and its own
-- last
abbrev pub derived_type : List TypeDeclaration → TypeDeclaration → TypeDeclaration
derived_type types t = joined_with (bare_derived types t) (line_of types t)

abbrev pub flat_by : List TypeDeclaration → TypeDeclaration → Option (List ℕ) → TypeDeclaration
flat_by types t None = t
flat_by types t (Some name) = derived_type types t

-- ---- flat interfaces

-- a type after others, unless one of them has its name
abbrev pub once_behind : List TypeDeclaration → TypeDeclaration → List TypeDeclaration
once_behind line t = if is_type_named t.name line then line else line ++ t ∷ []

abbrev pub all_behind : List TypeDeclaration → List TypeDeclaration → List TypeDeclaration
all_behind line [] = line
all_behind line (t ∷ ts) = all_behind (once_behind line t) ts

-- the types of lists, one list after the other, each where it comes first
abbrev pub joined_behind : List TypeDeclaration → List (List TypeDeclaration) → List TypeDeclaration
joined_behind line [] = line
joined_behind line (more ∷ others) = joined_behind (all_behind line more) others

-- an interface after all that it extends, where this says the same of each name; nothing where
-- there is none
abbrev pub behind_all : (List ℕ → List TypeDeclaration) → Option TypeDeclaration
    → List TypeDeclaration
behind_all line None = []
behind_all line (Some t) = if is_interface_kind t.kind
    then once_behind (joined_behind [] (map line t.interfaces)) t else []

-- the interface of that name after all that it extends by ways of fewer than so many steps
abbrev pub reached : ℕ → List TypeDeclaration → List ℕ → List TypeDeclaration
reached zero types name = []
reached (suc n) types name = behind_all (λ m. reached n types m) (type_named name types)

-- THE INTERFACES of these names and all that they extend, each once and after what it extends
-- itself: a way without a circle has fewer steps than there are types
abbrev pub interfaces_behind : List TypeDeclaration → List (List ℕ) → List TypeDeclaration
interfaces_behind types names = joined_behind [] (map (λ n. reached (length types) types n) names)

-- a type with the members of all these, those of the first one first
abbrev pub gathered : TypeDeclaration → List TypeDeclaration → TypeDeclaration
gathered flat [] = flat
gathered flat (t ∷ ts) = gathered (with_members flat t) ts

-- a type without members
abbrev pub bare : TypeDeclaration → TypeDeclaration
bare t = record {
  kind = t.kind;
  name = t.name;
  base = None;
  interfaces = [];
  lines = [];
  gates = [];
  submodules = [];
  connections = no_connections;
}

abbrev pub without_interfaces : TypeDeclaration → TypeDeclaration
without_interfaces t = record {
  kind = t.kind;
  name = t.name;
  base = t.base;
  interfaces = [];
  lines = t.lines;
  gates = t.gates;
  submodules = t.submodules;
  connections = t.connections;
}

-- an interface with all that it extends, each once: its own members are the last
abbrev pub flat_interface : List TypeDeclaration → TypeDeclaration → TypeDeclaration
flat_interface types t =
    without_interfaces (with_members (gathered (bare t) (interfaces_behind types t.interfaces)) t)

-- ---- flat types of all kinds

abbrev pub flat_as : Bool → List TypeDeclaration → TypeDeclaration → TypeDeclaration
flat_as true types t = flat_interface types t
flat_as false types t = flat_by types t t.base

-- THE FLAT TYPE: what the type has with all that its bases have
abbrev pub flat_type : List TypeDeclaration → TypeDeclaration → TypeDeclaration
flat_type types t = flat_as (is_interface_kind t.kind) types t

-- the flat type of each
abbrev pub flat_types : List TypeDeclaration → List TypeDeclaration
flat_types types = map (flat_type types) types

-- the types that references lead to
abbrev pub types_in : List (Bor TypeDeclaration) → List TypeDeclaration
types_in refs = map (λ (r : Bor TypeDeclaration). r.now) refs
