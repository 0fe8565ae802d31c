-- Types within others, and which type a name means.
-- OMNeT++ Simulation Manual, "Inner Types", "Type Name Resolution".
use Rattle.std.specs.Prelude.{ℕ, zero, suc, List, [], ◌∷◌, ◌++◌, length, map, Option, Some, None}
use Rattle.std.specs.Prelude.{option_map, if◌then◌else◌, codes}
use Rattle.ned_trees.specs.declared.connections.Channel.{Channel}
use Rattle.ned_trees.specs.declared.connections.Connection.{Connection}
use Rattle.ned_trees.specs.declared.connections.ConnectionItem.{ConnectionItem}
use Rattle.ned_trees.specs.declared.connections.ConnectionItem.TheVariants as item
use Rattle.ned_trees.specs.declared.connections.ConnectionLine.{ConnectionLine}
use Rattle.ned_trees.specs.declared.connections.ConnectionSection.{ConnectionSection}
use Rattle.ned_trees.specs.declared.declarations.NedFile.{NedFile}
use Rattle.ned_trees.specs.declared.declarations.NestedType.{NestedType, out-NestedType}
use Rattle.ned_trees.specs.declared.declarations.NestedType.TheOpen.{NestedType-F}
use Rattle.ned_trees.specs.declared.declarations.NestedType.TheFolds.{fold-NestedType}
use Rattle.ned_trees.specs.declared.declarations.SectionLine.{SectionLine}
use Rattle.ned_trees.specs.declared.declarations.SectionLine.TheVariants as line
use Rattle.ned_trees.specs.declared.declarations.Submodule.{Submodule}
use Rattle.ned_trees.specs.declared.declarations.SubmoduleType.{SubmoduleType}
use Rattle.ned_trees.specs.declared.declarations.SubmoduleType.TheVariants as submodule_type
use Rattle.ned_trees.specs.declared.declarations.TypeDeclaration.{TypeDeclaration}
use Rattle.ned_trees.specs.declared.declarations.TypeKind.{TypeKind}
use Rattle.ned_trees.specs.declared.declarations.TypeKind.TheVariants as kind
use Rattle.ned_scopes.specs.declared.known.Known.{Known}
use Rattle.ned_scopes.specs.declared.known.TypesByName.{TypesByName}
use Rattle.ned_scopes.specs.Known.{is_known, base_named, all_behind}

-- ---- full names

-- the full name of a type within another: that one's full name, a dot, and its own. A name in NED
-- has no dot
abbrev pub inner_name : List ℕ → List ℕ → List ℕ
inner_name outer name = outer ++ codes "." ++ name

-- the full name of a type where these are the scopes of the type around it, the nearest first; a
-- type of a file has none
abbrev pub full_name : List (List ℕ) → List ℕ → List ℕ
full_name [] name = name
full_name (scope ∷ scopes) name = inner_name scope name

-- ---- the types that are known

-- a type without those within it
abbrev pub declared_of : NestedType → TypeDeclaration
declared_of t = (out-NestedType t).declared

-- a type that has this full name
abbrev pub known_as : List ℕ → TypeDeclaration → Known
known_as name t = record { name = name; base = t.base }

abbrev pub known_below : List ℕ → List (List ℕ → List Known) → List Known
known_below outer [] = []
known_below outer (t ∷ ts) = t outer ++ known_below outer ts

-- a type, and then those within it, where what gives those within it stands in place of them
abbrev pub known_step : NestedType-F (List ℕ → List Known) → List ℕ → List Known
known_step t outer = known_as (inner_name outer t.declared.name) t.declared
    ∷ known_below (inner_name outer t.declared.name) t.types

-- a type within the one of that full name, and all types within it
abbrev pub known_from : NestedType → List ℕ → List Known
known_from = fold-NestedType (List ℕ → List Known) known_step

-- these types within the one of that full name, and all types within them
abbrev pub known_within : List ℕ → List NestedType → List Known
known_within outer types = known_below outer (map known_from types)

-- all types within those of files
abbrev pub inner_types : List NestedType → List Known
inner_types [] = []
inner_types (t ∷ ts) =
    known_within (out-NestedType t).declared.name (out-NestedType t).types ++ inner_types ts

-- the types of files, each with all within it
abbrev pub all_types : List NestedType → List Known
all_types [] = []
all_types (t ∷ ts) = known_as (out-NestedType t).declared.name (out-NestedType t).declared
    ∷ (known_within (out-NestedType t).declared.name (out-NestedType t).types ++ all_types ts)

-- the types by their full names: all, and those within others
abbrev pub types_by_name : List NestedType → TypesByName
types_by_name types =
    record { all = all_behind [] (all_types types); inner = all_behind [] (inner_types types) }

-- ---- scopes

-- the scopes from the first one on that declares the name; none where no scope does
abbrev pub declaring : TypesByName → List (List ℕ) → List ℕ → List (List ℕ)
declaring types [] name = []
declaring types (scope ∷ scopes) name = if is_known types.inner (inner_name scope name)
    then scope ∷ scopes else declaring types scopes name

-- THE TYPE THAT IS MEANT by a name that is looked up in these scopes: that of the first scope that
-- declares it, or else what has that name globally
abbrev pub meant : TypesByName → List (List ℕ) → List ℕ → List ℕ
meant types scopes name = full_name (declaring types scopes name) name

-- what is extended, what that extends, and so on, so many of them, where the first is looked up in
-- these scopes. A base that one of them declares is a type within that scope, so its own base is
-- looked up in that scope and those after it
abbrev pub bases_within : ℕ → TypesByName → List (List ℕ) → Option (List ℕ) → List (List ℕ)
bases_within n types scopes None = []
bases_within zero types scopes (Some base) = []
bases_within (suc n) types scopes (Some base) = meant types scopes base ∷ bases_within n types
    (declaring types scopes base) (base_named types.all (meant types scopes base))

-- THE SCOPES of what stands within a type, whose head is looked up in these: the type itself, and
-- all that it extends, perhaps by way of others, as no line without a circle has more types than
-- there are
abbrev pub scopes_of : TypesByName → List (List ℕ) → TypeDeclaration → List (List ℕ)
scopes_of types scopes t =
    full_name scopes t.name ∷ bases_within (length types.all) types scopes t.base

-- ---- types whose names mean one type everywhere

-- the line that names the class of a simple type that extends none: its own name, without those of
-- the types around it
abbrev pub class_line : TypeKind → Option (List ℕ) → List ℕ → List SectionLine
class_line kind.Simple None name = line.Class name ∷ []
class_line kind.Simple (Some base) name = []
class_line kind.Module base name = []
class_line kind.Network base name = []
class_line kind.Channel base name = []
class_line kind.ModuleInterface base name = []
class_line kind.ChannelInterface base name = []

-- the line stands after the lines of a type within another, as the first class that lines name
-- counts
abbrev pub own_class : List (List ℕ) → TypeDeclaration → List SectionLine
own_class [] t = []
own_class (scope ∷ scopes) t = class_line t.kind t.base t.name

-- the type of a submodule, or the interface after `like`, looked up in these scopes
abbrev pub meant_type : TypesByName → List (List ℕ) → SubmoduleType → SubmoduleType
meant_type types scopes (submodule_type.Named name) = submodule_type.Named (meant types scopes name)
meant_type types scopes (submodule_type.Like p) =
    submodule_type.Like (record { given = p.given; interface = meant types scopes p.interface })

-- a submodule, whose type is looked up in these scopes
abbrev pub resolved_submodule : TypesByName → List (List ℕ) → Submodule → Submodule
resolved_submodule types scopes s = record {
  name = s.name;
  size = s.size;
  submodule_type =
      meant_type types scopes s.submodule_type;
  condition = s.condition;
  body = s.body;
}

-- the channel of a connection, whose type is looked up in these scopes
abbrev pub resolved_channel : TypesByName → List (List ℕ) → Channel → Channel
resolved_channel types scopes c =
    record { type_name = option_map (meant types scopes) c.type_name; lines = c.lines }

abbrev pub resolved_connection : TypesByName → List (List ℕ) → Connection → Connection
resolved_connection types scopes c = record {
  left = c.left;
  arrow = c.arrow;
  channel = option_map (resolved_channel types scopes) c.channel;
  right = c.right;
}

abbrev pub resolved_line : TypesByName → List (List ℕ) → ConnectionLine → ConnectionLine
resolved_line types scopes l =
    record { connection = resolved_connection types scopes l.connection; clauses = l.clauses }

abbrev pub resolved_item : TypesByName → List (List ℕ) → ConnectionItem → ConnectionItem
resolved_item types scopes (item.Line l) = item.Line (resolved_line types scopes l)
resolved_item types scopes (item.Group g) =
    item.Group (record { clauses = g.clauses; lines = map (resolved_line types scopes) g.lines })

-- a section of connections, whose channels' types are looked up in these scopes
abbrev pub resolved_connections : TypesByName → List (List ℕ) → ConnectionSection
    → ConnectionSection
resolved_connections types scopes c = record {
  allow_unconnected = c.allow_unconnected;
  items = map (resolved_item types scopes) c.items;
}

-- A TYPE WITH FULL NAMES: its head is looked up in the first scopes, and what stands within it in
-- the others
abbrev pub resolved : TypesByName → List (List ℕ) → List (List ℕ) → TypeDeclaration
    → TypeDeclaration
resolved types scopes own t = record {
  kind = t.kind;
  name = full_name scopes t.name;
  base = option_map (meant types scopes) t.base;
  interfaces = map (meant types scopes) t.interfaces;
  lines = t.lines ++ own_class scopes t;
  gates = t.gates;
  submodules = map (resolved_submodule types own) t.submodules;
  connections = resolved_connections types own t.connections;
}

abbrev pub resolved_below : List (List ℕ) → List (List (List ℕ) → List TypeDeclaration)
    → List TypeDeclaration
resolved_below scopes [] = []
resolved_below scopes (t ∷ ts) = t scopes ++ resolved_below scopes ts

-- a type, and then those within it, where what gives those within it stands in place of them
abbrev pub resolved_step : TypesByName → NestedType-F (List (List ℕ) → List TypeDeclaration)
    → List (List ℕ) → List TypeDeclaration
resolved_step types t scopes = resolved types scopes (scopes_of types scopes t.declared) t.declared
    ∷ resolved_below (scopes_of types scopes t.declared) t.types

-- a type and all types within it, where these are the scopes of its head
abbrev pub resolved_from : TypesByName → NestedType → List (List ℕ) → List TypeDeclaration
resolved_from types = fold-NestedType (List (List ℕ) → List TypeDeclaration) (resolved_step types)

-- these types and all types within them
abbrev pub resolved_within : TypesByName → List (List ℕ) → List NestedType → List TypeDeclaration
resolved_within types scopes nested = resolved_below scopes (map (resolved_from types) nested)

-- the types of all files, one file after the other
abbrev pub nested_of : List NedFile → List NestedType
nested_of [] = []
nested_of (file ∷ files) = file.types ++ nested_of files

-- ALL TYPES of all files, each directly before those within it, by their full names
unfoldable pub types_of : List NedFile → List TypeDeclaration
types_of files = resolved_within (types_by_name (nested_of files)) [] (nested_of files)
