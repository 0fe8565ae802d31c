-- What the model says of types.
use Rattle.std.specs.Prelude.{ℕ, List, Option, Some, None}
use Rattle.std.specs.Option.{option_and_then}
use Rattle.ini_trees.specs.declared.lines.IniEntry.{IniEntry}
use Rattle.ini_trees.specs.Entries.{last_name, network_entry, time_limit_entry}
use Rattle.ini_trees.specs.Sections.{entries_along}
use Rattle.ned_trees.specs.declared.declarations.TypeDeclaration.{TypeDeclaration}
use Rattle.ned_trees.specs.declared.declarations.TypeKind.{TypeKind}
use Rattle.ned_trees.specs.declared.declarations.TypeKind.TheVariants.{Simple, Module, Network}
use Rattle.ned_trees.specs.declared.declarations.TypeKind.TheVariants.{Channel, ModuleInterface}
use Rattle.ned_trees.specs.declared.declarations.TypeKind.TheVariants.{ChannelInterface}
use Rattle.ned_types.specs.Types.{type_named}
use Rattle.model_data.specs.declared.model.Model.{Model}

-- the entries that count, in their order: those of the sections of the configuration's chain
abbrev pub entries_in : Model → List IniEntry
entries_in m = entries_along m.chain m.ini

abbrev pub of_kind : TypeKind → TypeDeclaration → Option TypeDeclaration
of_kind Network t = Some t
of_kind Simple t = None
of_kind Module t = None
of_kind Channel t = None
of_kind ModuleInterface t = None
of_kind ChannelInterface t = None

abbrev pub as_network : TypeDeclaration → Option TypeDeclaration
as_network t = of_kind t.kind t

abbrev pub named_type : Model → List ℕ → Option TypeDeclaration
named_type m name = type_named name m.types

-- the type that a name with its package, or without, names
abbrev pub type_by_last_name : Model → List ℕ → Option TypeDeclaration
type_by_last_name m name = named_type m (last_name name)

-- the network that is to be run: the one that the first entry of the option `network` names
abbrev pub network_of : Model → Option TypeDeclaration
network_of m = option_and_then as_network
    (option_and_then (type_by_last_name m) (network_entry (entries_in m)))

-- the time after which no event is executed, in picoseconds: that of the first entry of the option
-- `sim-time-limit`
unfoldable pub time_limit_of : Model → Option ℕ
time_limit_of m = time_limit_entry (entries_in m)
