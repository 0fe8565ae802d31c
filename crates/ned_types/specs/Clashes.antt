-- What may be wrong with the channels of connections, and all that may be wrong with a type.
-- OMNeT++ Simulation Manual, "Channels", "Connections".
use Rattle.std.specs.Prelude.{ℕ, Bool, true, false, not, ◌||◌, List, [], ◌∷◌, Option, Some, None}
use Rattle.std.specs.Prelude.{if◌then◌else◌, codes}
use Rattle.std.specs.List.{list_any}
use Rattle.ned_trees.specs.declared.connections.Channel.{Channel}
use Rattle.ned_trees.specs.declared.connections.ConnectionItem.{ConnectionItem}
use Rattle.ned_trees.specs.declared.connections.ConnectionItem.TheVariants as item
use Rattle.ned_trees.specs.declared.connections.ConnectionLine.{ConnectionLine}
use Rattle.ned_trees.specs.declared.declarations.SectionLine.{SectionLine}
use Rattle.ned_trees.specs.declared.declarations.TypeDeclaration.{TypeDeclaration}
use Rattle.ned_types.specs.Channels.{built_in_lines}
use Rattle.ned_types.specs.Flat.{named_or}
use Rattle.ned_types.specs.Types.{body_clashes, is_built_in, is_channel_kind, is_given}
use Rattle.ned_types.specs.Types.{is_type_named, redeclares_gate, section_clashes, submodules_clash}
use Rattle.ned_types.specs.Types.{type_named}

-- ---- channels of connections

-- the connections of an item, one or those of a group
abbrev pub connections_of : ConnectionItem → List ConnectionLine
connections_of (item.Line l) = l ∷ []
connections_of (item.Group g) = g.lines

abbrev pub has_unknown_name : List TypeDeclaration → Option (List ℕ) → Bool
has_unknown_name types None = false
has_unknown_name types (Some name) = not (is_built_in name || is_type_named name types)

abbrev pub names_no_channel : List TypeDeclaration → Option Channel → Bool
names_no_channel types None = false
names_no_channel types (Some c) = has_unknown_name types c.type_name

-- whether the name of the channel of a connection is neither that of a type nor of a built-in
-- channel
abbrev pub is_channel_unknown : List TypeDeclaration → ConnectionLine → Bool
is_channel_unknown types l = names_no_channel types l.connection.channel

abbrev pub has_unknown_channel : List TypeDeclaration → List ConnectionItem → Bool
has_unknown_channel types items =
    list_any (λ i. list_any (λ l. is_channel_unknown types l) (connections_of i)) items

-- whether the channel of a connection has an unknown name
abbrev pub has_unknown_channels : List TypeDeclaration → Bool
has_unknown_channels types = list_any (λ t. has_unknown_channel types t.connections.items) types

-- whether the lines give one of these parameters a value
abbrev pub sets_rate : List SectionLine → Bool
sets_rate lines = is_given (codes "datarate") lines
    || (is_given (codes "ber") lines || is_given (codes "per") lines)

abbrev pub sets_delay : List SectionLine → Bool
sets_delay lines = is_given (codes "delay") lines || is_given (codes "disabled") lines

-- the built-in channel that a block alone means: it tells it by what it sets
abbrev pub channel_of_block : List SectionLine → List ℕ
channel_of_block lines = if sets_rate lines then codes "DatarateChannel"
    else (if sets_delay lines then codes "DelayChannel" else codes "IdealChannel")

-- the name of a channel's type: the one that is written, or that which its block means
abbrev pub channel_name : Channel → List ℕ
channel_name c = named_or c.type_name (channel_of_block c.lines)

-- the lines of a type, where it is a channel
abbrev pub lines_of_channel : Option TypeDeclaration → Option (List SectionLine)
lines_of_channel None = None
lines_of_channel (Some t) = if is_channel_kind t.kind then Some t.lines else None

-- the lines of the channel of that name: a built-in one or one of these types
abbrev pub channel_lines : List TypeDeclaration → List ℕ → Option (List SectionLine)
channel_lines types name = if is_built_in name then Some (built_in_lines name)
    else lines_of_channel (type_named name types)

-- whether a block can't stand over the lines of its channel, or there is no such channel
abbrev pub block_clashes : List SectionLine → Option (List SectionLine) → Bool
block_clashes block None = true
block_clashes block (Some lines) = body_clashes lines block

abbrev pub channel_clashes : List TypeDeclaration → Option Channel → Bool
channel_clashes types None = false
channel_clashes types (Some c) = block_clashes c.lines (channel_lines types (channel_name c))

abbrev pub line_clashes : List TypeDeclaration → ConnectionLine → Bool
line_clashes types l = channel_clashes types l.connection.channel

-- whether what the channel of a connection names is no channel, or its block can't stand over the
-- lines of that channel
abbrev pub connections_clash : List TypeDeclaration → List ConnectionItem → Bool
connections_clash types items =
    list_any (λ i. list_any (λ l. line_clashes types l) (connections_of i)) items

-- ---- all clashes

-- whether a parameter, a gate or a submodule of the type is declared twice, a value is given to an
-- undeclared parameter or after a fixed one, a submodule's type isn't one of modules, the body of a
-- submodule clashes with its type, or the channel of a connection does
abbrev pub clashes : List TypeDeclaration → TypeDeclaration → Bool
clashes types t = section_clashes t.lines || (redeclares_gate t.gates
    || (submodules_clash types t.submodules || connections_clash types t.connections.items))

abbrev pub has_clash : List TypeDeclaration → Bool
has_clash types = list_any (λ t. clashes types t) types
