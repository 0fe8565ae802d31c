-- The expressions that give keys their values (OMNeT++ Simulation Manual, "Assigning Parameters",
-- "Gates", "Submodules").
use Rattle.std.specs.Prelude.{ℕ, ◌==◌, ℤ, Bool, false, List, [], ◌∷◌, ◌++◌, ◌&&◌, length, not}
use Rattle.std.specs.Prelude.{reverse, Option, Some, None, bytes_eq, if◌then◌else◌, is_some}
use Rattle.std.specs.Prelude.{slice_get}
use Rattle.std.specs.Option.{option_and_then}
use Rattle.ned_trees.specs.declared.connections.Channel.{Channel}
use Rattle.ned_trees.specs.declared.connections.Clause.{Clause}
use Rattle.ned_trees.specs.declared.connections.Clause.TheVariants.{For, If}
use Rattle.ned_trees.specs.declared.connections.Connection.{Connection}
use Rattle.ned_trees.specs.declared.connections.ConnectionItem.{ConnectionItem}
use Rattle.ned_trees.specs.declared.connections.ConnectionItem.TheVariants as item
use Rattle.ned_trees.specs.declared.connections.ConnectionLine.{ConnectionLine}
use Rattle.ned_trees.specs.declared.declarations.Declaration.{Declaration}
use Rattle.ned_trees.specs.declared.declarations.GateLine.{GateLine}
use Rattle.ned_trees.specs.declared.declarations.GateLine.TheVariants as gate
use Rattle.ned_trees.specs.declared.declarations.GateSize.{GateSize}
use Rattle.ned_trees.specs.declared.declarations.GateSize.TheVariants as size
use Rattle.ned_trees.specs.declared.declarations.ParameterValue.{ParameterValue}
use Rattle.ned_trees.specs.declared.declarations.ParameterValue.TheVariants as value
use Rattle.ned_trees.specs.declared.declarations.SectionLine.{SectionLine}
use Rattle.ned_trees.specs.declared.declarations.Submodule.{Submodule}
use Rattle.ned_trees.specs.declared.declarations.SubmoduleBody.{SubmoduleBody}
use Rattle.ned_trees.specs.declared.declarations.TypeDeclaration.{TypeDeclaration}
use Rattle.ned_trees.specs.declared.expressions.Expression.{Expression}
use Rattle.ned_types.specs.Flat.{declaration_named, last_value, or_else, submodule_named}
use Rattle.param_values.specs.declared.scene.Section as written_section
use Rattle.param_values.specs.declared.scene.Section.TheVariants as written
use Rattle.param_values.specs.Settings.{Written, Given, Fixed, Default}
use Rattle.param_values.specs.Values.{first_given}
use Rattle.inside_parts.specs.declared.gates.TypeGate.{TypeGate}
use Rattle.inside_parts.specs.declared.gates.TypeGates.{TypeGates}
use Rattle.inside_parts.specs.Names.{position_of}
use Rattle.inside_wiring.specs.declared.wiring.ChannelKind.{ChannelKind}
use Rattle.inside_wiring.specs.declared.wiring.ChannelKind.TheVariants as channel_kinds
use Rattle.inside_keys.specs.declared.check.Check.{Check}
use Rattle.inside_keys.specs.declared.check.Check.TheVariants as check
use Rattle.inside_keys.specs.declared.key.ChannelAt.{ChannelAt}
use Rattle.inside_keys.specs.declared.key.Module.{Module}
use Rattle.inside_keys.specs.declared.key.WrittenAt.{WrittenAt}
use Rattle.inside_keys.specs.declared.place.Section.{Section}
use Rattle.inside_keys.specs.declared.place.Section.TheVariants as section
use Rattle.inside_keys.specs.Channels.{channel_check, channel_kind, lines_of}
use Rattle.inside_keys.specs.Kinds.{kind_of}
use Rattle.inside_keys.specs.Places.{Scope, bind}
use Rattle.inside_keys.specs.Settings.{ModuleRules, Posed, channel_place, place_in, type_names}

-- ---- parameters

-- what a value that stands in such a section gives a parameter
abbrev pub given_in : written_section.Section → Option ParameterValue → Option Given
given_in s None = None
given_in s (Some (value.Fixed e)) = Some (Fixed (record { section = s; expression = e }))
given_in s (Some (value.Default e)) = Some (Default (record { section = s; expression = e }))

-- what the NED text gives a parameter: the body of the submodule goes before the lines of its type
abbrev pub given_to : TypeDeclaration → SubmoduleBody → List ℕ → Option Given
given_to t body x = or_else (given_in written.OfBody (last_value x body.lines))
    (given_in written.OfType (last_value x t.lines))

-- an entry of the ini text stands where a type's own parameter section does
abbrev pub section_of : written_section.Section → Section
section_of written.OfType = section.OfParameters
section_of written.OfBody = section.OfBody

-- the full path of a parameter
abbrev pub parameter_path : Module → List ℕ → List ℕ
parameter_path m x = m.path ++ 46 ∷ x

module _ (s : ModuleRules) (m : Module) where
  -- an expression that stands there, outside of loops
  abbrev pub posed_in : Section → Check → Expression → Posed
  posed_in at c e = record { expression = e; place = place_in s m at; variables = []; check = c }

  abbrev pub maybe_posed : Section → Check → Option Expression → Option Posed
  maybe_posed at c None = None
  maybe_posed at c (Some e) = Some (posed_in at c e)

  abbrev pub posed_as : Check → Option Written → Option Posed
  posed_as c None = None
  posed_as c (Some w) = Some (posed_in (section_of w.section) c w.expression)

  abbrev pub parameter_by : TypeDeclaration → SubmoduleBody → List ℕ → Option Declaration
      → Option Posed
  parameter_by t body x None = None
  parameter_by t body x (Some d) = posed_as (check.Parameter (kind_of d))
      (first_given (given_to t body x) (s.entry (parameter_path m x)))

  -- WHAT GIVES A PARAMETER ITS VALUE, the first that exists of: the fixed value; the first entry of
  -- the ini text that matches its path; the default
  abbrev pub parameter_posed : TypeDeclaration → SubmoduleBody → List ℕ → Option Posed
  parameter_posed t body x = parameter_by t body x (declaration_named x t.lines)

  -- ---- submodules

  abbrev pub condition_in : Option Submodule → Option Posed
  condition_in None = None
  condition_in (Some l) = maybe_posed section.OfInside check.Condition l.condition

  -- the condition of a submodule that the type declares
  abbrev pub condition_posed : TypeDeclaration → List ℕ → Option Posed
  condition_posed t sub = condition_in (submodule_named sub t.submodules)

  abbrev pub vector_size_in : Option Submodule → Option Posed
  vector_size_in None = None
  vector_size_in (Some l) = maybe_posed section.OfInside check.VectorSize l.size

  -- the size of a vector of submodules that the type declares
  abbrev pub vector_size_posed : TypeDeclaration → List ℕ → Option Posed
  vector_size_posed t sub = vector_size_in (submodule_named sub t.submodules)

-- ---- channels

-- an item of a section, or a connection of an item, after which so many stand
abbrev pub behind : {A : Type 0} → ℕ → List A → Option A
behind n [] = None
behind n (x ∷ xs) = if length xs == n then Some x else behind n xs

-- a connection, and the clauses around it: the outermost first
pub record FoundLine : Type 0 where
  pub connection : Connection
  pub clauses : List Clause

abbrev pub found_line : List Clause → Option ConnectionLine → Option FoundLine
found_line clauses None = None
found_line clauses (Some l) =
    Some (record { connection = l.connection; clauses = clauses ++ l.clauses })

abbrev pub found_in_item : ℕ → Option ConnectionItem → Option FoundLine
found_in_item n None = None
found_in_item n (Some (item.Line l)) = found_line [] (Some l)
found_in_item n (Some (item.Group g)) = found_line g.clauses (behind n g.lines)

-- the connection that is written there
abbrev pub connection_at : WrittenAt → List ConnectionItem → Option FoundLine
connection_at w items = found_in_item w.lines (behind w.items items)

-- the loop variables of clauses, the innermost first, with these values, after those around
abbrev pub bound_by : List Clause → Scope → List ℤ → Scope
bound_by [] scope zs = scope
bound_by (If e ∷ cs) scope zs = bound_by cs scope zs
bound_by (For f ∷ cs) scope [] = bound_by cs scope []
bound_by (For f ∷ cs) scope (z ∷ zs) = bound_by cs (bind f.variable z scope) zs

-- loop variables around a connection, whose values stand with the innermost first
abbrev pub scope_at : List Clause → List ℤ → Scope
scope_at clauses turn = bound_by clauses [] (reverse turn)

-- an expression of a channel's block may name loop variables
abbrev pub variables_in : Section → Scope → Scope
variables_in section.OfParameters scope = []
variables_in section.OfInside scope = []
variables_in section.OfBody scope = []
variables_in section.OfBlock scope = scope
variables_in section.OfChannel scope = []

abbrev pub channel_section : written_section.Section → Section
channel_section written.OfType = section.OfChannel
channel_section written.OfBody = section.OfBlock

-- what the NED text gives a parameter of a channel: its block goes before the lines of its type
abbrev pub given_to_channel : List SectionLine → List SectionLine → List ℕ → Option Given
given_to_channel lines block x = or_else (given_in written.OfBody (last_value x block))
    (given_in written.OfType (last_value x lines))

-- the full path of a parameter of a channel
abbrev pub channel_parameter_path : ChannelAt → List ℕ → List ℕ
channel_parameter_path c x = c.path ++ 46 ∷ x

module _ (s : ModuleRules) (m : Module) (c : ChannelAt) where
  abbrev pub channel_posed_as : Check → Scope → Option Written → Option Posed
  channel_posed_as k scope None = None
  channel_posed_as k scope (Some w) = Some (record {
    expression = w.expression;
    place = channel_place s m c (channel_section w.section);
    variables = variables_in (channel_section w.section) scope;
    check = k;
  })

  abbrev pub channel_posed_by : ChannelKind → List SectionLine → List SectionLine → Scope → List ℕ
      → Option Declaration → Option Posed
  channel_posed_by k lines block scope x None = None
  channel_posed_by k lines block scope x (Some d) =
      channel_posed_as (channel_check k x (kind_of d)) scope
      (first_given (given_to_channel lines block x) (s.entry (channel_parameter_path c x)))

  abbrev pub channel_posed_over : ChannelKind → Option (List SectionLine) → List SectionLine → Scope
      → List ℕ → Option Posed
  channel_posed_over k None block scope x = None
  channel_posed_over k (Some lines) block scope x =
      channel_posed_by k lines block scope x (declaration_named x lines)

  abbrev pub channel_posed_in : Option Channel → Scope → List ℕ → Option Posed
  channel_posed_in None scope x = None
  channel_posed_in (Some channel) scope x =
      channel_posed_over (channel_kind (type_names s) s.types channel)
      (lines_of (type_names s) s.types channel) channel.lines scope x

  abbrev pub channel_posed_at : Option FoundLine → List ℕ → Option Posed
  channel_posed_at None x = None
  channel_posed_at (Some f) x = channel_posed_in f.connection.channel (scope_at f.clauses c.turn) x

  -- WHAT GIVES A PARAMETER OF A CHANNEL ITS VALUE, as for a module; its block is as the body of a
  -- submodule
  abbrev pub channel_posed : TypeDeclaration → List ℕ → Option Posed
  channel_posed t x = channel_posed_at (connection_at c.written t.connections.items) x

-- the lines of a channel's type
abbrev pub lines_at : ModuleRules → Option FoundLine → Option (List SectionLine)
lines_at s None = None
lines_at s (Some f) = option_and_then (lines_of (type_names s) s.types) f.connection.channel

abbrev pub channel_lines : ModuleRules → TypeDeclaration → ChannelAt → Option (List SectionLine)
channel_lines s t c = lines_at s (connection_at c.written t.connections.items)

-- the kind of that channel
abbrev pub kind_in : ModuleRules → Option Channel → ChannelKind
kind_in s None = channel_kinds.Ideal
kind_in s (Some channel) = channel_kind (type_names s) s.types channel

abbrev pub kind_at : ModuleRules → Option FoundLine → ChannelKind
kind_at s None = channel_kinds.Ideal
kind_at s (Some f) = kind_in s f.connection.channel

abbrev pub kind_there : ModuleRules → TypeDeclaration → ChannelAt → ChannelKind
kind_there s t c = kind_at s (connection_at c.written t.connections.items)

-- ---- gates

abbrev pub size_by : GateSize → Option Expression
size_by size.Single = None
size_by size.Open = None
size_by (size.Sized e) = Some e

-- the size that a line gives a gate
abbrev pub size_given : List ℕ → GateLine → Option Expression
size_given name (gate.Declaration d) = if bytes_eq d.name name then size_by d.size else None
size_given name (gate.Refinement r) = if bytes_eq r.name name then r.size else None

-- the size that the lines give a gate: a later one stands in the place of an earlier one
abbrev pub last_size : List ℕ → List GateLine → Option Expression
last_size name [] = None
last_size name (l ∷ ls) = or_else (last_size name ls) (size_given name l)

-- what gives a gate vector its size: the body of the submodule goes before the lines of its type
abbrev pub gate_size_posed : ModuleRules → Module → TypeDeclaration → SubmoduleBody → List ℕ
    → Option Posed
gate_size_posed s m t body g =
    or_else (maybe_posed s m section.OfBody check.GateSize (last_size g body.gates))
    (maybe_posed s m section.OfInside check.GateSize (last_size g t.gates))

abbrev pub is_vector_at : Option TypeGate → Bool
is_vector_at None = false
is_vector_at (Some g) = g.kind.is_vector

-- whether one of these gates is a vector of that name
abbrev pub has_vector : TypeGates → List ℕ → Bool
has_vector gates g =
    is_vector_at (option_and_then (slice_get gates.gates) (position_of g gates.names))

-- whether one of these gates has that name
abbrev pub has_gate : TypeGates → List ℕ → Bool
has_gate gates g = is_some (position_of g gates.names)

-- whether a line without a direction speaks of none of these gates, or gives a size to one that is
-- no vector
abbrev pub is_misplaced : TypeGates → GateLine → Bool
is_misplaced gates (gate.Declaration d) = false
is_misplaced gates (gate.Refinement r) =
    not (if is_some r.size then has_vector gates r.name else has_gate gates r.name)

abbrev pub named_in : GateLine → List ℕ
named_in (gate.Declaration d) = d.name
named_in (gate.Refinement r) = r.name

-- A LINE FOR WHAT IS NO GATE, or a size for what is no gate vector: the name in the first of these
-- lines that is so, where these are the gates
abbrev pub misplaced : TypeGates → List GateLine → Option (List ℕ)
misplaced gates [] = None
misplaced gates (l ∷ ls) = if is_misplaced gates l then Some (named_in l) else misplaced gates ls

-- the same in the body of a submodule, or else in its type, which has these gates
abbrev pub misplaced_in : Option TypeGates → TypeDeclaration → SubmoduleBody → Option (List ℕ)
misplaced_in None t body = None
misplaced_in (Some gates) t body = or_else (misplaced gates body.gates) (misplaced gates t.gates)
