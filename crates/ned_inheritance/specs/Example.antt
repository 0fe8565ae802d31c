-- Types that extend others, and bodies of submodules, worked by hand.
use Rattle.std.specs.Prelude.{◌≡◌, ℕ, pos, true, false, List, [], ◌∷◌, ◌++◌, Option, Some, None}
use Rattle.std.specs.Prelude.{codes}
use Rattle.sim_values.specs.declared.value.Value.TheVariants as values
use Rattle.sim_values.specs.declared.value.Dimension.TheVariants as dimension
use Rattle.ned_trees.specs.declared.expressions.Expression.TheVariants as expression
use Rattle.ned_trees.specs.declared.modes.Mode.TheVariants as mode
use Rattle.ned_trees.specs.declared.declarations.GateDirection.TheVariants.{Input, Output}
use Rattle.ned_trees.specs.declared.declarations.GateLine.{GateLine}
use Rattle.ned_trees.specs.declared.declarations.GateLine.TheVariants as gate
use Rattle.ned_trees.specs.declared.declarations.GateSize.TheVariants as size
use Rattle.ned_trees.specs.declared.declarations.ParameterValue.{ParameterValue}
use Rattle.ned_trees.specs.declared.declarations.ParameterValue.TheVariants as parameter_value
use Rattle.ned_trees.specs.declared.declarations.ParameterWord.TheVariants as word
use Rattle.ned_trees.specs.declared.connections.Arrow.TheVariants as arrow
use Rattle.ned_trees.specs.declared.connections.ConnectionItem.TheVariants as item
use Rattle.ned_trees.specs.declared.connections.ConnectionLine.{ConnectionLine}
use Rattle.ned_trees.specs.declared.connections.ConnectionSection.{ConnectionSection}
use Rattle.ned_trees.specs.declared.connections.End.{End}
use Rattle.ned_trees.specs.declared.declarations.SectionLine.{SectionLine}
use Rattle.ned_trees.specs.declared.declarations.SectionLine.TheVariants as line
use Rattle.ned_trees.specs.declared.declarations.Statistic.{Statistic}
use Rattle.ned_trees.specs.declared.declarations.Submodule.{Submodule}
use Rattle.ned_trees.specs.declared.declarations.SubmoduleType.TheVariants as submodule_type
use Rattle.ned_trees.specs.declared.declarations.TypeDeclaration.{TypeDeclaration}
use Rattle.ned_trees.specs.declared.declarations.TypeKind.TheVariants.{Simple, Module, Network}
use Rattle.ned_trees.specs.declared.declarations.TypeKind.TheVariants.{Channel, ModuleInterface}
use Rattle.ned_trees.specs.declared.declarations.TypeKind.TheVariants.{ChannelInterface}
use Rattle.ned_inheritance.specs.declared.table.TypeFault.{TypeFault}
use Rattle.ned_inheritance.specs.declared.table.TypeFault.TheVariants.{DuplicateType, UnknownType}
use Rattle.ned_inheritance.specs.declared.table.TypeFault.TheVariants.{InheritanceCircle, KindClash}
use Rattle.ned_inheritance.specs.declared.table.TypeFault.TheVariants.{Interface}
use Rattle.ned_types.specs.Flat.{class_of, last_value, statistics_of}
use Rattle.ned_inheritance.specs.Inheritance.{flat_type, no_connections}
use Rattle.ned_inheritance.specs.Building.{fault_of}

-- a simple type of that name with these lines, which extends what is said
abbrev pub type_with : List ℕ → Option (List ℕ) → List SectionLine → TypeDeclaration
type_with name base lines = record {
  kind = Simple;
  name = name;
  base = base;
  interfaces = [];
  lines = lines;
  gates = [];
  submodules = [];
  connections = no_connections;
}

abbrev pub counted : Statistic
counted = record {
  name = codes "fired";
  source = codes "fired";
  modes = record { mode = mode.Count; optional = false } ∷ [];
}

abbrev pub summed : Statistic
summed = record {
  name = codes "fired";
  source = codes "fired";
  modes = record { mode = mode.Sum; optional = false } ∷ [];
}

-- so many ps, fixed
abbrev pub time_of : ℕ → ParameterValue
time_of n = parameter_value.Fixed (expression.Literal (values.Quantity dimension.Time (pos n)))

-- `gap = VALUE;`
abbrev pub gap_is : ParameterValue → SectionLine
gap_is v = line.Assignment (record { name = codes "gap"; value = Some v })

-- `simple Tick { double gap @unit(s); @statistic[fired](record=count); }`
abbrev pub tick_lines : List SectionLine
tick_lines = line.Declaration (record {
  name = codes "gap";
  word = word.Double;
  unit = Some dimension.Time;
  value = None;
}) ∷ line.Statistic counted ∷ []

abbrev pub tick : TypeDeclaration
tick = type_with (codes "Tick") None tick_lines

-- `simple Slow extends Tick { gap = 2s; @statistic[fired](record=sum); }`
abbrev pub slow_lines : List SectionLine
slow_lines = gap_is (time_of 2000000000000) ∷ line.Statistic summed ∷ []

abbrev pub slow : TypeDeclaration
slow = type_with (codes "Slow") (Some (codes "Tick")) slow_lines

-- `simple Slower extends Slow { gap = 3s; }`
abbrev pub slower : TypeDeclaration
slower = type_with (codes "Slower") (Some (codes "Slow")) (gap_is (time_of 3000000000000) ∷ [])

-- `simple NAME extends BASE {}`
abbrev pub heir : List ℕ → List ℕ → TypeDeclaration
heir name base = type_with name (Some base) []

-- `simple NAME extends BASE { @class(Own); }`
abbrev pub classed : List ℕ → List ℕ → TypeDeclaration
classed name base = type_with name (Some base) (line.Class (codes "Own") ∷ [])

-- `gap = default(VALUE);`, so many ps
abbrev pub default_gap : ℕ → SectionLine
default_gap n =
    gap_is (parameter_value.Default (expression.Literal (values.Quantity dimension.Time (pos n))))

-- `gap = VALUE;`, so many ps
abbrev pub fixed_gap : ℕ → SectionLine
fixed_gap n = gap_is (time_of n)

-- `NAME = 1s;`
abbrev pub second_for : List ℕ → SectionLine
second_for name = line.Assignment (record { name = name; value = Some (time_of 1000000000000) })

-- `double NAME @unit(s);`
abbrev pub double_named : List ℕ → SectionLine
double_named name = line.Declaration
    (record { name = name; word = word.Double; unit = Some dimension.Time; value = None })

-- `network N { parameters: LINES submodules: SUBMODULES }`
abbrev pub network_of : List SectionLine → List Submodule → TypeDeclaration
network_of lines submodules = record {
  kind = Network;
  name = codes "N";
  base = None;
  interfaces =
      [];
  lines = lines;
  gates = [];
  submodules = submodules;
  connections = no_connections;
}

-- `t: TYPE { LINES }`
abbrev pub t_with : List ℕ → List SectionLine → Submodule
t_with name body = record {
  name = codes "t";
  size = None;
  submodule_type =
      submodule_type.Named name;
  condition = None;
  body = record { lines = body; gates = [] };
}

-- `NAME: Tick;`
abbrev pub tick_named : List ℕ → Submodule
tick_named name = record {
  name = name;
  size = None;
  submodule_type = submodule_type.Named
      (codes "Tick");
  condition = None;
  body = record { lines = []; gates = [] };
}

-- `network NAME extends N { parameters: LINES submodules: SUBMODULES }`
abbrev pub derived_network : List ℕ → List SectionLine → List Submodule → TypeDeclaration
derived_network name lines submodules =
    record {
      kind = Network;
      name = name;
      base = Some (codes "N");
      interfaces = [];
      lines = lines;
      gates = [];
      submodules = submodules;
      connections = no_connections;
    }

-- `channel NAME extends BASE {}`
abbrev pub channel_of : List ℕ → Option (List ℕ) → TypeDeclaration
channel_of name base = record {
  kind = Channel;
  name = name;
  base = base;
  interfaces = [];
  lines = [];
  gates = [];
  submodules = [];
  connections = no_connections;
}

-- `channel NAME extends BASE { LINES }`
abbrev pub channel_with : List ℕ → List ℕ → List SectionLine → TypeDeclaration
channel_with name base lines = record {
  kind = Channel;
  name = name;
  base = Some base;
  interfaces = [];
  lines = lines;
  gates = [];
  submodules = [];
  connections = no_connections;
}

-- `channel Slow extends DelayChannel { delay = 1s; }`
abbrev pub slow_channel : TypeDeclaration
slow_channel = channel_with (codes "Slow") (codes "DelayChannel") (second_for (codes "delay") ∷ [])

-- `double delay @unit(s) = default(0s);`
abbrev pub delay_default : SectionLine
delay_default = line.Declaration
    (record {
      name = codes "delay";
      word = word.Double;
      unit = Some dimension.Time;
      value = Some
          (parameter_value.Default (expression.Literal (values.Quantity dimension.Time (pos 0))));
    })

-- `bool disabled = default(false);`
abbrev pub disabled_default : SectionLine
disabled_default = line.Declaration (record {
  name = codes "disabled";
  word = word.Bool;
  unit =
      None;
  value = Some (parameter_value.Default (expression.Literal (values.Truth false)));
})

-- `double datarate @unit(bps) = default(0bps);`
abbrev pub rate_default : SectionLine
rate_default = line.Declaration
    (record {
      name = codes "datarate";
      word = word.Double;
      unit = Some dimension.Rate;
      value = Some
          (parameter_value.Default (expression.Literal (values.Quantity dimension.Rate (pos 0))));
    })

-- `int NAME = default(0);`
abbrev pub zero_default : List ℕ → SectionLine
zero_default name = line.Declaration (record {
  name = name;
  word = word.Int;
  unit = None;
  value = Some (parameter_value.Default (expression.Literal (values.Whole (pos 0))));
})

-- `input NAME;`
abbrev pub input_gate : List ℕ → GateLine
input_gate name =
    gate.Declaration (record { name = name; direction = Input; size = size.Single; loose = false })

-- `output NAME[];`
abbrev pub output_gates : List ℕ → GateLine
output_gates name =
    gate.Declaration (record { name = name; direction = Output; size = size.Open; loose = false })

-- `NAME[3];`
abbrev pub three_of : List ℕ → GateLine
three_of name = gate.Refinement
    (record { name = name; size = Some (expression.Literal (values.Whole (pos 3))); loose = false })

-- `moduleinterface NAME extends BASES { parameters: LINES gates: GATES }`
abbrev pub interface_of : List ℕ → List (List ℕ) → List SectionLine → List GateLine
    → TypeDeclaration
interface_of name bases lines gates =
    record {
      kind = ModuleInterface;
      name = name;
      base = None;
      interfaces = bases;
      lines = lines;
      gates = gates;
      submodules = [];
      connections = no_connections;
    }

-- `channelinterface NAME {}`
abbrev pub channel_interface : List ℕ → TypeDeclaration
channel_interface name = record {
  kind = ChannelInterface;
  name = name;
  base = None;
  interfaces = [];
  lines = [];
  gates = [];
  submodules = [];
  connections = no_connections;
}

-- `simple NAME extends BASE like INTERFACES { parameters: LINES gates: GATES }`
abbrev pub keeping : List ℕ → Option (List ℕ) → List (List ℕ) → List SectionLine → List GateLine
    → TypeDeclaration
keeping name base interfaces lines gates =
    record {
      kind = Simple;
      name = name;
      base = base;
      interfaces = interfaces;
      lines = lines;
      gates = gates;
      submodules = [];
      connections = no_connections;
    }

-- `moduleinterface I { parameters: double gap @unit(s); gates: input in; }`
abbrev pub gap_and_in : TypeDeclaration
gap_and_in = interface_of (codes "I") [] (double_named (codes "gap") ∷ [])
    (input_gate (codes "in") ∷ [])

-- why `simple A like I { parameters: LINES gates: GATES }` makes no model, with that interface
abbrev pub fault_like : List SectionLine → List GateLine → Option TypeFault
fault_like lines gates =
    fault_of (keeping (codes "A") None (codes "I" ∷ []) lines gates ∷ gap_and_in ∷ [])

-- `simple NAME extends BASE { gates: GATES }`
abbrev pub gated : List ℕ → Option (List ℕ) → List GateLine → TypeDeclaration
gated name base gates = record {
  kind = Simple;
  name = name;
  base = base;
  interfaces = [];
  lines = [];
  gates = gates;
  submodules = [];
  connections = no_connections;
}

-- why `t: TYPE { LINES }` makes no model, with Tick, Slow, and Fast, which extends Tick and gives
-- nothing
abbrev pub fault_with : List ℕ → List SectionLine → Option TypeFault
fault_with name body = fault_of (network_of [] (t_with name body ∷ []) ∷ slow ∷ tick
    ∷ heir (codes "Fast") (codes "Tick") ∷ [])

-- `connections: g --> h;`
abbrev pub own_gate : List ℕ → End
own_gate name = record { owner = None; gate = record { name = name; half = None; index = None } }

abbrev pub one_connection : ConnectionSection
one_connection = record {
  allow_unconnected = false;
  items = item.Line (record {
    connection = record {
      left = own_gate (codes "g");
      arrow = arrow.Right;
      channel = None;
      right = own_gate (codes "h");
    };
    clauses = [];
  }) ∷ [];
}

-- why `network N { submodules: SUBMODULE connections: .. }` makes no model, with Tick, the
-- interface I and the channel Slow
abbrev pub fault_inside : Submodule → ConnectionSection → Option TypeFault
fault_inside s connections = fault_of (record {
  kind = Network;
  name = codes "N";
  base = None;
  interfaces = [];
  lines = [];
  gates = [];
  submodules = s ∷ [];
  connections = connections;
}
    ∷ tick ∷ gap_and_in ∷ slow_channel ∷ [])

-- `t: <> like INTERFACE { LINES }`
abbrev pub like_with : List ℕ → List SectionLine → Submodule
like_with interface body = record {
  name = codes "t";
  size = None;
  submodule_type = submodule_type.Like (record { given = None; interface = interface });
  condition = None;
  body = record { lines = body; gates = [] };
}

-- `t: Tick { gates: GATES }`
abbrev pub gates_with : List GateLine → Submodule
gates_with gates = record {
  name = codes "t";
  size = None;
  submodule_type = submodule_type.Named
      (codes "Tick");
  condition = None;
  body = record { lines = []; gates = gates };
}

-- `g --> CHANNEL { LINES } --> h;`, or with the block alone
abbrev pub connected_by : Option (List ℕ) → List SectionLine → ConnectionLine
connected_by name block =
    record {
      connection = record {
        left = own_gate (codes "g");
        arrow = arrow.Right;
        channel = Some
            (record { type_name = name; lines = block });
        right = own_gate (codes "h");
      };
      clauses = [];
    }

-- why a network makes no model that has this connection, alone or as the second one of a group
abbrev pub fault_connected : Option (List ℕ) → List SectionLine → Option TypeFault
fault_connected name block = fault_inside (tick_named (codes "t"))
    (record { allow_unconnected = false; items = item.Line (connected_by name block) ∷ [] })

abbrev pub fault_grouped : Option (List ℕ) → List SectionLine → Option TypeFault
fault_grouped name block = fault_inside (tick_named (codes "t"))
    (record {
      allow_unconnected = false;
      items = item.Group (record {
        clauses = [];
        lines = connected_by None [] ∷ connected_by name block ∷ [];
      }) ∷ [];
    })

-- `module M {}`
abbrev pub module_m : TypeDeclaration
module_m = record {
  kind = Module;
  name = codes "M";
  base = None;
  interfaces = [];
  lines = [];
  gates = [];
  submodules = [];
  connections = no_connections;
}

-- the members of the base and then its own, the class of the base, its own value, and its own
-- statistic in the place of the base's; and so also where the base stands after it
pub record ExampleIsFlat : Type 0 where
  pub joined : (flat_type (tick ∷ slow ∷ []) slow).lines
      ≡ line.Class (codes "Tick") ∷ (tick_lines ++ slow_lines)
  pub behind : flat_type (slow ∷ tick ∷ []) slow ≡ flat_type (tick ∷ slow ∷ []) slow
  pub class : class_of (flat_type (tick ∷ slow ∷ []) slow) ≡ codes "Tick"
  pub value : last_value (codes "gap") (flat_type (tick ∷ slow ∷ []) slow).lines
      ≡ Some (time_of 2000000000000)
  pub statistics : statistics_of (flat_type (tick ∷ slow ∷ []) slow).lines ≡ summed ∷ []
  pub own_class : class_of (flat_type (tick ∷ classed (codes "Fast") (codes "Tick") ∷ [])
      (classed (codes "Fast") (codes "Tick")))
      ≡ codes "Own"
  pub class_between : class_of (flat_type
      (heir (codes "Last") (codes "Fast") ∷ tick ∷ classed (codes "Fast") (codes "Tick") ∷ [])
      (heir (codes "Last") (codes "Fast")))
      ≡ codes "Own"
  pub root : flat_type (tick ∷ slow ∷ []) tick ≡ tick

-- the first fault in the order DuplicateType, UnknownType, InheritanceCircle, KindClash, wherever
-- the types stand
pub record ExampleFaults : Type 0 where
  pub none : fault_of (slow ∷ tick ∷ []) ≡ None
  pub twice : fault_of (tick ∷ tick ∷ []) ≡ Some DuplicateType
  pub unknown : fault_of (heir (codes "A") (codes "Zed") ∷ []) ≡ Some UnknownType
  pub circle : fault_of (heir (codes "A") (codes "B") ∷ heir (codes "B") (codes "A") ∷ [])
      ≡ Some InheritanceCircle
  pub itself : fault_of (heir (codes "A") (codes "A") ∷ []) ≡ Some InheritanceCircle
  pub again : fault_of (tick ∷ slow ∷ slower ∷ []) ≡ Some KindClash
  pub channel : fault_of (heir (codes "A") (codes "IdealChannel") ∷ []) ≡ Some KindClash
  pub first : fault_of (slower ∷ slow ∷ tick ∷ heir (codes "A") (codes "A") ∷ [])
      ≡ Some InheritanceCircle
  pub second : fault_of (heir (codes "A") (codes "A") ∷ heir (codes "B") (codes "Zed") ∷ [])
      ≡ Some UnknownType
  pub third : fault_of (heir (codes "B") (codes "Zed") ∷ heir (codes "A") (codes "A") ∷ [])
      ≡ Some UnknownType
  pub fourth : fault_of (heir (codes "B") (codes "Zed") ∷ tick ∷ tick ∷ []) ≡ Some DuplicateType

-- values in a body are for parameters that the type or what it extends declares, and stand after no
-- fixed value; a body declares nothing; and the parameters of the network around the submodule are
-- not those of the submodule
pub record ExampleBodies : Type 0 where
  pub empty : fault_with (codes "Tick") [] ≡ None
  pub fixed : fault_with (codes "Tick") (fixed_gap 5 ∷ []) ≡ None
  pub default : fault_with (codes "Tick") (default_gap 5 ∷ line.Ignored ∷ []) ≡ None
  pub inherited : fault_with (codes "Fast") (fixed_gap 5 ∷ []) ≡ None
  pub later : fault_with (codes "Tick") (default_gap 5 ∷ fixed_gap 6 ∷ []) ≡ None
  pub twice : fault_with (codes "Tick") (fixed_gap 5 ∷ fixed_gap 6 ∷ []) ≡ Some KindClash
  pub behind : fault_with (codes "Tick") (fixed_gap 5 ∷ default_gap 6 ∷ []) ≡ Some KindClash
  pub fixed_before : fault_with (codes "Slow") (fixed_gap 5 ∷ []) ≡ Some KindClash
  pub default_after : fault_with (codes "Slow") (default_gap 5 ∷ []) ≡ Some KindClash
  pub unknown : fault_with (codes "Tick") (second_for (codes "gab") ∷ []) ≡ Some KindClash
  pub declared_again : fault_with (codes "Tick") (double_named (codes "gap") ∷ []) ≡ Some KindClash
  pub declared : fault_with (codes "Tick")
      (double_named (codes "own") ∷ second_for (codes "own") ∷ [])
      ≡ Some KindClash
  pub around : fault_of (network_of (double_named (codes "own") ∷ [])
      (t_with (codes "Tick") (second_for (codes "own") ∷ []) ∷ [])
      ∷ tick ∷ [])
      ≡ Some KindClash
  pub network : flat_type (network_of (double_named (codes "own") ∷ []) [] ∷ tick ∷ [])
      (network_of (double_named (codes "own") ∷ []) [])
      ≡ network_of (double_named (codes "own") ∷ []) []
  pub section : fault_of
      (network_of (double_named (codes "own") ∷ second_for (codes "own") ∷ []) [] ∷ [])
      ≡ None
  pub section_unknown : fault_of (network_of (second_for (codes "own") ∷ []) [] ∷ [])
      ≡ Some KindClash
  pub section_twice : fault_of
      (network_of (double_named (codes "own") ∷ double_named (codes "own") ∷ []) [] ∷ [])
      ≡ Some KindClash

-- a network that extends another has its parameters, gates and submodules too, those of the root
-- first; a member of the base isn't declared again, and a network extends networks alone
pub record ExampleNetworks : Type 0 where
  pub submodules : (flat_type (derived_network (codes "M") [] (tick_named (codes "b") ∷ [])
      ∷ network_of [] (tick_named (codes "a") ∷ []) ∷ tick ∷ [])
      (derived_network (codes "M") [] (tick_named (codes "b") ∷ []))).submodules
      ≡ tick_named (codes "a") ∷ tick_named (codes "b") ∷ []
  pub lines : (flat_type (network_of (double_named (codes "own") ∷ []) []
      ∷ derived_network (codes "M") (second_for (codes "own") ∷ []) [] ∷ [])
      (derived_network (codes "M") (second_for (codes "own") ∷ []) [])).lines
      ≡ double_named (codes "own") ∷ second_for (codes "own") ∷ []
  pub none : fault_of (derived_network (codes "M") (second_for (codes "own") ∷ [])
      (tick_named (codes "b") ∷ [])
      ∷ network_of (double_named (codes "own") ∷ []) (tick_named (codes "a") ∷ []) ∷ tick ∷ [])
      ≡ None
  pub again : fault_of (derived_network (codes "M") [] (tick_named (codes "a") ∷ [])
      ∷ network_of [] (tick_named (codes "a") ∷ []) ∷ tick ∷ [])
      ≡ Some KindClash
  pub body : fault_of (network_of (double_named (codes "own") ∷ [])
      (t_with (codes "Tick") (second_for (codes "own") ∷ []) ∷ [])
      ∷ derived_network (codes "M") [] [] ∷ tick ∷ [])
      ≡ Some KindClash
  pub unknown : fault_of
      (derived_network (codes "M") [] [] ∷ network_of [] (t_with (codes "Zed") [] ∷ []) ∷ [])
      ≡ Some UnknownType
  pub of_simple : fault_of (type_with (codes "N") None [] ∷ derived_network (codes "M") [] [] ∷ [])
      ≡ Some KindClash
  pub simple_of : fault_of (network_of [] [] ∷ heir (codes "A") (codes "N") ∷ []) ≡ Some KindClash
  pub circle : fault_of (derived_network (codes "N") [] [] ∷ []) ≡ Some InheritanceCircle
  pub channels : fault_of
      (channel_of (codes "Fast") (Some (codes "Slow")) ∷ channel_of (codes "Slow") None ∷ [])
      ≡ None
  pub channel_of_simple : fault_of (channel_of (codes "Fast") (Some (codes "Tick")) ∷ tick ∷ [])
      ≡ Some KindClash
  pub submodule_channel : fault_of
      (network_of [] (t_with (codes "Slow") [] ∷ []) ∷ channel_of (codes "Slow") None ∷ [])
      ≡ Some KindClash

-- a channel has what the built-in channel has that its root extends, and no more; those are
-- parameters with a default
pub record ExampleChannels : Type 0 where
  pub ideal : (flat_type (channel_with (codes "C") (codes "IdealChannel") [] ∷ [])
      (channel_with (codes "C") (codes "IdealChannel") [])).lines
      ≡ []
  pub delay : (flat_type (channel_with (codes "C") (codes "DelayChannel") [] ∷ [])
      (channel_with (codes "C") (codes "DelayChannel") [])).lines
      ≡ delay_default ∷ disabled_default ∷ []
  pub rate : (flat_type (channel_with (codes "C") (codes "DatarateChannel") [] ∷ [])
      (channel_with (codes "C") (codes "DatarateChannel") [])).lines
      ≡ delay_default ∷ disabled_default ∷ rate_default ∷ zero_default (codes "ber")
      ∷ zero_default (codes "per") ∷ []
  pub behind : (flat_type (slow_channel ∷ channel_of (codes "Slower") (Some (codes "Slow")) ∷ [])
      (channel_of (codes "Slower") (Some (codes "Slow")))).lines
      ≡ delay_default ∷ disabled_default ∷ second_for (codes "delay") ∷ []
  pub none : fault_of (slow_channel ∷ channel_of (codes "Slower") (Some (codes "Slow")) ∷ []) ≡ None
  pub fixed : fault_of (slow_channel
      ∷ channel_with (codes "Slower") (codes "Slow") (second_for (codes "delay") ∷ []) ∷ [])
      ≡ Some KindClash
  pub no_rate : fault_of
      (channel_with (codes "C") (codes "DelayChannel") (second_for (codes "datarate") ∷ []) ∷ [])
      ≡ Some KindClash
  pub no_delay : fault_of
      (channel_with (codes "C") (codes "IdealChannel") (second_for (codes "delay") ∷ []) ∷ [])
      ≡ Some KindClash
  pub again : fault_of
      (channel_with (codes "C") (codes "DelayChannel") (double_named (codes "delay") ∷ []) ∷ [])
      ≡ Some KindClash
  pub simple : fault_of (heir (codes "A") (codes "DelayChannel") ∷ []) ≡ Some KindClash
  pub network : fault_of (record {
    kind = Network;
    name = codes "M";
    base = Some (codes "DelayChannel");
    interfaces = [];
    lines = [];
    gates = [];
    submodules = [];
    connections = no_connections;
  } ∷ []) ≡ Some KindClash
  pub unknown : fault_of (channel_of (codes "C") (Some (codes "Zed")) ∷ []) ≡ Some UnknownType
  pub itself : fault_of (channel_of (codes "C") (Some (codes "C")) ∷ []) ≡ Some InheritanceCircle

-- gates stand after those of the base, and none is declared twice, whatever its direction; a gate
-- and a parameter may have one name; and a size, also that of a gate that is declared nowhere, is
-- no fault of types
pub record ExampleGates : Type 0 where
  pub joined : (flat_type (gated (codes "B") (Some (codes "A"))
      (output_gates (codes "out") ∷ three_of (codes "out") ∷ [])
      ∷ gated (codes "A") None (input_gate (codes "in") ∷ []) ∷ [])
      (gated (codes "B") (Some (codes "A"))
      (output_gates (codes "out") ∷ three_of (codes "out") ∷ []))).gates
      ≡ input_gate (codes "in") ∷ output_gates (codes "out") ∷ three_of (codes "out") ∷ []
  pub sized : fault_of (gated (codes "A") None (output_gates (codes "out") ∷ [])
      ∷ gated (codes "B") (Some (codes "A"))
      (three_of (codes "out") ∷ three_of (codes "out") ∷ three_of (codes "in") ∷ [])
      ∷ [])
      ≡ None
  pub again : fault_of (gated (codes "A") None (input_gate (codes "g") ∷ [])
      ∷ gated (codes "B") (Some (codes "A")) (output_gates (codes "g") ∷ []) ∷ [])
      ≡ Some KindClash
  pub twice : fault_of (gated (codes "A") None
      (input_gate (codes "g") ∷ input_gate (codes "h") ∷ input_gate (codes "g") ∷ [])
      ∷ [])
      ≡ Some KindClash
  pub other_kind : fault_of (record {
    kind = Simple;
    name = codes "A";
    base = None;
    interfaces = [];
    lines = double_named (codes "g") ∷ [];
    gates = input_gate (codes "g") ∷ [];
    submodules = [];
    connections = no_connections;
  } ∷ []) ≡ None

-- a type has the parameters and gates of its interfaces, also those that these extend, as it or
-- what it extends declares them: with their words, whatever their units, their directions, and as
-- vectors where they are vectors
pub record ExampleInterfaces : Type 0 where
  pub none : fault_like (double_named (codes "gap") ∷ []) (input_gate (codes "in") ∷ []) ≡ None
  pub no_parameter : fault_like [] (input_gate (codes "in") ∷ []) ≡ Some Interface
  pub no_gate : fault_like (double_named (codes "gap") ∷ []) [] ≡ Some Interface
  pub other_word : fault_like (line.Declaration (record {
    name = codes "gap";
    word = word.Int;
    unit = Some dimension.Time;
    value = None;
  }) ∷ []) (input_gate (codes "in") ∷ [])
      ≡ Some Interface
  pub other_unit : fault_like (line.Declaration (record {
    name = codes "gap";
    word = word.Double;
    unit = Some dimension.Rate;
    value = None;
  }) ∷ []) (input_gate (codes "in") ∷ []) ≡ None
  pub other_direction : fault_like (double_named (codes "gap") ∷ []) (gate.Declaration
      (record { name = codes "in"; direction = Output; size = size.Single; loose = false }) ∷ [])
      ≡ Some Interface
  pub other_size : fault_like (double_named (codes "gap") ∷ []) (gate.Declaration (record {
    name =
        codes "in";
    direction = Input;
    size = size.Open;
    loose = false;
  }) ∷ []) ≡ Some Interface
  pub more : fault_like (double_named (codes "own") ∷ double_named (codes "gap") ∷ [])
      (output_gates (codes "out") ∷ input_gate (codes "in") ∷ [])
      ≡ None
  pub of_base : fault_of (keeping (codes "A") (Some (codes "B")) (codes "I" ∷ []) []
      (input_gate (codes "in") ∷ [])
      ∷ type_with (codes "B") None (double_named (codes "gap") ∷ []) ∷ gap_and_in ∷ [])
      ≡ None
  pub extended : fault_of (keeping (codes "A") None (codes "J" ∷ []) [] (input_gate (codes "in")
      ∷ []) ∷ interface_of (codes "J") (codes "I" ∷ []) [] [] ∷ gap_and_in ∷ [])
      ≡ Some Interface
  pub network : fault_of (record {
    kind = Network;
    name = codes "N";
    base = None;
    interfaces = codes "I" ∷ [];
    lines = [];
    gates = [];
    submodules = [];
    connections = no_connections;
  } ∷ gap_and_in ∷ []) ≡ Some Interface
  pub channel : fault_of (record {
    kind = Channel;
    name = codes "C";
    base = Some (codes "DelayChannel");
    interfaces = codes "D" ∷ [];
    lines = [];
    gates = [];
    submodules = [];
    connections = no_connections;
  } ∷ record {
    kind = ChannelInterface;
    name = codes "D";
    base = None;
    interfaces = [];
    lines = double_named (codes "delay") ∷ [];
    gates = [];
    submodules = [];
    connections = no_connections;
  } ∷ []) ≡ None
  pub last : fault_of (keeping (codes "A") None (codes "I" ∷ []) [] [] ∷ gap_and_in
      ∷ type_with (codes "B") None (second_for (codes "own") ∷ []) ∷ [])
      ≡ Some KindClash

-- an interface has what those have that it extends, each once, in the order in which they are
-- named; two declarations of one name clash; and what stands among the interfaces of a type is an
-- interface for its kind
pub record ExampleExtending : Type 0 where
  pub flat : flat_type (interface_of (codes "J") (codes "I" ∷ []) (double_named (codes "own") ∷ [])
      []
      ∷ gap_and_in ∷ [])
      (interface_of (codes "J") (codes "I" ∷ []) (double_named (codes "own") ∷ []) [])
      ≡ interface_of (codes "J") [] (double_named (codes "gap") ∷ double_named (codes "own") ∷ [])
      (input_gate (codes "in") ∷ [])
  pub two_ways : (flat_type (interface_of (codes "K") (codes "J" ∷ codes "H" ∷ [])
      (double_named (codes "k") ∷ []) []
      ∷ interface_of (codes "H") (codes "I" ∷ []) (double_named (codes "h") ∷ []) []
      ∷ interface_of (codes "J") (codes "I" ∷ []) (double_named (codes "j") ∷ []) []
      ∷ gap_and_in ∷ [])
      (interface_of (codes "K") (codes "J" ∷ codes "H" ∷ []) (double_named (codes "k") ∷ [])
      [])).lines
      ≡ double_named (codes "gap") ∷ double_named (codes "j") ∷ double_named (codes "h")
      ∷ double_named (codes "k") ∷ []
  pub two_ways_fine : fault_of (interface_of (codes "K") (codes "J" ∷ codes "H" ∷ []) [] []
      ∷ interface_of (codes "H") (codes "I" ∷ []) [] []
      ∷ interface_of (codes "J") (codes "I" ∷ []) [] [] ∷ gap_and_in ∷ [])
      ≡ None
  pub named_twice : fault_of
      (interface_of (codes "J") (codes "I" ∷ codes "I" ∷ []) [] [] ∷ gap_and_in ∷ [])
      ≡ None
  pub twice : fault_of (interface_of (codes "K") (codes "I" ∷ codes "H" ∷ []) [] []
      ∷ interface_of (codes "H") [] (double_named (codes "gap") ∷ []) [] ∷ gap_and_in ∷ [])
      ≡ Some KindClash
  pub gate_twice : fault_of (interface_of (codes "J") (codes "I" ∷ []) []
      (input_gate (codes "in") ∷ [])
      ∷ gap_and_in ∷ [])
      ≡ Some KindClash
  pub unknown : fault_of (keeping (codes "A") None (codes "Zed" ∷ []) [] [] ∷ []) ≡ Some UnknownType
  pub unknown_base : fault_of
      (interface_of (codes "J") (codes "I" ∷ codes "Zed" ∷ []) [] [] ∷ gap_and_in ∷ [])
      ≡ Some UnknownType
  pub simple : fault_of (keeping (codes "A") None (codes "Tick" ∷ []) [] [] ∷ tick ∷ [])
      ≡ Some KindClash
  pub built_in : fault_of (keeping (codes "A") None (codes "IdealChannel" ∷ []) [] [] ∷ [])
      ≡ Some KindClash
  pub for_channels : fault_of
      (keeping (codes "A") None (codes "D" ∷ []) [] [] ∷ channel_interface (codes "D") ∷ [])
      ≡ Some KindClash
  pub base_for_channels : fault_of
      (interface_of (codes "J") (codes "D" ∷ []) [] [] ∷ channel_interface (codes "D") ∷ [])
      ≡ Some KindClash
  pub extended_by_simple : fault_of (heir (codes "A") (codes "I") ∷ gap_and_in ∷ [])
      ≡ Some KindClash
  pub submodule : fault_of (network_of [] (t_with (codes "I") [] ∷ []) ∷ gap_and_in ∷ [])
      ≡ Some KindClash
  pub itself : fault_of
      (interface_of (codes "J") (codes "I" ∷ codes "J" ∷ []) [] [] ∷ gap_and_in ∷ [])
      ≡ Some InheritanceCircle
  pub circle : fault_of (interface_of (codes "J") (codes "K" ∷ []) [] []
      ∷ interface_of (codes "K") (codes "J" ∷ []) [] [] ∷ [])
      ≡ Some InheritanceCircle
  pub mixed_circle : fault_of
      (interface_of (codes "J") (codes "A" ∷ []) [] [] ∷ heir (codes "A") (codes "J") ∷ [])
      ≡ Some InheritanceCircle
  pub kept_circle : fault_of (keeping (codes "A") None (codes "J" ∷ []) [] []
      ∷ interface_of (codes "J") (codes "A" ∷ []) [] [] ∷ [])
      ≡ Some KindClash

-- the type of a submodule is one of modules, and what stands after `like` an interface of modules,
-- over whose lines the body stands; a body declares no gate; what a connection names as its channel
-- is a channel, and its block gives values to that channel's parameters alone, and none after a
-- fixed one; a block alone means the built-in channel that has what it sets
pub record ExampleInsides : Type 0 where
  pub like_interface : fault_inside (like_with (codes "I") (second_for (codes "gap") ∷ []))
      no_connections
      ≡ None
  pub like_other : fault_inside (like_with (codes "I") (second_for (codes "own") ∷ []))
      no_connections
      ≡ Some KindClash
  pub like_simple : fault_inside (like_with (codes "Tick") []) no_connections ≡ Some KindClash
  pub like_unknown : fault_inside (like_with (codes "Zed") []) no_connections ≡ Some UnknownType
  pub gate_declared : fault_inside (gates_with (input_gate (codes "in") ∷ [])) no_connections
      ≡ Some KindClash
  pub unknown : fault_connected (Some (codes "Zed")) [] ≡ Some UnknownType
  pub simple : fault_connected (Some (codes "Tick")) [] ≡ Some KindClash
  pub built_in : fault_connected (Some (codes "DelayChannel")) (second_for (codes "delay") ∷ [])
      ≡ None
  pub no_rate : fault_connected (Some (codes "DelayChannel")) (second_for (codes "datarate") ∷ [])
      ≡ Some KindClash
  pub own : fault_connected (Some (codes "Slow")) [] ≡ None
  pub fixed : fault_connected (Some (codes "Slow")) (second_for (codes "delay") ∷ [])
      ≡ Some KindClash
  pub block : fault_connected None (second_for (codes "delay") ∷ second_for (codes "datarate") ∷ [])
      ≡ None
  pub other_block : fault_connected None (second_for (codes "gab") ∷ []) ≡ Some KindClash
  pub twice : fault_connected None (second_for (codes "delay") ∷ second_for (codes "delay") ∷ [])
      ≡ Some KindClash
  pub declared : fault_connected None (double_named (codes "own") ∷ []) ≡ Some KindClash
  pub in_group : fault_grouped (Some (codes "Zed")) [] ≡ Some UnknownType
  pub clash_in_group : fault_grouped (Some (codes "Tick")) [] ≡ Some KindClash
  pub inherited : fault_of (derived_network (codes "O") [] [] ∷ record {
    kind = Network;
    name = codes "N";
    base = None;
    interfaces = [];
    lines = [];
    gates = [];
    submodules = [];
    connections = one_connection;
  } ∷ []) ≡ None

-- a network may have connections, or a section of connections without any, vectors of submodules,
-- conditions, sizes of gates in bodies, and submodules that are compound modules or networks
pub record ExampleParts : Type 0 where
  pub unconnected : fault_inside (tick_named (codes "t"))
      (record { allow_unconnected = true; items = [] }) ≡ None
  pub connections : fault_inside (tick_named (codes "t")) one_connection ≡ None
  pub vector : fault_inside (record {
    name = codes "t";
    size = Some (expression.Literal
        (values.Whole (pos 3)));
    submodule_type = submodule_type.Named (codes "Tick");
    condition = None;
    body = record { lines = []; gates = [] };
  }) no_connections ≡ None
  pub condition : fault_inside (record {
    name = codes "t";
    size = None;
    submodule_type = submodule_type.Named (codes "Tick");
    condition = Some (expression.Literal
        (values.Truth false));
    body = record { lines = []; gates = [] };
  }) no_connections ≡ None
  pub gates : fault_inside (gates_with (three_of (codes "g") ∷ [])) no_connections ≡ None
  pub compound : fault_of (network_of [] (t_with (codes "M") [] ∷ []) ∷ module_m ∷ []) ≡ None
  pub network : fault_of (network_of [] (t_with (codes "O") [] ∷ []) ∷ record {
    kind = Network;
    name = codes "O";
    base = None;
    interfaces = [];
    lines = [];
    gates = [];
    submodules = [];
    connections = no_connections;
  } ∷ []) ≡ None
