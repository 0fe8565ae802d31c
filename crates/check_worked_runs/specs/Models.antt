-- Models of small networks of Ticks, as values.
use Rattle.std.specs.Prelude.{ℕ, pos, false, List, [], ◌∷◌, ◌++◌, map, Some, None, codes}
use Rattle.sim_values.specs.declared.value.Dimension.TheVariants as dimension
use Rattle.sim_values.specs.declared.value.Value.{Value}
use Rattle.sim_values.specs.declared.value.Value.TheVariants as values
use Rattle.ned_trees.specs.declared.connections.ConnectionSection.{ConnectionSection}
use Rattle.ned_trees.specs.declared.expressions.Expression.TheVariants as expression
use Rattle.ned_trees.specs.declared.modes.Mode.TheVariants as mode
use Rattle.ned_trees.specs.declared.declarations.ParameterValue.TheVariants as parameter_value
use Rattle.ned_trees.specs.declared.declarations.ParameterWord.TheVariants as word
use Rattle.ned_trees.specs.declared.declarations.SectionLine.{SectionLine}
use Rattle.ned_trees.specs.declared.declarations.SectionLine.TheVariants as line
use Rattle.ned_trees.specs.declared.declarations.Submodule.{Submodule}
use Rattle.ned_trees.specs.declared.declarations.SubmoduleType.TheVariants as submodule_type
use Rattle.ned_trees.specs.declared.declarations.TypeDeclaration.{TypeDeclaration}
use Rattle.ned_trees.specs.declared.declarations.TypeKind.TheVariants as kind
use Rattle.ini_pattern.specs.declared.piece.Piece.{Piece}
use Rattle.ini_pattern.specs.declared.piece.Piece.TheVariants.{AnyPath, Char}
use Rattle.ini_trees.specs.declared.entry.EntryValue.TheVariants as entry_value
use Rattle.ini_trees.specs.declared.entry.EntryMeaning.TheVariants as meaning
use Rattle.ini_trees.specs.declared.lines.IniLine.{IniLine}
use Rattle.ini_trees.specs.declared.lines.LineMeaning.TheVariants as ini
use Rattle.model_data.specs.declared.model.Model.{Model}
use Rattle.ned_syntax.specs.Grammar.{lone}

-- `int NAME;`
abbrev pub number : List ℕ → SectionLine
number name = line.Declaration (record { name = name; word = word.Int; unit = None; value = None })

-- `int NAME = default(0);`
abbrev pub zero_number : List ℕ → SectionLine
zero_number name = line.Declaration (record {
  name = name;
  word = word.Int;
  unit = None;
  value = Some (parameter_value.Default (expression.Literal (values.Whole (pos 0))));
})

-- `double gap @unit(s) = default(1s);`
abbrev pub gap_line : SectionLine
gap_line = line.Declaration (record {
  name = codes "gap";
  word = word.Double;
  unit = Some dimension.Time;
  value = Some (parameter_value.Default
      (expression.Literal (values.Quantity dimension.Time (pos 1000000000000))));
})

-- no connections
abbrev pub no_connections : ConnectionSection
no_connections = record { allow_unconnected = false; items = [] }

-- the type `Tick`, with its two statistics
abbrev pub tick : TypeDeclaration
tick = record {
  kind = kind.Simple;
  name = codes "Tick";
  base = None;
  interfaces = [];
  lines =
      number (codes "count") ∷ gap_line ∷ zero_number (codes "priority")
      ∷ zero_number (codes "late") ∷ zero_number (codes "extra")
      ∷ line.Statistic (record {
        name = codes "fired";
        source = codes "fired";
        modes =
            record { mode = mode.Count; optional = false } ∷ record {
              mode = mode.Max;
              optional = false;
            }
            ∷ record { mode = mode.Vector; optional = false } ∷ [];
      })
      ∷ line.Statistic (record {
        name = codes "extra";
        source = codes "extra";
        modes = record { mode = mode.Last; optional = false } ∷ [];
      })
      ∷ [];
  gates = [];
  submodules = [];
  connections = no_connections;
}

-- `NAME: Tick;`
abbrev pub tick_named : List ℕ → Submodule
tick_named name = record {
  name = name;
  size = None;
  submodule_type = submodule_type.Named
      (codes "Tick");
  condition = None;
  body = record { lines = []; gates = [] };
}

-- `network N` with Ticks of these names
abbrev pub network : List (List ℕ) → TypeDeclaration
network names = record {
  kind = kind.Network;
  name = codes "N";
  base = None;
  interfaces = [];
  lines = [];
  gates = [];
  submodules = map tick_named names;
  connections = no_connections;
}

-- the pattern `**.NAME`
abbrev pub any_path_to : List ℕ → List Piece
any_path_to name = AnyPath ∷ Char 46 ∷ map Char name

-- `**.NAME = VALUE`, with the value as it is written
abbrev pub given : List ℕ → List ℕ → Value → IniLine
given name written value = record {
  text = codes "**." ++ (name ++ (codes " = " ++ written));
  meaning = ini.Entry (record {
    key = codes "**." ++ name;
    value = written;
    meaning = meaning.Parameter (record {
      pattern = any_path_to name;
      value = entry_value.Given (expression.Literal value);
    });
  });
}

-- `[General]` and `network = N`, and then these lines
abbrev pub ini_of : List IniLine → List IniLine
ini_of more =
    record { text = codes "[General]"; meaning = ini.Section (codes "General") }
    ∷ record {
      text = codes "network = N";
      meaning = ini.Entry (record {
        key = codes "network";
        value = codes "N";
        meaning = meaning.Network (codes "N");
      });
    }
    ∷ more

-- the network of Ticks of these names, with these lines of the ini text
abbrev pub ticks : List (List ℕ) → List IniLine → Model
ticks names more = record {
  files = record { types = lone tick ∷ lone (network names) ∷ [] } ∷ [];
  types = tick ∷ network names ∷ [];
  ini = ini_of more;
  config = codes "General";
  chain = codes "General" ∷ [];
  injections = [];
  last_injection = 0;
}

-- one Tick that fires three times
abbrev pub three_ticks : Model
three_ticks = ticks (codes "t" ∷ []) (given (codes "count") (codes "3") (values.Whole (pos 3)) ∷ [])
