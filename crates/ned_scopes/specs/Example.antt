-- Types within others, worked by hand.
use Rattle.std.specs.Prelude.{◌≡◌, ℕ, List, [], ◌∷◌, false, map, Option, Some, None, codes}
use Rattle.ned_trees.specs.declared.connections.Arrow.TheVariants as arrow
use Rattle.ned_trees.specs.declared.connections.Clause.TheVariants as clause
use Rattle.ned_trees.specs.declared.connections.ConnectionItem.TheVariants as item
use Rattle.ned_trees.specs.declared.connections.ConnectionLine.{ConnectionLine}
use Rattle.ned_trees.specs.declared.connections.ConnectionSection.{ConnectionSection}
use Rattle.ned_trees.specs.declared.connections.End.{End}
use Rattle.ned_trees.specs.declared.expressions.Expression.TheVariants as expression
use Rattle.ned_trees.specs.declared.declarations.NestedType.{NestedType, roll-NestedType}
use Rattle.ned_trees.specs.declared.declarations.SectionLine.TheVariants as line
use Rattle.ned_trees.specs.declared.declarations.Submodule.{Submodule}
use Rattle.ned_trees.specs.declared.declarations.SubmoduleType.{SubmoduleType}
use Rattle.ned_trees.specs.declared.declarations.SubmoduleType.TheVariants as submodule_type
use Rattle.ned_trees.specs.declared.declarations.TypeDeclaration.{TypeDeclaration}
use Rattle.ned_trees.specs.declared.declarations.TypeKind.{TypeKind}
use Rattle.ned_trees.specs.declared.declarations.TypeKind.TheVariants.{Simple, Network, Channel}
use Rattle.ned_trees.specs.declared.declarations.TypeKind.TheVariants.{ModuleInterface}
use Rattle.ned_types.specs.Types.{type_name}
use Rattle.ned_scopes.specs.Scopes.{types_of}

-- `s: TYPE;`
abbrev pub one_of : List ℕ → Submodule
one_of name = record {
  name = codes "s";
  size = None;
  submodule_type = submodule_type.Named name;
  condition = None;
  body = record { lines = []; gates = [] };
}

-- no section of connections
abbrev pub no_connections : ConnectionSection
no_connections = record { allow_unconnected = false; items = [] }

-- `KIND NAME extends BASE like INTERFACES { submodules: one of each of these }`
abbrev pub type_with : TypeKind → List ℕ → Option (List ℕ) → List (List ℕ) → List (List ℕ)
    → TypeDeclaration
type_with kind name base interfaces parts =
    record {
      kind = kind;
      name = name;
      base = base;
      interfaces = interfaces;
      lines = [];
      gates = [];
      submodules = map one_of parts;
      connections = no_connections;
    }

-- `KIND NAME {}`, and `KIND NAME extends BASE {}`
abbrev pub root : TypeKind → List ℕ → TypeDeclaration
root kind name = type_with kind name None [] []

abbrev pub heir : TypeKind → List ℕ → List ℕ → TypeDeclaration
heir kind name base = type_with kind name (Some base) [] []

-- a type within which there are none, and one that is around these
abbrev pub alone : TypeDeclaration → NestedType
alone t = roll-NestedType (record { declared = t; types = [] })

abbrev pub around : TypeDeclaration × List TypeDeclaration → NestedType
around p = roll-NestedType (record { declared = p.0; types = map alone p.1 })

-- `simple A {}` `network Base { types: simple B {} }` `network Net extends Base { types: simple A
-- {} simple C extends A {} simple D extends B {} channel DelayChannel {} channel Slow extends
-- DelayChannel {} moduleinterface I {} simple F like I {} network Within { submodules: s: A; }
-- submodules: s: A; s: B; s: E; }`
abbrev pub first_file : List (TypeDeclaration × List TypeDeclaration)
first_file =
    (root Simple (codes "A"), [])
    ∷ (root Network (codes "Base"), root Simple (codes "B") ∷ [])
    ∷ (
      type_with Network (codes "Net") (Some (codes "Base")) []
          (codes "A" ∷ codes "B" ∷ codes "E" ∷ []),
      root Simple (codes "A")
          ∷ heir Simple (codes "C") (codes "A")
          ∷ heir Simple (codes "D") (codes "B")
          ∷ root Channel (codes "DelayChannel")
          ∷ heir Channel (codes "Slow") (codes "DelayChannel")
          ∷ root ModuleInterface (codes "I")
          ∷ type_with Simple (codes "F") None (codes "I" ∷ []) []
          ∷ type_with Network (codes "Within") None [] (codes "A" ∷ [])
          ∷ [],
    )
    ∷ []

-- `simple G extends A {}`
abbrev pub second_file : List (TypeDeclaration × List TypeDeclaration)
second_file = (heir Simple (codes "G") (codes "A"), []) ∷ []

-- the own gate of that name
abbrev pub own_gate : List ℕ → End
own_gate name = record { owner = None; gate = record { name = name; half = None; index = None } }

-- `g --> CHANNEL --> h;`
abbrev pub line_by : List ℕ → ConnectionLine
line_by channel = record {
  connection = record {
    left = own_gate (codes "g");
    arrow = arrow.Right;
    channel =
        Some (record { type_name = Some channel; lines = [] });
    right = own_gate (codes "h");
  };
  clauses = [];
}

-- `connections: g --> FIRST --> h; if f { g --> SECOND --> h; }`
abbrev pub lines_by : List ℕ → List ℕ → ConnectionSection
lines_by first second = record {
  allow_unconnected = false;
  items = item.Line (line_by first) ∷ item.Group (record {
    clauses =
        clause.If (expression.Name (codes "f")) ∷ [];
    lines = line_by second ∷ [];
  }) ∷ [];
}

-- `p: <> like INTERFACE;`
abbrev pub one_like : List ℕ → Submodule
one_like interface = record {
  name = codes "p";
  size = None;
  submodule_type = submodule_type.Like (record { given = None; interface = interface });
  condition = None;
  body = record { lines = []; gates = [] };
}

-- `network Lines { submodules: p: <> like FIRST; p: <> like SECOND; connections: g --> SLOW --> h;
-- if f { g --> FAST --> h; } }`
abbrev pub lines_network : List ℕ → List ℕ → List ℕ → List ℕ → TypeDeclaration
lines_network first second slow fast = record {
  kind = Network;
  name = codes "Lines";
  base = None;
  interfaces = [];
  lines = [];
  gates = [];
  submodules = one_like first ∷ one_like second ∷ [];
  connections = lines_by slow fast;
}

-- that network with the interfaces I and J and the channels Slow and Fast, and with `types:
-- moduleinterface I {} channel Slow {}`
abbrev pub line_file : List (TypeDeclaration × List TypeDeclaration)
line_file = (
  lines_network (codes "I") (codes "J") (codes "Slow") (codes "Fast"),
  root ModuleInterface (codes "I") ∷ root Channel (codes "Slow") ∷ [],
) ∷ []

abbrev pub example : List TypeDeclaration
example = types_of (record { types = map around first_file }
    ∷ record { types = map around second_file } ∷ [])

-- the full name of a type, and what it extends
abbrev pub head_of : TypeDeclaration → List ℕ × Option (List ℕ)
head_of t = (t.name, t.base)

pub record ExampleScopes : Type 0 where
  -- a type stands directly before those within it. What a head names is found in the types of the
  -- network around it before a global one (Net.A), then in those of its base (Base.B), and it hides
  -- a built-in channel (Net.DelayChannel)
  pub heads : map head_of example ≡
      (codes "A", None)
      ∷ (codes "Base", None)
      ∷ (codes "Base.B", None)
      ∷ (codes "Net", Some (codes "Base"))
      ∷ (codes "Net.A", None)
      ∷ (codes "Net.C", Some (codes "Net.A"))
      ∷ (codes "Net.D", Some (codes "Base.B"))
      ∷ (codes "Net.DelayChannel", None)
      ∷ (codes "Net.Slow", Some (codes "Net.DelayChannel"))
      ∷ (codes "Net.I", None)
      ∷ (codes "Net.F", None)
      ∷ (codes "Net.Within", None)
      ∷ (codes "G", Some (codes "A"))
      ∷ []
  -- so is an interface
  pub interfaces : map (λ (t : TypeDeclaration). t.interfaces) example ≡
      [] ∷ [] ∷ [] ∷ [] ∷ [] ∷ [] ∷ [] ∷ [] ∷ [] ∷ [] ∷ (codes "Net.I" ∷ []) ∷ [] ∷ [] ∷ []
  -- and the type of a submodule, but in the types of its own network and of that one's bases alone:
  -- A in Within isn't that of Net. What is found nowhere keeps its name
  pub parts : map (λ (t : TypeDeclaration). map (λ (s : Submodule). type_name s) t.submodules)
      example
      ≡ [] ∷ [] ∷ [] ∷ (codes "Net.A" ∷ codes "Base.B" ∷ codes "E" ∷ []) ∷ [] ∷ [] ∷ [] ∷ [] ∷ []
      ∷ [] ∷ [] ∷ (codes "A" ∷ []) ∷ [] ∷ []
  -- a simple type within another has the class of its own name, unless it extends one
  pub classes : map (λ (t : TypeDeclaration). t.lines) example ≡
      [] ∷ [] ∷ (line.Class (codes "B") ∷ []) ∷ [] ∷ (line.Class (codes "A") ∷ []) ∷ [] ∷ [] ∷ []
      ∷ [] ∷ [] ∷ (line.Class (codes "F") ∷ []) ∷ [] ∷ [] ∷ []
  -- so is the interface after `like` of a submodule, and the type of a connection's channel, in
  -- groups too
  pub lines : types_of (record { types = map around line_file } ∷ []) ≡
      lines_network (codes "Lines.I") (codes "J") (codes "Lines.Slow") (codes "Fast")
      ∷ root ModuleInterface (codes "Lines.I") ∷ root Channel (codes "Lines.Slow") ∷ []
