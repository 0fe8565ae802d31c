-- Small networks, worked by hand.
use Rattle.std.specs.Prelude.{◌≡◌, ℕ, true, false, List, [], ◌∷◌, map, Option, Some, None, Result}
use Rattle.std.specs.Prelude.{Ok, Err, codes}
use Rattle.param_following.specs.Following.{followed}
use Rattle.ned_trees.specs.declared.connections.Arrow.{Arrow}
use Rattle.ned_trees.specs.declared.connections.Arrow.TheVariants as arrow
use Rattle.ned_trees.specs.declared.connections.ConnectionItem.{ConnectionItem}
use Rattle.ned_trees.specs.declared.connections.ConnectionItem.TheVariants as item
use Rattle.ned_trees.specs.declared.connections.End.{End}
use Rattle.ned_trees.specs.declared.connections.GateIndex.{GateIndex}
use Rattle.ned_trees.specs.declared.connections.GateIndex.TheVariants as gate_index
use Rattle.ned_trees.specs.declared.connections.Half.{Half}
use Rattle.ned_trees.specs.declared.connections.Half.TheVariants as half
use Rattle.ned_trees.specs.declared.declarations.GateDirection.TheVariants.{Inout}
use Rattle.ned_trees.specs.declared.declarations.GateLine.TheVariants as gate
use Rattle.ned_trees.specs.declared.declarations.GateSize.TheVariants as size
use Rattle.ned_trees.specs.declared.declarations.Submodule.{Submodule}
use Rattle.ned_trees.specs.declared.declarations.SubmoduleType.TheVariants.{Named}
use Rattle.ned_trees.specs.declared.declarations.TypeDeclaration.{TypeDeclaration}
use Rattle.ned_trees.specs.declared.declarations.TypeKind.TheVariants.{Simple, Network}
use Rattle.sim_values.specs.declared.model_fault.ModelFault.{ModelFault}
use Rattle.sim_values.specs.declared.model_fault.ModelFault.TheVariants as fault
use Rattle.inside_wiring.specs.declared.wiring.Link.{Link}
use Rattle.inside_keys.specs.declared.found.Found.{Found}
use Rattle.inside_keys.specs.declared.found.Found.TheVariants as found
use Rattle.inside_keys.specs.declared.key.Module.{Module}
use Rattle.inside_keys.specs.declared.key.What.TheVariants as what
use Rattle.inside_keys.specs.Keys.{key}
use Rattle.inside_keys.specs.Settings.{ModuleRules, Whereabouts}
use Rattle.inside_keys.specs.Values.{rules_of}

-- `simple Router { gates: inout port[]; }`
abbrev pub router : TypeDeclaration
router = record {
  kind = Simple;
  name = codes "Router";
  base = None;
  interfaces = [];
  lines = [];
  gates = gate.Declaration (record {
    name = codes "port";
    direction = Inout;
    size = size.Open;
    loose = false;
  }) ∷ [];
  submodules = [];
  connections = record { allow_unconnected = false; items = [] };
}

-- `simple Plug { gates: inout port; }`
abbrev pub plug : TypeDeclaration
plug = record {
  kind = Simple;
  name = codes "Plug";
  base = None;
  interfaces = [];
  lines = [];
  gates = gate.Declaration (record {
    name = codes "port";
    direction = Inout;
    size = size.Single;
    loose = false;
  }) ∷ [];
  submodules = [];
  connections = record { allow_unconnected = false; items = [] };
}

-- `NAME: TYPE;`
abbrev pub named : List ℕ → List ℕ → Submodule
named name type = record {
  name = name;
  size = None;
  submodule_type = Named type;
  condition = None;
  body = record { lines = []; gates = [] };
}

-- `NAME.port`, with a half and an index where these are there
abbrev pub port : List ℕ → Option Half → Option GateIndex → End
port name half index = record {
  owner = Some (record { name = name; index = None });
  gate = record { name = codes "port"; half = half; index = index };
}

-- `NAME.port++`
abbrev pub next_of : List ℕ → End
next_of name = port name None (Some gate_index.Next)

-- `NAME.port$i++` and `NAME.port$o++`
abbrev pub half_of : List ℕ → Half → End
half_of name half = port name (Some half) (Some gate_index.Next)

-- `LEFT ARROW RIGHT;`
abbrev pub line : End → Arrow → End → ConnectionItem
line l way r = item.Line (record {
  connection = record {
    left = l;
    arrow = way;
    channel = None;
    right = r;
  };
  clauses = [];
})

-- `LEFT.port++ <--> RIGHT.port++;`
abbrev pub joined : List ℕ → List ℕ → ConnectionItem
joined l r = line (next_of l) arrow.Both (next_of r)

-- `LEFT.port$o++ --> RIGHT.port$i++;`
abbrev pub one_way : List ℕ → List ℕ → ConnectionItem
one_way l r = line (half_of l half.Output) arrow.Right (half_of r half.Input)

-- `network R { submodules: a: TYPE; b: TYPE; c: TYPE; connections: ITEMS }`
abbrev pub network : List ℕ → List ConnectionItem → TypeDeclaration
network type items = record {
  kind = Network;
  name = codes "R";
  base = None;
  interfaces = [];
  lines = [];
  gates = [];
  submodules = named (codes "a") type ∷ named (codes "b") type ∷ named (codes "c") type ∷ [];
  connections = record { allow_unconnected = false; items = items };
}

abbrev pub the_network : Module
the_network = record { created = 0; path = codes "R" }

-- the network stands alone, and all else is in it
abbrev pub standing : List ℕ → Whereabouts
standing (c ∷ dot ∷ name) =
    record { around = Some the_network; name = name; index = None; is_declared = true }
standing _ = record { around = None; name = codes "R"; index = None; is_declared = false }

abbrev pub setting : List ℕ → List ConnectionItem → ModuleRules
setting type items = record {
  stands = λ m. standing m.path;
  root = λ m. Some 2;
  planned = λ m. None;
  is_too_deep = λ m. false;
  entry = λ path. None;
  types = router ∷ plug ∷ network type items ∷ [];
}

-- what is found inside of the network by following what is asked for
abbrev pub found_in : List ℕ → List ConnectionItem → Option (Result Found ModelFault)
found_in type items = followed (rules_of (setting type items)) 4 (key the_network what.Inside)

-- the sizes of its gate vectors
abbrev pub sizes_in : Option (Result Found ModelFault) → Option (Result (List ℕ) ModelFault)
sizes_in None = None
sizes_in (Some (Ok (found.Inside i))) = Some (Ok i.wiring.sizes)
sizes_in (Some (Ok (found.Value v))) = None
sizes_in (Some (Ok (found.Carrier c))) = None
sizes_in (Some (Err f)) = Some (Err f)

-- of a network of three routers
abbrev pub sizes : List ConnectionItem → Option (Result (List ℕ) ModelFault)
sizes items = sizes_in (found_in (codes "Router") items)

-- of a network of three plugs
abbrev pub plugged : List ConnectionItem → Option (Result (List ℕ) ModelFault)
plugged items = sizes_in (found_in (codes "Plug") items)

abbrev pub ends_of : Link → (ℕ × ℕ) × (ℕ × ℕ)
ends_of l = ((l.from.vector, l.from.index), (l.to.vector, l.to.index))

-- the links, the last one first, by the numbers of vectors and indexes
abbrev pub links_in : Option (Result Found ModelFault) → List ((ℕ × ℕ) × (ℕ × ℕ))
links_in (Some (Ok (found.Inside i))) = map ends_of i.wiring.links
links_in _ = []

abbrev pub links : List ConnectionItem → List ((ℕ × ℕ) × (ℕ × ℕ))
links items = links_in (found_in (codes "Router") items)

-- a ring
abbrev pub ring : List ConnectionItem
ring = joined (codes "a") (codes "b") ∷ joined (codes "b") (codes "c")
    ∷ joined (codes "c") (codes "a") ∷ []

-- `LEFT.port <--> RIGHT.port;`
abbrev pub plug_in : List ℕ → List ℕ → ConnectionItem
plug_in l r = line (port l None None) arrow.Both (port r None None)

-- THE ROWS
pub record AreWorked : Type 0 where
  -- without connections no router has a port
  pub alone : sizes [] ≡ Some (Ok (0 ∷ 0 ∷ 0 ∷ []))
  -- in a ring each has two
  pub ring_sizes : sizes ring ≡ Some (Ok (2 ∷ 2 ∷ 2 ∷ []))
  -- a.port[0] and b.port[0] are joined, b.port[1] and c.port[0], c.port[1] and a.port[1]
  pub ring_links : links ring ≡ ((0, 1), (2, 1)) ∷ ((2, 1), (0, 1)) ∷ ((2, 0), (1, 1)) ∷ (
    (1, 1),
    (2, 0),
  ) ∷ ((1, 0), (0, 0)) ∷ ((0, 0), (1, 0)) ∷ []
  -- one more connection between the first and the last of them, in front
  pub one_more : sizes (joined (codes "a") (codes "c") ∷ ring) ≡ Some (Ok (3 ∷ 2 ∷ 3 ∷ []))
  -- b is joined with itself, by two of its ports
  pub itself : sizes (joined (codes "b") (codes "b") ∷ []) ≡ Some (Ok (0 ∷ 2 ∷ 0 ∷ []))
  -- what comes back takes the other halves of the same ports
  pub back : links (one_way (codes "a") (codes "b") ∷ one_way (codes "b") (codes "a") ∷ [])
      ≡ ((1, 0), (0, 0)) ∷ ((0, 0), (1, 0)) ∷ []
  -- a port of which one half is taken isn't free in both
  pub half_taken : sizes (one_way (codes "a") (codes "b") ∷ joined (codes "a") (codes "b") ∷ [])
      ≡ Some (Ok (2 ∷ 2 ∷ 0 ∷ []))
  -- there is no d; a vector is no single gate, and a single gate is no vector; a whole inout gate
  -- goes both ways
  pub no_submodule : sizes (joined (codes "a") (codes "d") ∷ []) ≡ Some (Err fault.NoGate)
  pub no_single : sizes (plug_in (codes "a") (codes "b") ∷ []) ≡ Some (Err fault.NoGate)
  pub no_vector : plugged (joined (codes "a") (codes "b") ∷ []) ≡ Some (Err fault.NoGate)
  pub no_direction : sizes (line (next_of (codes "a")) arrow.Right (next_of (codes "b")) ∷ [])
      ≡ Some (Err fault.NoGate)
  -- single gates are taken once
  pub single : plugged (plug_in (codes "a") (codes "b") ∷ []) ≡ Some (Ok (1 ∷ 1 ∷ 1 ∷ []))
  pub taken : plugged (plug_in (codes "a") (codes "b") ∷ plug_in (codes "b") (codes "c") ∷ [])
      ≡ Some (Err fault.AlreadyConnected)
  pub both_ends : plugged (plug_in (codes "c") (codes "c") ∷ []) ≡ Some (Err fault.AlreadyConnected)
