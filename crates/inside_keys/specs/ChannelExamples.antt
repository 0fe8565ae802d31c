-- Channels without parameters, types that values choose, and gates that stay free, worked by hand.
use Rattle.std.specs.Prelude.{◌≡◌, ℕ, false, List, [], ◌∷◌, map, Option, Some, None, Result, Ok}
use Rattle.std.specs.Prelude.{Err, codes}
use Rattle.param_following.specs.Following.{followed}
use Rattle.ned_trees.specs.declared.connections.Arrow.TheVariants as arrow
use Rattle.ned_trees.specs.declared.connections.ConnectionItem.{ConnectionItem}
use Rattle.ned_trees.specs.declared.connections.ConnectionItem.TheVariants as item
use Rattle.ned_trees.specs.declared.declarations.SubmoduleType.TheVariants.{Like}
use Rattle.ned_trees.specs.declared.declarations.TypeDeclaration.{TypeDeclaration}
use Rattle.ned_trees.specs.declared.declarations.TypeKind.TheVariants as kinds
use Rattle.sim_values.specs.declared.model_fault.ModelFault.{ModelFault}
use Rattle.sim_values.specs.declared.model_fault.ModelFault.TheVariants as fault
use Rattle.sim_values.specs.declared.value_fault.ValueFault.TheVariants as value_fault
use Rattle.inside_wiring.specs.declared.wiring.Carrier.{Carrier}
use Rattle.inside_wiring.specs.declared.wiring.Link.{Link}
use Rattle.inside_keys.specs.declared.found.Found.{Found}
use Rattle.inside_keys.specs.declared.found.Found.TheVariants as found
use Rattle.inside_keys.specs.declared.key.What.TheVariants as what
use Rattle.inside_keys.specs.Channels.{ideal}
use Rattle.inside_keys.specs.Examples.{network, plug, port, standing, the_network}
use Rattle.inside_keys.specs.Keys.{key}
use Rattle.inside_keys.specs.Settings.{ModuleRules, type_gates}
use Rattle.inside_keys.specs.Unconnected.{unconnected}
use Rattle.inside_keys.specs.Values.{rules_of}

-- `LEFT.port <--> {} <--> RIGHT.port;`
abbrev pub over : List ℕ → List ℕ → ConnectionItem
over l r = item.Line (record {
  connection = record {
    left = port l None None;
    arrow = arrow.Both;
    channel = Some (record { type_name = None; lines = [] });
    right = port r None None;
  };
  clauses = [];
})

-- `a: <> like Ported;` alone in a network
abbrev pub chosen_network : TypeDeclaration
chosen_network = record {
  kind = kinds.Network;
  name = codes "R";
  base = None;
  interfaces = [];
  lines = [];
  gates = [];
  submodules = record {
    name = codes "a";
    size = None;
    submodule_type = Like (record { given = None; interface = codes "Ported" });
    condition = None;
    body = record { lines = []; gates = [] };
  } ∷ [];
  connections = record { allow_unconnected = false; items = [] };
}

abbrev pub setting_of : List TypeDeclaration → ModuleRules
setting_of types = record {
  stands = λ m. standing m.path;
  root = λ m. Some 0;
  planned = λ m. None;
  is_too_deep = λ m. false;
  entry = λ path. None;
  types = types;
}

-- a network of three plugs with these connections
abbrev pub plugs : List ConnectionItem → ModuleRules
plugs items = setting_of (network (codes "Plug") items ∷ plug ∷ [])

abbrev pub inside_by : ModuleRules → Option (Result Found ModelFault)
inside_by s = followed (rules_of s) 6 (key the_network what.Inside)

-- what the links do, the last one first
abbrev pub carriers_in : Option (Result Found ModelFault)
    → Option (Result (List Carrier) ModelFault)
carriers_in None = None
carriers_in (Some (Ok (found.Inside i))) = Some (Ok (map (λ (l : Link). l.carrier) i.wiring.links))
carriers_in (Some (Ok (found.Value v))) = None
carriers_in (Some (Ok (found.Carrier c))) = None
carriers_in (Some (Err f)) = Some (Err f)

-- the first part that lacks a connection
abbrev pub lacking_by : List ConnectionItem → Option (Result Found ModelFault) → Option ℕ
lacking_by items (Some (Ok (found.Inside i))) =
    unconnected (network (codes "Plug") items) (type_gates (plugs items)) i
lacking_by items _ = None

abbrev pub lacking : List ConnectionItem → Option ℕ
lacking items = lacking_by items (inside_by (plugs items))

-- THE ROWS
pub record AreWorkedToo : Type 0 where
  -- a block that sets nothing means an ideal channel, in both directions
  pub ideals : carriers_in (inside_by (plugs (over (codes "a") (codes "b") ∷ [])))
      ≡ Some (Ok (ideal ∷ ideal ∷ []))
  -- c's plug stays free: it is part 3
  pub free : lacking (over (codes "a") (codes "b") ∷ []) ≡ Some 3
  -- of three plugs that are all free a comes first
  pub all_free : lacking [] ≡ Some 1
  -- where nothing names the type of a submodule
  pub unnamed : carriers_in (inside_by (setting_of (chosen_network ∷ plug ∷ [])))
      ≡ Some (Err (fault.Value value_fault.Unassigned))
