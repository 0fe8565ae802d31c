-- Modules that are there and that are not, worked by hand.
use Rattle.std.specs.Prelude.{◌≡◌, ℕ, ℤ, pos, true, false, List, [], ◌∷◌, Option, Some, None, Result}
use Rattle.std.specs.Prelude.{Ok, Err, codes}
use Rattle.param_following.specs.Following.{followed}
use Rattle.ned_trees.specs.declared.declarations.TypeDeclaration.{TypeDeclaration}
use Rattle.ned_trees.specs.declared.declarations.TypeKind.TheVariants.{Network}
use Rattle.sim_values.specs.declared.model_fault.ModelFault.{ModelFault}
use Rattle.sim_values.specs.declared.model_fault.ModelFault.TheVariants.{UnknownType}
use Rattle.sim_values.specs.declared.value.Value.TheVariants as value
use Rattle.inside_keys.specs.declared.found.Found.{Found}
use Rattle.inside_keys.specs.declared.found.Found.TheVariants as found
use Rattle.inside_keys.specs.declared.key.Module.{Module}
use Rattle.inside_keys.specs.declared.key.What.{What}
use Rattle.inside_keys.specs.declared.key.What.TheVariants as what
use Rattle.inside_keys.specs.Examples.{named, plug, the_network}
use Rattle.inside_keys.specs.Keys.{key}
use Rattle.inside_keys.specs.Settings.{ModuleRules, Whereabouts}
use Rattle.inside_keys.specs.Values.{rules_of}

-- `network R { submodules: a: Plug; }`
abbrev pub places : TypeDeclaration
places = record {
  kind = Network;
  name = codes "R";
  base = None;
  interfaces = [];
  lines = [];
  gates = [];
  submodules = named (codes "a") (codes "Plug") ∷ [];
  connections = record { allow_unconnected = false; items = [] };
}

-- a module in the network
abbrev pub inner : Module
inner = record { created = 0; path = codes "R.m" }

-- where that has this name and this index
abbrev pub named_so : List ℕ → Option ℤ → List ℕ → Whereabouts
named_so name index (c ∷ dot ∷ rest) =
    record { around = Some the_network; name = name; index = index; is_declared = true }
named_so name index _ = record { around = None; name = codes "R"; index = None; is_declared = false }

abbrev pub placed_so : List ℕ → Option ℤ → ModuleRules
placed_so name index = record {
  stands = λ m. named_so name index m.path;
  root = λ m. Some 0;
  planned = λ m. None;
  is_too_deep = λ m. false;
  entry = λ path. None;
  types = places ∷ plug ∷ [];
}

-- what something of it has as its value
abbrev pub value_there : List ℕ → Option ℤ → What → Option (Result Found ModelFault)
value_there name index w = followed (rules_of (placed_so name index)) 6 (key inner w)

abbrev pub type_there : List ℕ → Option ℤ → Option (Result Found ModelFault)
type_there name index = value_there name index what.Type

abbrev pub is_plug : Option (Result Found ModelFault)
is_plug = Some (Ok (found.Value (value.Whole (pos 1))))

abbrev pub not_there : Option (Result Found ModelFault)
not_there = Some (Err UnknownType)

-- THE ROWS: what isn't there has no type, and so nothing of it has a value
pub record ArePlaced : Type 0 where
  pub alone : type_there (codes "a") None ≡ is_plug
  -- an index without a vector
  pub no_vector : type_there (codes "a") (Some (pos 0)) ≡ not_there
  pub value_of_none : value_there (codes "a") (Some (pos 0)) (what.Param (codes "x")) ≡ not_there
  pub gate_of_none : value_there (codes "a") (Some (pos 0)) (what.GateSize (codes "port")) ≡ not_there
  -- no submodule has that name
  pub undeclared : type_there (codes "b") None ≡ not_there
