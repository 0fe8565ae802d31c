-- Modules that were created while a model ran, worked by hand.
use Rattle.std.specs.Prelude.{◌≡◌, ℕ, ◌==◌, ℤ, pos, negsuc, true, false, List, [], ◌∷◌, Option}
use Rattle.std.specs.Prelude.{Some, None, Result, Ok, Err, bytes_eq, codes, if◌then◌else◌}
use Rattle.param_following.specs.Following.{followed}
use Rattle.ned_trees.specs.declared.declarations.Declaration.{Declaration}
use Rattle.ned_trees.specs.declared.declarations.GateDirection.TheVariants.{Input}
use Rattle.ned_trees.specs.declared.declarations.GateLine.{GateLine}
use Rattle.ned_trees.specs.declared.declarations.GateLine.TheVariants as gate
use Rattle.ned_trees.specs.declared.declarations.GateSize.TheVariants as size
use Rattle.ned_trees.specs.declared.declarations.ParameterValue.{ParameterValue}
use Rattle.ned_trees.specs.declared.declarations.ParameterValue.TheVariants as given
use Rattle.ned_trees.specs.declared.declarations.ParameterWord.TheVariants.{Int}
use Rattle.ned_trees.specs.declared.declarations.SectionLine.{SectionLine}
use Rattle.ned_trees.specs.declared.declarations.SectionLine.TheVariants as line
use Rattle.ned_trees.specs.declared.declarations.SubmoduleType.TheVariants.{Like}
use Rattle.ned_trees.specs.declared.declarations.TypeDeclaration.{TypeDeclaration}
use Rattle.ned_trees.specs.declared.declarations.TypeKind.{TypeKind}
use Rattle.ned_trees.specs.declared.declarations.TypeKind.TheVariants.{Simple, Module, Network}
use Rattle.ned_trees.specs.declared.declarations.TypeKind.TheVariants.{ModuleInterface}
use Rattle.ned_trees.specs.declared.expressions.Expression.TheVariants as expression
use Rattle.sim_values.specs.declared.model_fault.ModelFault.{ModelFault}
use Rattle.sim_values.specs.declared.model_fault.ModelFault.TheVariants as fault
use Rattle.sim_values.specs.declared.model_fault.ModelFault.TheVariants.{UnknownType, GateSize}
use Rattle.sim_values.specs.declared.value.Value.{Value}
use Rattle.sim_values.specs.declared.value.Value.TheVariants as value
use Rattle.sim_values.specs.declared.value_fault.ValueFault.TheVariants.{Mismatch, Unassigned}
use Rattle.inside_keys.specs.declared.found.Found.{Found}
use Rattle.inside_keys.specs.declared.found.Found.TheVariants as found
use Rattle.inside_keys.specs.declared.key.Module as key_module
use Rattle.inside_keys.specs.declared.key.What.{What}
use Rattle.inside_keys.specs.declared.key.What.TheVariants as what
use Rattle.inside_keys.specs.declared.planned.Planned.{Planned}
use Rattle.inside_keys.specs.Keys.{key}
use Rattle.inside_keys.specs.Settings.{ModuleRules, Whereabouts}
use Rattle.inside_keys.specs.Values.{rules_of}

-- `int NAME = VALUE;`, with or without the value
abbrev pub whole_named : List ℕ → Option ParameterValue → SectionLine
whole_named name v =
    line.Declaration (record { name = name; word = Int; unit = None; value = v })

abbrev pub type_of_kind : TypeKind → List ℕ → List SectionLine → List GateLine → TypeDeclaration
type_of_kind kind name lines gates = record {
  kind = kind;
  name = name;
  base = None;
  interfaces = [];
  lines = lines;
  gates = gates;
  submodules = [];
  connections = record { allow_unconnected = false; items = [] };
}

-- `simple Worker { parameters: int count; int pace = 2; gates: input in[]; }` within Holder
abbrev pub worker : TypeDeclaration
worker = type_of_kind Simple (codes "Holder.Worker") (whole_named (codes "count") None
    ∷ whole_named (codes "pace")
    (Some (given.Fixed (expression.Literal (value.Whole (pos 2))))) ∷ [])
    (gate.Declaration (record {
      name = codes "in";
      direction = Input;
      size = size.Open;
      loose = false;
    }) ∷ [])

-- `module Holder like Host { types: simple Worker {..} }`
abbrev pub holder : TypeDeclaration
holder = record {
  kind = Module;
  name = codes "Holder";
  base = None;
  interfaces = codes "Host" ∷ [];
  lines = [];
  gates = [];
  submodules = [];
  connections = record { allow_unconnected = false; items = [] };
}

-- `network R { submodules: p: <"Holder"> like Host; }`
abbrev pub with_parent : TypeDeclaration
with_parent = record {
  kind = Network;
  name = codes "R";
  base = None;
  interfaces = [];
  lines = [];
  gates = [];
  submodules = record {
    name = codes "p";
    size = None;
    submodule_type = Like (record {
      given = Some (given.Fixed (expression.Literal (value.Text (codes "Holder"))));
      interface = codes "Host";
    });
    condition = None;
    body = record { lines = []; gates = [] };
  } ∷ [];
  connections = record { allow_unconnected = false; items = [] };
}

abbrev pub the_types : List TypeDeclaration
the_types = with_parent ∷ holder ∷ worker ∷ type_of_kind Simple (codes "Worker") [] []
    ∷ type_of_kind Simple (codes "Other") [] [] ∷ type_of_kind ModuleInterface (codes "Host") [] []
    ∷ []

abbrev pub the_whole : key_module.Module
the_whole = record { created = 0; path = codes "R" }

-- the module that chooses its type by a value, in which another one was created
abbrev pub the_parent : key_module.Module
the_parent = record { created = 0; path = codes "R.p" }

abbrev pub the_created : key_module.Module
the_created = record { created = 1; path = codes "R.p.w" }

abbrev pub stands_so : key_module.Module → Whereabouts
stands_so m = if m.created == 1
    then record { around = Some the_parent; name = codes "w"; index = None; is_declared = false }
    else if bytes_eq m.path (codes "R.p")
    then record { around = Some the_whole; name = codes "p"; index = None; is_declared = true }
    else record { around = None; name = codes "R"; index = None; is_declared = false }

abbrev pub created_so : Planned → ModuleRules
created_so p = record {
  stands = stands_so;
  root = λ m. Some 0;
  planned = λ m. if m.created == 1 then Some p else None;
  is_too_deep = λ m. false;
  entry = λ path. None;
  types = the_types;
}

-- `NAME = VALUE;` and `NAME[SIZE];`, as a plan gives them
abbrev pub fixed : List ℕ → Value → SectionLine
fixed name v = line.Assignment (record {
  name = name;
  value = Some (given.Fixed (expression.Literal v));
})

abbrev pub sized : List ℕ → ℤ → GateLine
sized name n = gate.Refinement (record {
  name = name;
  size = Some (expression.Literal (value.Whole n));
  loose = false;
})

-- something of a module that was created as a type of that name, with these lines
abbrev pub found_of : List ℕ → List SectionLine → List GateLine → What
    → Option (Result Found ModelFault)
found_of name lines gates w = followed (rules_of (created_so (record {
  type_name = name;
  body = record { lines = lines; gates = gates };
}))) 8 (key the_created w)

abbrev pub type_by_name : List ℕ → Option (Result Found ModelFault)
type_by_name name = found_of name [] [] what.Type

abbrev pub param_of : List SectionLine → List ℕ → Option (Result Found ModelFault)
param_of lines x = found_of (codes "Worker") lines [] (what.Param x)

abbrev pub size_of_in : List GateLine → Option (Result Found ModelFault)
size_of_in gates = found_of (codes "Worker") [] gates (what.GateSize (codes "in"))

abbrev pub whole : ℕ → Option (Result Found ModelFault)
whole n = Some (Ok (found.Value (value.Whole (pos n))))

-- THE ROWS
pub record AreWorkedCreations : Type 0 where
  -- a type that stands within the one around goes before a global one of its name
  pub inner : type_by_name (codes "Worker") ≡ whole 2
  pub global : type_by_name (codes "Other") ≡ whole 4
  -- of a name with its package the last part counts
  pub packaged : type_by_name (codes "old.Other") ≡ whole 4
  -- an interface is no type of modules; nothing has that name; this is no name
  pub interface : type_by_name (codes "Host") ≡ Some (Err UnknownType)
  pub unknown : type_by_name (codes "Nothing") ≡ Some (Err UnknownType)
  pub no_name : type_by_name (codes "Other..") ≡ Some (Err UnknownType)
  -- a value of the plan, which goes before a fixed one of the type
  pub fixed_value : param_of (fixed (codes "count") (value.Whole (pos 3)) ∷ []) (codes "count")
      ≡ whole 3
  pub before_fixed : param_of (fixed (codes "pace") (value.Whole (pos 5)) ∷ []) (codes "pace")
      ≡ whole 5
  pub of_type : param_of [] (codes "pace") ≡ whole 2
  pub given_nowhere : param_of [] (codes "count") ≡ Some (Err (fault.Value Unassigned))
  -- of a wrong kind
  pub wrong_kind : param_of (fixed (codes "count") (value.Truth true) ∷ []) (codes "count")
      ≡ Some (Err (fault.Value Mismatch))
  -- nothing is connected around it: a gate vector has the size of the plan
  pub size_given : size_of_in (sized (codes "in") (pos 4) ∷ []) ≡ whole 4
  pub size_open : size_of_in [] ≡ whole 0
  pub size_below : size_of_in (sized (codes "in") (negsuc 0) ∷ []) ≡ Some (Err GateSize)
  pub size_above : size_of_in (sized (codes "in") (pos 65537) ∷ []) ≡ Some (Err GateSize)
