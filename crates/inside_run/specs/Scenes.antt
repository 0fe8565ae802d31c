-- What a scene tells, as the setting has it.
use Rattle.std.specs.Prelude.{ℕ, List, Option, Some, None}
use Rattle.ned_trees.specs.declared.declarations.TypeDeclaration.{TypeDeclaration}
use Rattle.inside_keys.specs.Inside.{submodule_names}
use Rattle.inside_keys.specs.Settings.{Whereabouts}
use Rattle.inside_run.specs.declared.scene.Stands.{Stands}

abbrev pub standing_by : Stands → Whereabouts
standing_by t = record {
  around = t.around;
  name = t.name;
  index = t.index;
  is_declared = t.is_declared;
}

abbrev pub names_in : Option TypeDeclaration → Option (List (List ℕ))
names_in None = None
names_in (Some t) = Some (submodule_names t)
