-- Modules that were created while a model ran, over what it says of all others.
use Rattle.std.specs.Prelude.{◌≡◌, List, [], ◌∷◌, Option, Some, None, if◌then◌else◌}
use Rattle.inside_keys.specs.declared.key.Module.{Module}
use Rattle.inside_keys.specs.declared.planned.Planned.{Planned}
use Rattle.inside_keys.specs.Keys.{same_module}
use Rattle.inside_keys.specs.Settings.{ModuleRules, Whereabouts}
use Rattle.inside_run.specs.Scenes.{standing_by}
use Rattle.model_data.specs.declared.model.Model.{Model}
use Rattle.model_settings.specs.Standings.{setting_of}
use Rattle.model_settings.specs.declared.created.Creation.{Creation}
use Rattle.model_settings.specs.declared.created.RunSetting.{RunSetting}

-- which of these creations made a module, if one did
abbrev pub creation_at : List Creation → Module → Option Creation
creation_at [] m = None
creation_at (c ∷ cs) m = if same_module c.site m then Some c else creation_at cs m

-- where it stands, or else that
abbrev pub stands_by : Option Creation → Whereabouts → Whereabouts
stands_by None t = t
stands_by (Some c) t = standing_by c.stands

abbrev pub planned_by : Option Creation → Option Planned
planned_by None = None
planned_by (Some c) = Some c.planned

-- ALL THAT THE VALUES OF A MODEL REST ON WHERE THESE MODULES WERE CREATED: each of these stands
-- where it was created, as it was planned; all else is as the model says
abbrev pub rules_with : Model → List Creation → ModuleRules
rules_with m cs = record {
  stands = λ site. stands_by (creation_at cs site) ((setting_of m).stands site);
  root = (setting_of m).root;
  planned = λ site. planned_by (creation_at cs site);
  is_too_deep = (setting_of m).is_too_deep;
  entry = (setting_of m).entry;
  types = (setting_of m).types;
}

-- the same, as the code has it
abbrev pub rules_by : RunSetting → ModuleRules
rules_by r = rules_with r.model.now r.created

-- where none was created these are the model's own
abbrev pub NoneIsAsBefore : Type 0
NoneIsAsBefore = (m : Model) → rules_with m [] ≡ setting_of m
