-- Modules of a run, by their lines of records.
use Rattle.std.specs.Prelude.{◌≡◌, ℕ, ◌+◌, pos, false, List, [], ◌∷◌, ◌++◌, Option, Some, None, map}
use Rattle.std.specs.Prelude.{option_map}
use Rattle.ned_trees.specs.declared.declarations.GateLine.{GateLine}
use Rattle.ned_trees.specs.declared.declarations.GateLine.TheVariants as gate
use Rattle.ned_trees.specs.declared.declarations.ParameterValue.TheVariants as given
use Rattle.ned_trees.specs.declared.declarations.SectionLine.{SectionLine}
use Rattle.ned_trees.specs.declared.declarations.SectionLine.TheVariants as line
use Rattle.ned_trees.specs.declared.expressions.Expression.TheVariants as expression
use Rattle.sim_values.specs.declared.value.Value.TheVariants as value
use Rattle.inside_keys.specs.declared.key.Module.{Module}
use Rattle.inside_keys.specs.declared.planned.Planned.{Planned}
use Rattle.inside_keys.specs.Settings.{ModuleRules}
use Rattle.inside_run.specs.declared.scene.Stands.{Stands}
use Rattle.module_api.specs.declared.reply.FixedSize.{FixedSize}
use Rattle.module_api.specs.declared.reply.FixedValue.{FixedValue}
use Rattle.module_api.specs.declared.reply.Plan.{Plan}
use Rattle.model_data.specs.declared.model.Model.{Model}
use Rattle.model_questions.specs.declared.record.Origin.{Origin}
use Rattle.model_questions.specs.declared.record.Origin.TheVariants as origin
use Rattle.model_questions.specs.declared.record.Record.{Record}
use Rattle.model_questions.specs.Records.{Lineage, own_name, path_along, path_under}
use Rattle.model_settings.specs.declared.created.Creation.{Creation}
use Rattle.model_settings.specs.Created.{rules_with}

-- ---- plans

-- a value that a plan fixes is as one that the body of a submodule fixes
abbrev pub fixed_line : FixedValue → SectionLine
fixed_line v = line.Assignment (record {
  name = v.name;
  value = Some (given.Fixed (expression.Literal v.value));
})

-- and so is a size
abbrev pub sized_line : FixedSize → GateLine
sized_line z = gate.Refinement (record {
  name = z.name;
  size = Some (expression.Literal (value.Whole z.size));
  loose = false;
})

-- WHAT A MODULE WAS CREATED AS: a submodule of which its plan is the body
abbrev pub planned_as : Plan → Planned
planned_as p = record {
  type_name = p.type_name;
  body = record { lines = map fixed_line p.parameters; gates = map sized_line p.sizes };
}

-- ---- which modules stand in a line

-- one more where it was created
abbrev pub counted : Origin → ℕ → ℕ
counted origin.Built n = n
counted (origin.Created plan) n = n + 1

-- how many of the modules of a line were created while the run went on
abbrev pub created_in : Lineage → ℕ
created_in [] = 0
created_in (r ∷ rs) = counted r.origin (created_in rs)

-- THE MODULE that stands there. Modules of one path that were created one after the other are told
-- apart by their lines, of which each is answered about with its own rules.
abbrev pub site_of : Lineage → Module
site_of p = record { created = created_in p; path = path_along p }

-- the same, where there is one
abbrev pub maybe_site : Lineage → Option Module
maybe_site [] = None
maybe_site (r ∷ rs) = Some (site_of (r ∷ rs))

-- the module of a record in that one, as the line of both has it
abbrev pub path_in : Option Module → Record → List ℕ
path_in None r = own_name r.name r.index
path_in (Some around) r = path_under around.path (own_name r.name r.index)

abbrev pub created_around : Option Module → ℕ
created_around None = 0
created_around (Some around) = around.created

abbrev pub site_in : Option Module → Record → Module
site_in around r = record {
  created = counted r.origin (created_around around);
  path = path_in around r;
}

-- ---- what was created

-- where a module stands that was created in that one
abbrev pub stands_in : Option Module → Record → Stands
stands_in around r = record {
  around = around;
  name = r.name;
  index = option_map pos r.index;
  is_declared = false;
}

-- a module of that record which is in that one, where it was created
abbrev pub made_in : Option Module → Module → Record → Origin → List Creation
made_in around site r origin.Built = []
made_in around site r (origin.Created plan) = record {
  site = site;
  stands = stands_in around r;
  planned = planned_as plan;
} ∷ []

-- the modules of a line that were created while the run went on, the outermost first
abbrev pub creations_in : Lineage → List Creation
creations_in [] = []
creations_in (r ∷ rs) = creations_in rs ++ made_in (maybe_site rs) (site_of (r ∷ rs)) r r.origin

-- ALL THAT THE VALUES OF A MODULE REST ON that stands there: what the model says, and how those of
-- its line were created
abbrev pub rules_at : Model → Lineage → ModuleRules
rules_at m p = rules_with m (creations_in p)

-- A MODULE THAT WAS CREATED STANDS where its record says, and is what its plan says
pub record StandsAsCreated (m : Model) (r : Record) (rs : Lineage) (plan : Plan) : Type 0 where
  pub stands_so : (rules_at m (r ∷ rs)).stands (site_of (r ∷ rs)) ≡ record {
    around = maybe_site rs;
    name = r.name;
    index = option_map pos r.index;
    is_declared = false;
  }
  pub planned_so : (rules_at m (r ∷ rs)).planned (site_of (r ∷ rs)) ≡ Some (planned_as plan)

abbrev pub CreatedStand : Type 0
CreatedStand = (m : Model) (r : Record) (rs : Lineage) (plan : Plan)
    → r.origin ≡ origin.Created plan → StandsAsCreated m r rs plan
