-- What is looked up of a model.
use Rattle.std.specs.Prelude.{List}
use Rattle.ini_index.specs.IndexOf.{IsIndexOf}
use Rattle.model_data.specs.declared.model.Model.{Model}
use Rattle.model_settings.specs.Standings.{IsLookedUp}
use Rattle.model_settings.specs.declared.tables.ModelTables.{ModelTables}
use Rattle.model_settings.specs.declared.tables.TypeTables.{TypeTables}
use Rattle.ned_trees.specs.declared.declarations.TypeDeclaration.{TypeDeclaration}

-- what is looked up of these types is theirs
abbrev pub AreOfTypes : List TypeDeclaration → TypeTables → Type 0
AreOfTypes types tables = IsLookedUp types tables.names tables.submodules tables.gates

-- THE TABLES OF A MODEL: what is looked up of its types, and the index of the entries along its
-- chain
pub record AreTablesOf (model : Model) (tables : ModelTables) : Type 0 where
  pub types_are : AreOfTypes model.types tables.types.value
  pub entries_are : IsIndexOf model.ini model.chain tables.entries.value
