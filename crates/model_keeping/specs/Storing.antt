-- The values of a model in a store, and what an edit of the ini text leaves of them.
use Rattle.std.specs.Prelude.{◌≡◌, ℕ, Bool, List}
use Rattle.ini_trees.specs.declared.lines.IniEntry.{IniEntry}
use Rattle.inside_keys.specs.declared.found.Found.{Found}
use Rattle.inside_keys.specs.declared.key.Key.{Key}
use Rattle.edit_places.specs.Edited.{AreReached}
use Rattle.model_data.specs.declared.model.Model.{Model}
use Rattle.model_data.specs.Models.{entries_in}
use Rattle.model_keeping.specs.Keeping.{AreItsValues, IsIniEdited}
use Rattle.model_keeping.specs.Paths.{path_of_place}
use Rattle.param_keeping.specs.Stores.{Keeping, store_of}
use Rattle.rest_index.specs.Rests.{IsLeft}
use Rattle.rest_index.specs.declared.giving_up.Flags.{Flags}

-- WHAT AN EDIT LEAVES: some places are given up, with all that rest on them and no others; they are
-- those of whose paths an entry speaks that the edit took out or put in
pub record IsLeftByEdit (kept : Keeping Key Found) (live : List Bool) (before after : List IniEntry)
    (flags : Flags) : Type 0 where
  pub seeds : List ℕ
  pub reached : AreReached (path_of_place kept.entries) before after seeds
  pub left : IsLeft kept.rows seeds live flags.given flags.live

-- What is left are values of the model as edited, where the types and the network are as they were.
abbrev pub AreValuesOfEdited : Keeping Key Found → List Bool → List IniEntry → List IniEntry
    → List Bool → Type 0
AreValuesOfEdited kept live before after left = (m n : Model) → IsIniEdited m n
    → before ≡ entries_in m → after ≡ entries_in n → AreItsValues m (store_of kept live) →
    AreItsValues n (store_of kept left)
