-- What an edit leaves of the values that a model keeps.
use Rattle.std.specs.Prelude.{◌≡◌, ◌≤◌, ◌^◌, ℕ, Bool, true, false, List, Option, Some, Ok}
use Rattle.ini_trees.specs.declared.entry.EntryValue.{EntryValue}
use Rattle.ini_trees.specs.Entries.{value_for}
use Rattle.inside_keys.specs.declared.found.Found.{Found}
use Rattle.inside_keys.specs.declared.key.Key.{Key}
use Rattle.inside_keys.specs.Keys.{same_key}
use Rattle.inside_keys.specs.Values.{rules_of, value_at}
use Rattle.inside_edits.specs.Kept.{KeptValues, MissNone}
use Rattle.model_data.specs.declared.model.Model.{Model}
use Rattle.model_data.specs.Models.{entries_in, network_of}
use Rattle.model_settings.specs.Standings.{setting_of}
use Rattle.param_keeping.specs.Laws.{with_live}
use Rattle.param_keeping.specs.Stores.{IsStored, known_in}
use Rattle.rest_index.specs.Rests.{is_live, IsLeft, RestsOn}

-- what a model keeps are its values, found in no more steps than the definition of a value allows
pub record AreItsValues (m : Model) (kept : KeptValues) : Type 0 where
  pub steps : ℕ
  pub few : steps ≤ 2 ^ 64
  pub stored : IsStored (rules_of (setting_of m)) steps kept

-- THE ONE MODEL IS THE OTHER WITH ANOTHER INI TEXT: the types and the network are as they were. So
-- it is after an edit of the ini text or of the configuration that leaves the network.
pub record IsIniEdited (before after : Model) : Type 0 where
  pub types : after.types ≡ before.types
  pub network : network_of after ≡ network_of before

-- what the ini text of a model says of a path
abbrev pub told_by : Model → List ℕ → Option EntryValue
told_by m path = value_for path (entries_in m)

-- A VALUE THAT IS KEPT OVER AN EDIT IS THE NEW MODEL'S: where some places are given up, with all that
-- rest on them, and none is missed among these, what is left are values of the edited model, each the
-- one that a key has there; and each value that is given up rests on one at these places.
abbrev pub KeptIsNew : Type 0
KeptIsNew = (before after : Model) (kept : KeptValues) (seeds given : List ℕ) (live : List Bool)
    → IsIniEdited before after → AreItsValues before kept
    → MissNone (setting_of before) (told_by after) kept seeds
    → IsLeft kept.rows seeds kept.live given live →
    AreItsValues after (with_live kept live)
    × ((k : Key) (v : Found) → known_in same_key (with_live kept live) k ≡ Some v
    → value_at (setting_of after) k ≡ Ok v)
    × ((p : ℕ) → is_live kept.live p ≡ true → is_live live p ≡ false → RestsOn kept.rows seeds p)
