-- Where modules stand, and their ids.
use Rattle.std.specs.Prelude.{◌≡◌, ℕ, Bool, List, Option}
use Rattle.std.specs.HashMap.{HashMap, get}
use Rattle.model_questions.specs.declared.record.Record.{Record}
use Rattle.model_questions.specs.Records.{built_id}
use Rattle.kernel_actions.specs.contracts.record_table.ModulePlacePartialEq as equality
use Rattle.kernel_actions.specs.declared.record_table.ModulePlace.{ModulePlace}

-- where the module of a record stands
abbrev pub place_of : Record → ModulePlace
place_of r = record { parent = r.parent; name = r.name; index = r.index }

-- the first module that was built at a place
abbrev pub id_at : List Record → ModulePlace → Option ℕ
id_at records p = built_id records p.parent p.name p.index

-- two places are one, as the table finds it
abbrev pub equal : ModulePlace → ModulePlace → Bool
equal = (equality.TheImpl.eq-value).it

-- each place has the first module that was built at it
abbrev pub AreIdsOf : {S : Type 0} → List Record → HashMap ModulePlace ℕ S → Type 0
AreIdsOf records ids = (p : ModulePlace) → get equal ids p ≡ id_at records p
