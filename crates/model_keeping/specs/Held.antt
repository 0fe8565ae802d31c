-- The values that a model holds: those of a store that may be read, and others that were found since.
use Rattle.std.specs.Prelude.{◌≡◌, ℕ, Bool, true, List, Option, Some, None, Ok, IfSome}
use Rattle.inside_edits.specs.Kept.{KeptValues}
use Rattle.inside_edits.specs.Standing.{ServesStill}
use Rattle.inside_keys.specs.declared.found.Found.{Found}
use Rattle.inside_keys.specs.declared.key.Key.{Key}
use Rattle.inside_keys.specs.declared.key.Module.{Module}
use Rattle.inside_keys.specs.Keys.{same_key}
use Rattle.inside_keys.specs.Settings.{ModuleRules}
use Rattle.inside_keys.specs.Values.{rules_of, value_at}
use Rattle.inside_uses.specs.Uses.{KnownValues}
use Rattle.model_data.specs.declared.model.Model.{Model}
use Rattle.model_keeping.specs.Keeping.{AreItsValues, IsIniEdited}
use Rattle.model_keeping.specs.declared.held.HeldValues.{HeldValues}
use Rattle.model_keeping.specs.declared.values.ReadValues.{ReadValues}
use Rattle.model_keeping.specs.declared.values.StoredValues.{StoredValues}
use Rattle.model_keeping.specs.declared.values.ValuePlace.{ValuePlace}
use Rattle.model_keeping.specs.declared.values.ValuePlace.TheVariants as at
use Rattle.model_settings.specs.Standings.{setting_of}
use Rattle.param_engine.specs.Tables.{Entries, IsKept, known}
use Rattle.param_engine.specs.Tables.{value_at as value_since}
use Rattle.param_keeping.specs.Stores.{HasOnePlace, Keeping, known_in, store_of}
use Rattle.param_keeping.specs.Stores.{value_at as value_stored}
use Rattle.rest_index.specs.Rests.{is_among}

-- ---- reading

-- WHAT MAY BE READ IS RIGHT: each value with a flag is the one that its key has
abbrev pub AreValuesOf : ModuleRules → KeptValues → Type 0
AreValuesOf s kept = (k : Key) (v : Found) → known_in same_key kept k ≡ Some v → value_at s k ≡ Ok v

-- those of a store: no key has two places, and what may be read is right
pub record AreRightStored (s : ModuleRules) (t : StoredValues) : Type 0 where
  pub apart : HasOnePlace same_key t.kept.now.entries
  pub right : AreValuesOf s (store_of t.kept.now t.read.now)

-- THE VALUES OF A MODEL, to be read
pub record AreRight (s : ModuleRules) (v : ReadValues) : Type 0 where
  pub stored_are : IfSome v.stored (AreRightStored s)
  pub since_are : IsKept (rules_of s) v.since.now.entries

-- what stands at a place of the store, where there is one
abbrev pub stored_at : Option StoredValues → ℕ → Option Found
stored_at None p = None
stored_at (Some t) p = value_stored t.kept.now.entries p

-- what stands there
abbrev pub standing : ReadValues → ValuePlace → Option Found
standing v (at.Stored p) = stored_at v.stored p
standing v (at.Since p) = value_since v.since.now.entries p

-- ---- what a model has after edits of its ini text

-- a value that is known of the one or of the other
abbrev pub first_of : Option Found → Option Found → Option Found
first_of None o = o
first_of (Some v) o = Some v

-- the values that count, and those that were found since
abbrev pub known_now : Keeping Key Found → List Bool → Entries Key Found → KnownValues
known_now kept closed since k =
    first_of (known_in same_key (store_of kept closed) k) (known same_key since k)

-- of each of these places the inside of a module is served as well by what is known now
abbrev pub AllServeStill : Module → KeptValues → KnownValues → List ℕ → Type 0
AllServeStill m before now places =
    (q : ℕ) → is_among q places ≡ true → ServesStill m before now q

-- VALUES OVER EDITS: a first model has all values of a store that count by these flags; another one is
-- that model with another ini text; and its own are those that count by other flags, and those that
-- were found since.
pub record AreFound (first m : Model) (kept : Keeping Key Found) (live closed : List Bool)
    (since : Entries Key Found) : Type 0 where
  pub first_are : AreItsValues first (store_of kept live)
  pub edited : IsIniEdited first m
  pub closed_are : AreItsValues m (store_of kept closed)
  pub since_are : IsKept (rules_of (setting_of m)) since

abbrev pub AreFoundFor : Model → Keeping Key Found → List Bool → List Bool → Entries Key Found
    → Type 0
AreFoundFor m kept live closed since = (first : Model) × AreFound first m kept live closed since

-- THE VALUES THAT A MODEL HOLDS: such values; and what may be read of the store is right
pub record HoldsValues (m : Model) (h : HeldValues) : Type 0 where
  pub found : AreFoundFor m h.store.value.kept h.store.value.live h.closed h.since.entries
  pub read_are : AreValuesOf (setting_of m) (store_of h.store.value.kept h.read)
