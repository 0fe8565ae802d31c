-- The values that a model holds.
use Rattle.std.proofs.Common.{◌≡◌, ◌∙◌, ◌<◌, ◌≤◌, ◌^◌, ℕ, Bool, true, false, true≢false, List, [], length, Option, Some, None, Result, Ok, Err, IfOk, refl, ap, sym, subst, arith}
use Rattle.std.specs.Prelude.{IfSome, slice_get}
use Rattle.inside_edits.specs.Kept.{KeptValues}
use Rattle.inside_keys.specs.declared.found.Found.{Found}
use Rattle.inside_keys.specs.declared.key.Key.{Key}
use Rattle.inside_keys.specs.Keys.{same_key}
use Rattle.inside_keys.specs.Settings.{ModuleRules}
use Rattle.inside_keys.specs.Values.{rules_of}
use Rattle.ini_trees.specs.declared.lines.IniEntry.{IniEntry}
use Rattle.model_data.specs.declared.model.Model.{Model}
use Rattle.model_data.specs.Models.{entries_in}
use Rattle.model_settings.specs.Standings.{setting_of}
use Rattle.param_base.specs.Over.{over}
use Rattle.param_base.specs.Spots.{IsBase, over_base}
use Rattle.param_engine.specs.Tables.{Entries, IsKept}
use Rattle.param_following.specs.Following.{Rules}
use Rattle.param_following.proofs.Outcomes.{none_some}
use Rattle.param_keeping.specs.Stores.{IsStored, Keeping, Store, key_at, key_in, known_in, store_of, value_among}
use Rattle.rest_index.specs.declared.row.Row.{Row}
use Rattle.rest_index.specs.Rests.{asked_of, is_among, is_live}
use Rattle.model_keeping.specs.Held.{AreFound, AreFoundFor, AreValuesOf}
use Rattle.model_keeping.specs.Keeping.{AreItsValues, IsIniEdited}
use Rattle.model_keeping.specs.Storing.{AreValuesOfEdited}
use Rattle.model_keeping.specs.declared.store.ValueStore.{ValueStore}
use Rattle.model_keeping.proofs.Edited.{is_value}

-- ---- a store of nothing

module _ {K V F : Type 0} (rules : Rules K V F) where
  abbrev nothing : Store K V
  nothing = record { entries = []; rows = []; live = [] }

  empty_stored : IsStored rules 0 nothing
  empty_stored = record {
    right = λ k v h. absurd (none_some h);
    shut = λ k v h. absurd (none_some h);
    asked = λ p k h. absurd (none_some h);
    shaped = record {
      closed = λ u p h. absurd (true≢false (sym h));
      indexed = λ u p h. absurd (true≢false (sym h));
      apart = λ p q k j h. absurd (none_some h);
      within = λ p h. absurd (true≢false (sym h));
      users_within = λ p u h. absurd (true≢false (sym h));
      as_many = (omega arith, omega arith);
    };
  }

  pub empty_base : (kept : Keeping K V) (live : List Bool) → kept.entries ≡ [] → kept.rows ≡ [] → live ≡ [] → IsBase rules kept live
  empty_base kept live e r l =
      subst (λ (es : List (K × V)). IsStored rules (length es) (record { entries = es; rows = kept.rows; live = live })) (sym e)
      (subst (λ (rows : List Row). IsStored rules 0 (record { entries = []; rows = rows; live = live })) (sym r)
      (subst (λ (flags : List Bool). IsStored rules 0 (record { entries = []; rows = []; live = flags })) (sym l) empty_stored))

  pub over_nothing : (kept : Keeping K V) (live : List Bool) (es : Entries K V) → kept.entries ≡ [] → IsKept rules es → IsKept (over_base rules kept live) es
  over_nothing kept live es e h = subst (λ (xs : List (K × V)). IsKept (over (value_among rules.same xs live) rules) es) (sym e) h

-- ---- values that are held

-- what counts may be read
pub counts_read : (m : Model) (kept : KeptValues) → AreItsValues m kept → AreValuesOf (setting_of m) kept
counts_read m kept are k v h = is_value (setting_of m) are.steps kept are.few are.stored k v h

-- a store of values that were found as values
pub its_values : (m : Model) (kept : Keeping Key Found) (live : List Bool) → length kept.entries < 2 ^ 63 → IsBase (rules_of (setting_of m)) kept live → AreItsValues m (store_of kept live)
its_values m kept live few base = record { steps = length kept.entries; few = omega (arith, few); stored = base }

pub itself : (m : Model) → IsIniEdited m m
itself m = record { types = refl; network = refl }

pub later : (a b c : Model) → IsIniEdited a b → IsIniEdited b c → IsIniEdited a c
later a b c h i = record { types = i.types ∙ h.types; network = i.network ∙ h.network }

-- after one more edit
pub found_after : (before after : Model) (kept : Keeping Key Found) (live closed left : List Bool) (since next : Entries Key Found) → AreFoundFor before kept live closed since → IsIniEdited before after
    → AreItsValues after (store_of kept left) → IsKept (rules_of (setting_of after)) next → AreFoundFor after kept live left next
found_after before after kept live closed left since next are edited values kept_are =
    (are.0, record { first_are = are.1.first_are; edited = later are.0 before after are.1.edited edited; closed_are = values; since_are = kept_are })

-- values that were found for a model, in a place that models share
pub held_new : (m : Model) (place store : ValueStore) (closed read : List Bool) (since : Entries Key Found) → AreItsValues m (store_of store.kept store.live) → place ≡ store → closed ≡ store.live → read ≡ store.live
    → IsKept (rules_of (setting_of m)) since → AreFoundFor m place.kept place.live closed since × AreValuesOf (setting_of m) (store_of place.kept read)
held_new m place store closed read since are is c r kept =
    let all = subst (λ (s : ValueStore). AreItsValues m (store_of s.kept s.live)) (sym is) are in
    let counts = subst (λ (s : ValueStore). AreItsValues m (store_of s.kept closed)) (sym is) (subst (λ (l : List Bool). AreItsValues m (store_of store.kept l)) (sym c) are) in
    let may = subst (λ (s : ValueStore). AreItsValues m (store_of s.kept read)) (sym is) (subst (λ (l : List Bool). AreItsValues m (store_of store.kept l)) (sym r) are) in
    ((m, record { first_are = all; edited = itself m; closed_are = counts; since_are = kept }), counts_read m (store_of place.kept read) may)

pub stored_values : {E : Type 0} (m : Model) (kept : Keeping Key Found) (live : List Bool) (r : Result ValueStore E) → AreItsValues m (store_of kept live) → IfOk r (λ store. store.kept ≡ kept) → IfOk r (λ store. store.live ≡ live)
    → IfOk r (λ store. AreItsValues m (store_of store.kept store.live))
stored_values m kept live (Ok store) are k l =
    subst (λ (x : Keeping Key Found). AreItsValues m (store_of x store.live)) (sym k) (subst (λ (x : List Bool). AreItsValues m (store_of kept x)) (sym l) are)
stored_values m kept live (Err e) are k l = k
