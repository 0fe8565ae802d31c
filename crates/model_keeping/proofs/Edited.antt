-- A model with another ini text.
use Rattle.std.proofs.Common.{◌≡◌, ◌≤◌, ◌^◌, sym, subst, ℕ, Some, None, Ok}
use Rattle.std.specs.Option.{option_and_then}
use Rattle.inside_keys.specs.declared.found.Found.{Found}
use Rattle.inside_keys.specs.declared.key.Key.{Key}
use Rattle.inside_keys.specs.Keys.{same_key}
use Rattle.inside_keys.specs.Settings.{ModuleRules}
use Rattle.inside_keys.specs.Values.{rules_of, value_at}
use Rattle.inside_edits.specs.Kept.{KeptValues}
use Rattle.inside_edits.specs.Reads.{with_entries}
use Rattle.inside_edits.proofs.Kept.{over_ini_edit}
use Rattle.inside_run.proofs.Exact.{exact}
use Rattle.model_data.specs.declared.model.Model.{Model}
use Rattle.model_settings.specs.Standings.{is_too_deep, number_of, setting_of, standing_of}
use Rattle.param_engine.proofs.Going.{value_followed}
use Rattle.param_keeping.specs.Stores.{IsStored, known_in}
use Rattle.model_keeping.specs.Keeping.{IsIniEdited, KeptIsNew, told_by}

pub setting_after : (before after : Model) → IsIniEdited before after → setting_of after ≡ with_entries (told_by after) (setting_of before)
unfolding setting_of
setting_after before after h j = record {
  stands = standing_of;
  root = λ site. option_and_then (number_of (h.types j)) (h.network j);
  planned = λ site. None;
  is_too_deep = λ site. is_too_deep site.path;
  entry = told_by after;
  types = h.types j;
}

-- what a store knows are values
pub is_value : (s : ModuleRules) (n : ℕ) (kept : KeptValues) → n ≤ 2 ^ 64 → IsStored (rules_of s) n kept → (k : Key) (v : Found) → known_in same_key kept k ≡ Some v → value_at s k ≡ Ok v
is_value s n kept few stored k v h = value_followed (rules_of s) (exact s) n k (Ok v) few (stored.right k v h)

pub kept_new : KeptIsNew
kept_new before after kept seeds given live edited its miss left =
    let r = over_ini_edit (setting_of before) (told_by after) its.steps kept seeds given live its.stored miss left in
    let stored = subst (λ s. IsStored (rules_of s) its.steps (record kept { live = live })) (sym (setting_after before after edited)) r.0 in (
      record { steps = its.steps; few = its.few; stored = stored },
      λ k v h. is_value (setting_of after) its.steps (record kept { live = live }) its.few stored k v h,
      r.1,
    )
