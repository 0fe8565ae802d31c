-- What an edit leaves of the values of a model that stand in a store.
use Rattle.std.proofs.Common.{◌≡◌, ◌≢◌, ◌∙◌, ◌⊎◌, inl, inr, ◌<◌, ◌≤◌, ◌+◌, ℕ, zero, suc, Bool, List, [], ◌∷◌, length, Option, Some, None, Result, Ok, Err, IfOk, refl, ap, sym, subst, arith}
use Rattle.std.proofs.lemmas.Bool.{cases_eq}
use mathlib.Core.Path.{fun_ext}
use Rattle.ini_trees.specs.declared.lines.IniEntry.{IniEntry}
use Rattle.ini_trees.specs.Entries.{last_name, value_for}
use Rattle.inside_keys.specs.declared.found.Found.{Found}
use Rattle.inside_keys.specs.declared.key.Key.{Key}
use Rattle.inside_keys.specs.Keys.{same_key}
use Rattle.inside_edits.specs.Kept.{MissNone}
use Rattle.inside_edits.specs.Reads.{SaysTheSame, path_read}
use Rattle.inside_run.specs.Same.{alike, equal}
use Rattle.edit_places.specs.Edited.{NoneIsMissed}
use Rattle.model_data.specs.declared.model.Model.{Model}
use Rattle.model_data.specs.Models.{entries_in}
use Rattle.model_settings.specs.Standings.{setting_of}
use Rattle.model_keeping.specs.Keeping.{KeptIsNew, told_by}
use Rattle.model_keeping.specs.Paths.{path_of_key, path_of_place}
use Rattle.model_keeping.specs.Storing.{AreValuesOfEdited}
use Rattle.param_keeping.specs.Stores.{HasOnePlace, Keeping, Store, IsShaped, key_at, known_in, store_of}
use Rattle.place_index.specs.Listing.{ListsMore}
use Rattle.place_index.specs.Places.{AreListed, IsListed, Listing, PathsOf}
use Rattle.rest_index.specs.Rests.{IsLeft}
use Rattle.rest_index.specs.declared.giving_up.Flags.{Flags}

-- keys are compared as the definition says
same_equal : same_key ≡ equal
same_equal = fun_ext (λ a. fun_ext (λ b. sym (alike a b)))

pub unknown_alike : (s : Store Key Found) (k : Key) → known_in equal s k ≡ None → known_in same_key s k ≡ None
unknown_alike s k h = subst (λ (e : Key → Key → Bool). known_in e s k ≡ None) (sym same_equal) h

pub known_as : (s : Store Key Found) (k : Key) (v : Found) → known_in equal s k ≡ Some v → known_in same_key s k ≡ Some v
known_as s k v h = subst (λ (e : Key → Key → Bool). known_in e s k ≡ Some v) (sym same_equal) h

pub apart_alike : (es : List (Key × Found)) → HasOnePlace same_key es → HasOnePlace equal es
apart_alike es h = subst (λ (e : Key → Key → Bool). HasOnePlace e es) same_equal h

pub shaped_alike : (s : Store Key Found) → IsShaped same_key s → IsShaped equal s
shaped_alike s h = subst (λ (e : Key → Key → Bool). IsShaped e s) same_equal h

module _ (kept : Keeping Key Found) (live : List Bool) (before after : List IniEntry) (seeds : List ℕ) (missed : NoneIsMissed (path_of_place kept.entries) before after seeds) where
  -- none is missed of the keys that read one of these paths
  miss_none : (m n : Model) → before ≡ entries_in m → after ≡ entries_in n → MissNone (setting_of m) (told_by n) (store_of kept live) seeds
  unfolding setting_of
  miss_none m n was is p k there counts out = by (path_read k) refl
    where
      by : (o : Option (List ℕ)) → path_read k ≡ o → SaysTheSame (λ path. value_for path (entries_in m)) (told_by n) o
      by None e = tt
      by (Some path) e = subst (λ (es : List IniEntry). value_for path es ≡ value_for path (entries_in m)) is
          (subst (λ (es : List IniEntry). value_for path after ≡ value_for path es) was (missed p path (ap path_of_key there ∙ e) out))

  pub values_left : KeptIsNew → (given : List ℕ) (left : List Bool) → IsLeft kept.rows seeds live given left → AreValuesOfEdited kept live before after left
  values_left law given left is_left m n edited was is values = (law m n (store_of kept live) seeds given left edited values (miss_none m n was is) is_left).0

pub all_left : {E : Type 0} (kept : Keeping Key Found) (live : List Bool) (before after : List IniEntry) (seeds : List ℕ) → NoneIsMissed (path_of_place kept.entries) before after seeds → KeptIsNew
    → (r : Result Flags E) → IfOk r (λ flags. IsLeft kept.rows seeds live flags.given flags.live) → IfOk r (λ flags. AreValuesOfEdited kept live before after flags.live)
all_left kept live before after seeds missed law (Ok flags) h = values_left kept live before after seeds missed law flags.given flags.live h
all_left kept live before after seeds missed law (Err e) h = h

-- ---- places that are listed one after another

listed_still : (p : ℕ) (path : List ℕ) (u v : Listing) → ListsMore u v → IsListed p path u → IsListed p path v
listed_still p path u v more is = record { named = more (last_name path) p is.named; odd = λ h. more [] p (is.odd h) }

-- the places before that one are
abbrev pub AreListedBefore : PathsOf → ℕ → Listing → Type 0
AreListedBefore paths n under = (p : ℕ) (path : List ℕ) → p < n → paths p ≡ Some path → IsListed p path under

pub none_listed : (paths : PathsOf) (under : Listing) → AreListedBefore paths 0 under
none_listed paths under p path h = absurd (omega (arith, h))

pub one_listed : (paths : PathsOf) (n : ℕ) (u v : Listing) → AreListedBefore paths n u → ListsMore u v → ((path : List ℕ) → paths n ≡ Some path → IsListed n path v) → AreListedBefore paths (n + 1) v
one_listed paths n u v before more own p path h e = by (cases_eq p n)
  where
    by : (p ≡ n) ⊎ (p ≢ n) → IsListed p path v
    by (inl same) = subst (λ q. IsListed q path v) (sym same) (own path (ap paths (sym same) ∙ e))
    by (inr other) = listed_still p path u v more (before p path (omega (arith, h, other)) e)

no_key : (es : List (Key × Found)) (p : ℕ) → length es ≤ p → key_at es p ≡ None
no_key [] p h = refl
no_key (e ∷ es) zero h = absurd (omega (arith, h))
no_key (e ∷ es) (suc p) h = no_key es p (omega (arith, h))

pub all_listed : (es : List (Key × Found)) (n : ℕ) (u : Listing) → length es ≤ n → AreListedBefore (path_of_place es) n u → AreListed (path_of_place es) u
all_listed es n u far before p path e = by (below p n)
  where
    below : (a b : ℕ) → (a < b) ⊎ (b ≤ a)
    below a zero = inr (omega arith)
    below zero (suc b) = inl (omega arith)
    below (suc a) (suc b) = elim (below a b) [
      | inl h ↦ inl (omega (arith, h))
      | inr h ↦ inr (omega (arith, h))
    ]

    none_some : None ≡ Some path → ⊥
    none_some h = cc

    by : (p < n) ⊎ (n ≤ p) → IsListed p path u
    by (inl h) = before p path h e
    by (inr h) = absurd (none_some (sym (ap path_of_key (no_key es p (omega (arith, h, far)))) ∙ e))
