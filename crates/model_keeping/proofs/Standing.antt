-- Insides that are what they were, and values that may be read.
use Rattle.std.proofs.Common.{◌≡◌, ◌≢◌, ◌∙◌, ◌⊎◌, inl, inr, ◌<◌, ◌≤◌, ◌+◌, ◌^◌, ◌-◌, ◌==◌, ◌||◌, eqb-true, ℕ, zero, suc, Bool, true, false, true≢false, if◌then◌else◌, List, [], ◌∷◌, length, Option, Some, None, Ok, refl, ap, sym, subst, arith}
use Rattle.std.proofs.lemmas.Bool.{le-ltb}
use Rattle.std.proofs.Common.{drop-cons}
use Rattle.std.proofs.lemmas.List.{length-take}
use Rattle.std.proofs.Common.{drop, get_or}
use Rattle.std.specs.Prelude.{nat_lt, option_map, slice_get, slice_set, take}
use Rattle.ini_trees.specs.Entries.{last_name}
use Rattle.inside_edits.specs.Kept.{KeptValues}
use Rattle.inside_edits.specs.Standing.{ServesStill}
use Rattle.inside_edits.proofs.Standing.{inside_stands}
use Rattle.inside_keys.specs.declared.found.Found.{Found}
use Rattle.inside_keys.specs.declared.key.Key.{Key}
use Rattle.inside_keys.specs.declared.key.Module.{Module}
use Rattle.inside_keys.specs.declared.key.What.TheVariants as what
use Rattle.inside_keys.specs.Keys.{key, same_key}
use Rattle.inside_keys.specs.Settings.{ModuleRules}
use Rattle.inside_keys.specs.Values.{rules_of, value_at}
use Rattle.inside_run.proofs.Exact.{exact}
use Rattle.inside_uses.specs.Uses.{HasValue, IsAbove, KnownValues, is_of_inner}
use Rattle.model_data.specs.declared.model.Model.{Model}
use Rattle.model_settings.specs.Standings.{before_last, setting_of}
use Rattle.param_engine.proofs.Going.{value_followed}
use Rattle.param_engine.specs.Tables.{Entries, IsKept}
use Rattle.param_engine.specs.Tables.{known as known_since}
use Rattle.param_following.specs.Following.{followed}
use Rattle.param_following.specs.Waiting.{IsRight}
use Rattle.param_following.proofs.Circles.{followed_stays}
use Rattle.param_following.proofs.Outcomes.{none_some}
use Rattle.param_keeping.specs.Stores.{HasOnePlace, IsStored, Keeping, key_at, key_in, known_in, store_of, value_at as stored_value, value_in}
use Rattle.param_keeping.proofs.Added.{equal_or_not}
use Rattle.param_keeping.proofs.Places.{found, stands}
use Rattle.param_keeping.proofs.Steps.{steps_places}
use Rattle.rest_index.specs.Rests.{asked_of, is_among, is_live}
use Rattle.model_keeping.specs.Held.{AllServeStill, AreFound, AreFoundFor, AreValuesOf, first_of, known_now}
use Rattle.model_keeping.specs.Keeping.{AreItsValues, IsIniEdited, told_by}
use Rattle.model_keeping.proofs.Edited.{setting_after}

-- ---- the module around one has a shorter path

same_some : {X : Type 0} (x y : X) → Some x ≡ Some y → x ≡ y
same_some x y h = cc

front_shorter : (path : List ℕ) (n : ℕ) → nat_lt (length path) (length (take n path)) ≡ false
front_shorter path n = le-ltb (length path) (length (take n path)) (let e = length-take n path in omega (arith, e))

pub is_above : (first : Model) (m : Module) → IsAbove (setting_of first) m
unfolding setting_of
is_above first m a h = by (nat_lt (length (last_name m.path)) (length m.path)) h
  where
    by : (b : Bool) → option_map (λ path. let r : Module = record { created = m.created; path = path } in r)
        (if b then Some (take (length m.path - suc (length (last_name m.path))) m.path) else None) ≡ Some a → nat_lt (length m.path) (length a.path) ≡ false
    by true e =
        let r : Module = record { created = m.created; path = take (length m.path - suc (length (last_name m.path))) m.path } in
        let same : r ≡ a = same_some r a e in
        subst (λ (x : Module). nat_lt (length m.path) (length x.path) ≡ false) same (front_shorter m.path (length m.path - suc (length (last_name m.path))))
    by false e = absurd (none_some e)

-- ---- what is known now is right

module _ (s : ModuleRules) (kept : Keeping Key Found) (closed : List Bool) (since : Entries Key Found) (n : ℕ) (stored : IsStored (rules_of s) n (store_of kept closed)) (is : IsKept (rules_of s) since) where
  pub right_now : IsRight (rules_of s) (n + length since) (known_now kept closed since)
  right_now k v h = by (known_in same_key (store_of kept closed) k) refl h
    where
      by : (o : Option Found) → known_in same_key (store_of kept closed) k ≡ o → first_of o (known_since same_key since k) ≡ Some v → followed (rules_of s) (n + length since) k ≡ Some (Ok v)
      by None e h = followed_stays (rules_of s) (length since) (n + length since) k (Ok v) (omega arith) (is.right k v h)
      by (Some w) e h = followed_stays (rules_of s) n (n + length since) k (Ok v) (omega arith) (stored.right k v (e ∙ h))

-- ---- an inside

module _ (first m : Model) (kept : Keeping Key Found) (live closed : List Bool) (since : Entries Key Found) (are : AreFound first m kept live closed since)
    (few : length kept.entries < 2 ^ 63) (fewer : length since < 2 ^ 63) (p : ℕ) (site : Module) (v : Found)
    (there : slice_get kept.entries p ≡ Some (key site what.Inside, v)) (counts : is_live live p ≡ true)
    (still : (q : ℕ) → is_among q (asked_of kept.rows p) ≡ true → ServesStill site (store_of kept live) (known_now kept closed since) q) where
  abbrev steps : ℕ
  steps = length kept.entries + length since

  right : IsRight (rules_of (setting_of m)) steps (known_now kept closed since)
  right = right_now (setting_of m) kept closed since (length kept.entries)
      (steps_places (rules_of (setting_of m)) are.closed_are.steps (store_of kept closed) (exact (setting_of m)) are.closed_are.stored) are.since_are

  followed_first : followed (rules_of (setting_of m)) (suc steps) (key site what.Inside) ≡ Some (Ok v)
  followed_first =
      subst (λ (s : ModuleRules). followed (rules_of s) (suc steps) (key site what.Inside) ≡ Some (Ok v)) (sym (setting_after first m are.edited))
      (inside_stands (setting_of first) (told_by m) are.first_are.steps steps site v (store_of kept live) (known_now kept closed since) p (is_above first site) are.first_are.stored there counts
      (subst (λ (s : ModuleRules). IsRight (rules_of s) steps (known_now kept closed since)) (setting_after first m are.edited) right) still)

  pub inside_right : value_at (setting_of m) (key site what.Inside) ≡ Ok v
  inside_right = value_followed (rules_of (setting_of m)) (exact (setting_of m)) (suc steps) (key site what.Inside) (Ok v) (omega (arith, few, fewer)) followed_first

-- ---- what serves

-- some rules: which, is no matter of where keys stand
some_rules : ModuleRules
some_rules = record {
  stands = λ m. record { around = None; name = []; index = None; is_declared = false };
  root = λ m. None;
  planned = λ m. None;
  is_too_deep = λ m. false;
  entry = λ path. None;
  types = [];
}

module _ (kept : Keeping Key Found) (live closed : List Bool) (since : Entries Key Found) (site : Module) (q : ℕ) where
  -- what counts
  pub same_serves : HasOnePlace same_key kept.entries → is_live closed q ≡ true → ServesStill site (store_of kept live) (known_now kept closed since) q
  same_serves apart l j f e = inl (ap (λ o. first_of o (known_since same_key since j)) (stands (rules_of some_rules) (exact some_rules) kept.entries closed j f q apart e l))

  -- another value of an inner parameter
  pub other_serves : (k : Key) → key_at kept.entries q ≡ Some k → known_in same_key (store_of kept closed) k ≡ None → is_of_inner site k ≡ true → HasValue (stored_value kept.entries q) → HasValue (known_since same_key since k)
      → ServesStill site (store_of kept live) (known_now kept closed since) q
  other_serves k there gone inner was is j f e =
      let same : j ≡ k = same_some j k (sym (ap key_in e) ∙ there) in
      let now_is : known_now kept closed since k ≡ known_since same_key since k = ap (λ o. first_of o (known_since same_key since k)) gone in
      inr (ap (is_of_inner site) same ∙ inner, (subst HasValue (ap value_in e) was, subst HasValue (sym now_is ∙ ap (known_now kept closed since) (sym same)) is))

module _ (m : Module) (before : KeptValues) (now : KnownValues) where
  pub none_serve : AllServeStill m before now []
  none_serve q h = absurd (true≢false (sym h))

  pub one_more_serves : (p : ℕ) (ps : List ℕ) → ServesStill m before now p → AllServeStill m before now ps → AllServeStill m before now (p ∷ ps)
  one_more_serves p ps here rest q h = by (p == q) refl h
    where
      by : (b : Bool) → (p == q) ≡ b → (b || is_among q ps) ≡ true → ServesStill m before now q
      by true e h = subst (ServesStill m before now) (eqb-true p q e) here
      by false e h = rest q h

-- where one serves and those behind it do
pub at_place : (m : Module) (before : KeptValues) (now : KnownValues) (ps : List ℕ) (n : ℕ) → n < length ps → ServesStill m before now (get_or ps n 0) → AllServeStill m before now (drop (n + 1) ps)
    → AllServeStill m before now (drop n ps)
at_place m before now ps n h here rest =
    let next : n + 1 ≡ suc n = omega arith in
    subst (AllServeStill m before now) (sym (drop-cons ps n 0 h))
    (one_more_serves m before now (get_or ps n 0) (drop (suc n) ps) here (subst (λ k. AllServeStill m before now (drop k ps)) next rest))

drop_none : (k : ℕ) → drop {A = ℕ} k [] ≡ []
drop_none zero = refl
drop_none (suc k) = refl

pub past_end : (m : Module) (before : KeptValues) (now : KnownValues) (ps : List ℕ) (n : ℕ) → length ps ≤ n → AllServeStill m before now (drop n ps)
past_end m before now [] n h = subst (AllServeStill m before now) (sym (drop_none n)) (none_serve m before now)
past_end m before now (q ∷ ps) zero h = absurd (omega (arith, h))
past_end m before now (q ∷ ps) (suc n) h = past_end m before now ps n (omega (arith, h))

-- ---- one place more may be read

set_other : (flags : List Bool) (p q : ℕ) → q ≢ p → is_live (slice_set flags p true) q ≡ is_live flags q
set_other [] p q h = refl
set_other (b ∷ flags) zero zero h = absurd (h refl)
set_other (b ∷ flags) zero (suc q) h = refl
set_other (b ∷ flags) (suc p) zero h = refl
set_other (b ∷ flags) (suc p) (suc q) h = set_other flags p q (λ e. h (ap suc e))

pub read_more : (s : ModuleRules) (kept : Keeping Key Found) (read : List Bool) (p : ℕ) (k : Key) (v : Found) → HasOnePlace same_key kept.entries → AreValuesOf s (store_of kept read)
    → slice_get kept.entries p ≡ Some (k, v) → value_at s k ≡ Ok v → AreValuesOf s (store_of kept (slice_set read p true))
read_more s kept read p k v apart are there is j u h = let r = found (rules_of s) (exact s) kept.entries (slice_set read p true) j u h in by r.0 r.1 r.2 (equal_or_not r.0 p)
  where
    by : (q : ℕ) → slice_get kept.entries q ≡ Some (j, u) → is_live (slice_set read p true) q ≡ true → (q ≡ p) ⊎ (q ≢ p) → value_at s j ≡ Ok u
    by q e l (inl d) =
        let z : Some (j, u) ≡ Some (k, v) = sym e ∙ ap (slice_get kept.entries) d ∙ there in
        let a : j ≡ k = same_some j k (ap key_in z) in
        let b : u ≡ v = same_some u v (ap value_in z) in
        ap (value_at s) a ∙ is ∙ ap (λ (x : Found). Ok x) (sym b)
    by q e l (inr d) = are j u (stands (rules_of s) (exact s) kept.entries read j u q apart e (sym (set_other read p q d) ∙ l))
