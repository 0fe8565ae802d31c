-- The inside of a module stands where all that it asked for is served.
use Rattle.std.proofs.Common.{◌≡◌, ◌∙◌, ℕ, suc, Bool, true, false, ◌==◌, ◌||◌, eq-eqb, List, [], ◌∷◌, map, Option, Some, None, Result, Ok, Err, refl, ap, sym, subst}
use Rattle.std.specs.Prelude.{slice_get}
use Rattle.param_following.specs.Edits.{answer_of, asked_by}
use Rattle.param_following.specs.Following.{followed}
use Rattle.param_following.specs.Waiting.{IsRight}
use Rattle.param_following.proofs.Outcomes.{none_some, outcome_stays}
use Rattle.sim_values.specs.declared.model_fault.ModelFault.{ModelFault}
use Rattle.ini_trees.specs.declared.entry.EntryValue.{EntryValue}
use Rattle.inside_keys.specs.declared.found.Found.{Found}
use Rattle.inside_keys.specs.declared.key.Key.{Key}
use Rattle.inside_keys.specs.declared.key.Module.{Module}
use Rattle.inside_keys.specs.declared.key.What.TheVariants as what
use Rattle.inside_keys.specs.Keys.{key, same_key}
use Rattle.inside_keys.specs.Settings.{ModuleRules}
use Rattle.inside_keys.specs.Values.{asking_of, rules_of}
use Rattle.inside_run.proofs.Exact.{exact}
use Rattle.inside_uses.specs.Uses.{AllServe, IsAbove, KnownValues, ServesAs, comes_to, is_of_inner}
use Rattle.inside_uses.proofs.Walk.{uses_whether}
use Rattle.param_keeping.specs.Stores.{IsStored, key_at, key_in, keys_at, known_in}
use Rattle.param_keeping.proofs.Places.{stands, with_key}
use Rattle.rest_index.specs.Rests.{asked_of, is_among, is_live}
use Rattle.inside_edits.specs.Kept.{KeptValues}
use Rattle.inside_edits.specs.Reads.{with_entries}
use Rattle.inside_edits.specs.Standing.{InsideStands, ServesStill}

among_first : (q : ℕ) (qs : List ℕ) → is_among q (q ∷ qs) ≡ true
among_first q qs = ap (λ b. b || is_among q qs) (eq-eqb q q refl)

among_later : (r q : ℕ) (qs : List ℕ) → is_among r qs ≡ true → is_among r (q ∷ qs) ≡ true
among_later r q qs h = by (q == r)
  where
    by : (b : Bool) → (b || is_among r qs) ≡ true
    by true = refl
    by false = h

module _ (s : ModuleRules) (after : List ℕ → Option EntryValue) (n k : ℕ) (m : Module) (v : Found) (before : KeptValues) (now : KnownValues) (p : ℕ) (above : IsAbove s m)
    (was : IsStored (rules_of s) n before) (there : slice_get before.entries p ≡ Some (key m what.Inside, v)) (counts : is_live before.live p ≡ true)
    (right : IsRight (rules_of (with_entries after s)) k now) (still : (q : ℕ) → is_among q (asked_of before.rows p) ≡ true → ServesStill m before now q) where
  abbrev known : KnownValues
  known = known_in same_key before

  abbrev Own : Key
  Own = key m what.Inside

  serves : (q : ℕ) (j : Key) → key_at before.entries q ≡ Some j → is_live before.live q ≡ true → ServesStill m before now q → ServesAs (is_of_inner m j) (known j) (now j)
  serves q j h l it =
      let w = with_key before.entries q j h in
      let e = stands (rules_of s) (exact s) before.entries before.live j w.0 q was.shaped.apart w.1 l in
      subst (λ o. ServesAs (is_of_inner m j) o (now j)) (sym e) (it j w.0 w.1)

  all_serve : (qs : List ℕ) (js : List Key) → keys_at before.entries qs ≡ map Some js → ((q : ℕ) → is_among q qs ≡ true → is_live before.live q ≡ true)
      → ((q : ℕ) → is_among q qs ≡ true → ServesStill m before now q) → AllServe (is_of_inner m) known now js
  all_serve [] [] h l it = tt
  all_serve [] (j ∷ js) h l it = absurd (cc)
  all_serve (q ∷ qs) [] h l it = tt
  all_serve (q ∷ qs) (j ∷ js) h l it =
      let first : key_at before.entries q ≡ Some j = cc in
      let others : keys_at before.entries qs ≡ map Some js = cc in
      (serves q j first (l q (among_first q qs)) (it q (among_first q qs)), all_serve qs js others (λ r e. l r (among_later r q qs e)) (λ r e. it r (among_later r q qs e)))

  own_known : known Own ≡ Some v
  own_known = stands (rules_of s) (exact s) before.entries before.live Own v p was.shaped.apart there counts

  asked_keys : keys_at before.entries (asked_of before.rows p) ≡ map Some (asked_by known (asking_of s Own))
  asked_keys = was.asked p Own (ap key_in there) counts

  comes : comes_to now (asking_of s Own) ≡ Some (Ok v)
  comes = (uses_whether s m known now above (all_serve (asked_of before.rows p) (asked_by known (asking_of s Own)) asked_keys (λ q a. was.shaped.closed p q counts a) still)).0 ∙ was.shut Own v own_known

  answers : (j : Key) (r : Result Found ModelFault) → answer_of (now j) ≡ Some r → followed (rules_of (with_entries after s)) k j ≡ Some r
  answers j r = by (now j) refl
    where
      by : (o : Option Found) → now j ≡ o → answer_of o ≡ Some r → followed (rules_of (with_entries after s)) k j ≡ Some r
      by None e h = absurd (none_some h)
      by (Some u) e h = right j u e ∙ h

  pub inside_follows : followed (rules_of (with_entries after s)) (suc k) Own ≡ Some (Ok v)
  inside_follows = outcome_stays (λ j. answer_of (now j)) (followed (rules_of (with_entries after s)) k) answers (asking_of s Own) (Ok v) comes

pub inside_stands : InsideStands
inside_stands s after n k m v before now p above was there counts right still = inside_follows s after n k m v before now p above was there counts right still
