-- What comes of an inside, where the module and what is around it are known, and where it is kept.
use Rattle.std.proofs.Common.{◌≡◌, ◌⊎◌, inl, inr, ◌≤◌, ◌^◌, ℕ, zero, suc, Bool, true, false, [], Option, Some, None, Result, Ok, Err, ap, sym, refl, ◌∙◌, arith}
use Rattle.std.proofs.lemmas.Bool.{true≢false}
use Rattle.param_following.specs.Asking.{Done, Ask, outcome, with_value}
use Rattle.param_following.specs.Edits.{answer_of}
use Rattle.param_following.specs.Following.{followed, or_circle, value_of, value_within}
use Rattle.param_following.proofs.Circles.{followed_or_circle}
use Rattle.param_following.proofs.Outcomes.{none_some}
use Rattle.param_engine.proofs.Going.{value_followed}
use Rattle.sim_values.specs.declared.model_fault.ModelFault.TheVariants as fault
use Rattle.sim_values.specs.declared.value_fault.ValueFault.TheVariants.{Circle}
use Rattle.sim_values.specs.declared.model_fault.ModelFault.{ModelFault}
use Rattle.inside_keys.specs.Asked.{KeyAsking}
use Rattle.inside_keys.specs.Blamed.{blamed, placed, placed_by}
use Rattle.inside_keys.specs.Keys.{key}
use Rattle.inside_keys.specs.Settings.{ModuleRules, Whereabouts}
use Rattle.inside_keys.specs.Values.{asking_of, rules_of, value_at}
use Rattle.inside_keys.specs.declared.found.Found.{Found}
use Rattle.inside_keys.specs.declared.key.Key.{Key}
use Rattle.inside_keys.specs.declared.key.Module.{Module}
use Rattle.inside_keys.specs.declared.key.What.TheVariants as what
use Rattle.inside_run.proofs.Exact.{exact}
use Rattle.model_answers.specs.Insides.{inside_found}

pub found_at : (s : ModuleRules) (site : Module) (around : Option Module) (stands : Whereabouts) → stands ≡ s.stands site → around ≡ stands.around
    → placed (value_at s) site around (asking_of s (key site what.Inside)) ≡ inside_found s site
found_at s site around stands f g =
    ap (λ (a : Option Module). placed (value_at s) site a (asking_of s (key site what.Inside))) (g ∙ ap (λ (t : Whereabouts). t.around) f)

abbrev is_ok : Option (Result Found ModelFault) → Bool
is_ok (Some (Ok v)) = true
is_ok (Some (Err e)) = false
is_ok None = false

abbrev value_or : Found → Option (Result Found ModelFault) → Found
value_or d (Some (Ok v)) = v
value_or d (Some (Err e)) = d
value_or d None = d

-- with the values that are known an inside comes to what it comes to with all values
module _ (s : ModuleRules) (m : Module) (around : Option Module) (knows : Key → Option Found) (right : (j : Key) (u : Found) → knows j ≡ Some u → value_at s j ≡ Ok u) where
  pub placed_of : (t : KeyAsking) (f : Found) → outcome (λ j. answer_of (knows j)) t ≡ Some (Ok f) → placed (value_at s) m around t ≡ Ok f
  placed_of (Done (Ok g)) f h = ap Ok (ap (value_or f) h)
  placed_of (Done (Err e)) f h = absurd (true≢false (sym (ap is_ok h)))
  placed_of (Ask k rest) f h = go (λ u. placed_of (rest u) f) (knows k) refl h
    where
      go : ((u : Found) → outcome (λ j. answer_of (knows j)) (rest u) ≡ Some (Ok f) → placed (value_at s) m around (rest u) ≡ Ok f) → (o : Option Found) → knows k ≡ o
          → with_value (answer_of o) (λ v. outcome (λ j. answer_of (knows j)) (rest v)) ≡ Some (Ok f) → placed (value_at s) m around (Ask k rest) ≡ Ok f
      go later None e h = absurd (true≢false (sym (ap is_ok h)))
      go later (Some u) e h = ap (λ r. placed_by (blamed m around k) r (λ v. placed (value_at s) m around (rest v))) (right k u e) ∙ later u h

-- ---- an inside whose value is known

abbrev ok_or_none : Option (Result Found ModelFault) → Option Found
ok_or_none None = None
ok_or_none (Some (Ok v)) = Some v
ok_or_none (Some (Err e)) = None

abbrev ok_again : Option Found → Option (Result Found ModelFault)
ok_again None = None
ok_again (Some v) = Some (Ok v)

not_fault : (e : ModelFault) (v : Found) → Some (Err e) ≡ Some (Ok v) → ⊥
not_fault e v h = cc

module _ (s : ModuleRules) (n : ℕ) where
  -- what following finds of each key
  abbrev knows_followed : Key → Option Found
  knows_followed j = ok_or_none (followed (rules_of s) n j)

  followed_ok : (j : Key) (u : Found) → knows_followed j ≡ Some u → followed (rules_of s) n j ≡ Some (Ok u)
  followed_ok j u h = by (followed (rules_of s) n j) refl h
    where
      by : (o : Option (Result Found ModelFault)) → followed (rules_of s) n j ≡ o → ok_or_none o ≡ Some u → followed (rules_of s) n j ≡ Some (Ok u)
      by None e h = absurd (none_some h)
      by (Some (Ok v)) e h = e ∙ ap ok_again h
      by (Some (Err f)) e h = absurd (none_some h)

  -- where an asking comes to a value by what following finds, it needs values alone
  values_alone : (t : KeyAsking) (f : Found) → outcome (followed (rules_of s) n) t ≡ Some (Ok f) → outcome (λ j. answer_of (knows_followed j)) t ≡ Some (Ok f)
  values_alone (Done r) f h = h
  values_alone (Ask k rest) f h = by (λ v. values_alone (rest v) f) (followed (rules_of s) n k) h
    where
      by : ((v : Found) → outcome (followed (rules_of s) n) (rest v) ≡ Some (Ok f) → outcome (λ j. answer_of (knows_followed j)) (rest v) ≡ Some (Ok f))
          → (o : Option (Result Found ModelFault)) → with_value o (λ v. outcome (followed (rules_of s) n) (rest v)) ≡ Some (Ok f)
          → with_value (answer_of (ok_or_none o)) (λ v. outcome (λ j. answer_of (knows_followed j)) (rest v)) ≡ Some (Ok f)
      by later None h = absurd (none_some h)
      by later (Some (Ok v)) h = later v h
      by later (Some (Err e)) h = absurd (not_fault e f h)

  pub placed_followed : (m : Module) (f : Found) → n ≤ 2 ^ 64 → outcome (followed (rules_of s) n) (asking_of s (key m what.Inside)) ≡ Some (Ok f) → inside_found s m ≡ Ok f
  placed_followed m f few h =
      placed_of s m (s.stands m).around knows_followed (λ j u e. value_followed (rules_of s) (exact s) n j (Ok u) few (followed_ok j u e))
      (asking_of s (key m what.Inside)) f (values_alone (asking_of s (key m what.Inside)) f h)

not_circle : (v : Found) → Ok v ≡ Err (fault.Value Circle) → ⊥
not_circle v h = cc

-- in a step less than the bound of the definition, by what an inside asks
module _ (s : ModuleRules) (m : Module) (f : Found) where
  stepped : (n : ℕ) → n ≤ 2 ^ 64 → followed (rules_of s) n (key m what.Inside) ≡ Some (Ok f) → inside_found s m ≡ Ok f
  stepped zero few h = absurd (none_some h)
  stepped (suc n) few h = placed_followed s n m f (omega (arith, few)) h

  is_followed : (o : Option (Result Found ModelFault)) → or_circle (fault.Value Circle) o ≡ Ok f → o ≡ Some (Ok f)
  is_followed None h = absurd (not_circle f (sym h))
  is_followed (Some r) h = ap (λ (x : Result Found ModelFault). Some x) h

  -- an inside that is the value of its key is what comes of it
  pub value_placed : value_at s (key m what.Inside) ≡ Ok f → inside_found s m ≡ Ok f
  unfolding value_of
  value_placed h = by (followed_or_circle (rules_of s) (2 ^ 64) [] (key m what.Inside) (Ok f) (is_followed (value_within (rules_of s) (2 ^ 64) [] (key m what.Inside)) h))
    where
      by : (followed (rules_of s) (2 ^ 64) (key m what.Inside) ≡ Some (Ok f)) ⊎ (Ok f ≡ Err (fault.Value Circle)) → inside_found s m ≡ Ok f
      by (inl e) = stepped (2 ^ 64) (omega arith) e
      by (inr e) = absurd (not_circle f e)

same_some : (x y : Result Found ModelFault) → Some x ≡ Some y → x ≡ y
same_some x y h = cc

pub read_placed : (s : ModuleRules) (m : Module) (f : Found) → Some (Ok f) ≡ Some (value_at s (key m what.Inside)) → inside_found s m ≡ Ok f
read_placed s m f h = value_placed s m f (sym (same_some (Ok f) (value_at s (key m what.Inside)) h))
