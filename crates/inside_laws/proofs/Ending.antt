-- Askings of which every end has some property, by answers that values may have.
use Rattle.std.proofs.Common.{◌≡◌, ◌∙◌, ◌⊎◌, inl, inr, ℕ, ℤ, pos, negsuc, zero, suc, ◌+◌, ◌^◌, true, false, [], Option, Some, None, Result, Ok, Err, refl, ap, sym, subst, arith}
use Rattle.param_following.specs.Asking.{Done, Ask, outcome, with_value}
use Rattle.param_following.specs.Following.{Rules, followed, or_circle, value_of, value_within}
use Rattle.param_following.proofs.Circles.{followed_or_circle, followed_stays}
use Rattle.param_eval.specs.References.{Reference}
use Rattle.param_eval.specs.Values.{Valued}
use Rattle.sim_values.specs.declared.model_fault.ModelFault.{ModelFault}
use Rattle.sim_values.specs.declared.value.Value.{Value}
use Rattle.sim_values.specs.declared.value.Value.TheVariants as value
use Rattle.inside_wiring.specs.declared.wiring.Carrier.{Carrier}
use Rattle.inside_keys.specs.declared.found.Found.{Found}
use Rattle.inside_keys.specs.declared.found.Found.TheVariants as found
use Rattle.inside_keys.specs.declared.key.Key.{Key}
use Rattle.inside_keys.specs.declared.place.Meaning.{Meaning}
use Rattle.inside_keys.specs.declared.place.Meaning.TheVariants as meaning
use Rattle.inside_keys.specs.Asked.{KeyAsking, ask_then, carried_then, carrier_then, known_then, meant_then, number_then, result_then, size_then, sized_by, truth_then, value_then, valued_then, whole_then}
use Rattle.inside_laws.proofs.Lists.{none_is_none}

module _ (rules : Rules Key Found ModelFault) where
  -- a value that following finds
  abbrev pub IsKnown : Key → Found → Type 0
  IsKnown k v = (n : ℕ) × (followed rules n k ≡ Some (Ok v))

  -- there is one alone
  pub known_once : (k : Key) (v w : Found) → IsKnown k v → IsKnown k w → v ≡ w
  known_once k v w a b =
      let first : followed rules (a.0 + b.0) k ≡ Some (Ok v) = followed_stays rules a.0 (a.0 + b.0) k (Ok v) (omega arith) a.1 in
      let second : followed rules (a.0 + b.0) k ≡ Some (Ok w) = followed_stays rules b.0 (a.0 + b.0) k (Ok w) (omega arith) b.1 in
      let both : Some (Ok v) ≡ Some (Ok w) = sym first ∙ second in cc

  module _ (P : Found → Type 0) where
    -- all that an asking may come to is so
    abbrev pub Ends : KeyAsking → Type 0
    Ends (Done (Ok f)) = P f
    Ends (Done (Err f)) = Unit {0}
    Ends (Ask k rest) = (v : Found) → IsKnown k v → Ends (rest v)

    pub by_value : (k : Key) (next : Value → KeyAsking) → ((v : Value) → IsKnown k (found.Value v) → Ends (next v)) → Ends (ask_then k next)
    by_value k next h = λ v. by v
      where
        by : (v : Found) → IsKnown k v → Ends (value_then next v)
        by (found.Value v) known = h v known
        by (found.Carrier c) known = tt
        by (found.Inside i) known = tt

    pub by_carrier : (k : Key) (next : Carrier → KeyAsking) → ((c : Carrier) → Ends (next c)) → Ends (carried_then k next)
    by_carrier k next h = λ v. by v
      where
        by : (v : Found) → IsKnown k v → Ends (carrier_then next v)
        by (found.Carrier c) known = h c
        by (found.Value v) known = tt
        by (found.Inside i) known = tt

    pub by_result : {A : Type 0} (r : Result A ModelFault) (next : A → KeyAsking) → ((x : A) → r ≡ Ok x → Ends (next x)) → Ends (result_then r next)
    by_result (Ok x) next h = h x refl
    by_result (Err f) next h = tt

    pub by_known : {A : Type 0} (o : Option A) (next : A → KeyAsking) → ((x : A) → o ≡ Some x → Ends (next x)) → Ends (known_then o next)
    by_known (Some x) next h = h x refl
    by_known None next h = tt

    pub by_whole : (v : Value) (next : ℤ → KeyAsking) → ((z : ℤ) → Ends (next z)) → Ends (whole_then v next)
    by_whole (value.Whole z) next h = h z
    by_whole (value.Truth b) next h = tt
    by_whole (value.Text t) next h = tt
    by_whole (value.Quantity d n) next h = tt

    pub by_truth : (v : Value) (if_so if_not : KeyAsking) → Ends if_so → Ends if_not → Ends (truth_then v if_so if_not)
    by_truth (value.Truth true) if_so if_not h k = h
    by_truth (value.Truth false) if_so if_not h k = k
    by_truth (value.Whole z) if_so if_not h k = tt
    by_truth (value.Text t) if_so if_not h k = tt
    by_truth (value.Quantity d n) if_so if_not h k = tt

    pub by_size : (v : Value) (next : ℕ → KeyAsking) → ((n : ℕ) → Ends (next n)) → Ends (size_then v next)
    by_size v next h = by_result (sized_by v) next (λ n e. h n)

    pub by_number : (v : Value) (next : ℕ → KeyAsking) → ((n : ℕ) → v ≡ value.Whole (pos n) → Ends (next n)) → Ends (number_then v next)
    by_number (value.Whole (pos n)) next h = h n refl
    by_number (value.Whole (negsuc n)) next h = tt
    by_number (value.Truth b) next h = tt
    by_number (value.Text t) next h = tt
    by_number (value.Quantity d n) next h = tt

    pub by_valued : (means : Reference → Meaning) (t : Valued) (next : Value → KeyAsking) → ((v : Value) → Ends (next v)) → Ends (valued_then means t next)
    by_valued means (Done (Ok v)) next h = h v
    by_valued means (Done (Err f)) next h = tt
    by_valued means (Ask r rest) next h = by (means r) (λ v. by_valued means (rest v) next h)
      where
        by : (m : Meaning) → ((v : Value) → Ends (valued_then means (rest v) next)) → Ends (meant_then m (λ v. valued_then means (rest v) next))
        by (meaning.Is v) on = on v
        by (meaning.Of k) on = by_value k (λ v. valued_then means (rest v) next) (λ v known. on v)
        by meaning.Nothing on = tt

    -- what following comes to is so
    pub ends_in : (n : ℕ) (t : KeyAsking) (f : Found) → Ends t → outcome (followed rules n) t ≡ Some (Ok f) → P f
    ends_in n (Done (Ok g)) f h e = subst P (let same : g ≡ f = cc in same) h
    ends_in n (Done (Err x)) f h e = absurd (cc)
    ends_in n (Ask k rest) f h e = by (followed rules n k) refl (λ v known. ends_in n (rest v) f (h v (n, known))) e
      where
        by : (a : Option (Result Found ModelFault)) → followed rules n k ≡ a → ((v : Found) → followed rules n k ≡ Some (Ok v) → outcome (followed rules n) (rest v) ≡ Some (Ok f) → P f)
            → with_value a (λ v. outcome (followed rules n) (rest v)) ≡ Some (Ok f) → P f
        by None known on g = absurd (none_is_none g)
        by (Some (Err x)) known on g = absurd (cc)
        by (Some (Ok v)) known on g = on v known g

    -- what a key is known to be is what its asking may come to
    pub known_ends : (k : Key) (f : Found) → Ends (rules.asking k) → IsKnown k f → P f
    known_ends k f h (zero, e) = absurd (none_is_none e)
    known_ends k f h (suc n, e) = ends_in n (rules.asking k) f h e

  -- a value that a key has is one that following finds
  pub value_known : (k : Key) (f : Found) → value_of rules k ≡ Ok f → IsKnown k f
  unfolding value_of
  value_known k f h = by (value_within rules (2 ^ 64) [] k) refl h
    where
      by : (o : Option (Result Found ModelFault)) → value_within rules (2 ^ 64) [] k ≡ o → or_circle rules.circle o ≡ Ok f → IsKnown k f
      by None e g = absurd (cc)
      by (Some r) e g = (2 ^ 64, found_by (followed_or_circle rules (2 ^ 64) [] k r e) g)
        where
          found_by : {r : Result Found ModelFault} → (followed rules (2 ^ 64) k ≡ Some r) ⊎ (r ≡ Err rules.circle) → r ≡ Ok f → followed rules (2 ^ 64) k ≡ Some (Ok f)
          found_by (inl x) y = x ∙ ap (λ q. Some q) y
          found_by (inr x) y = absurd (cc)
