-- Askings that go on in the same way whichever value some keys have.
use Rattle.std.proofs.Common.{◌≡◌, ◌⊎◌, inl, inr, ℕ, ℤ, pos, negsuc, Bool, true, false, List, [], ◌∷◌, Option, Some, None, Result, Ok, Err, refl, ap, sym, subst}
use Rattle.param_following.specs.Asking.{Done, Ask, outcome, with_value}
use Rattle.param_following.specs.Edits.{answer_of, asked_by, asked_then}
use Rattle.param_eval.specs.References.{Reference}
use Rattle.param_eval.specs.Values.{Valued}
use Rattle.sim_values.specs.declared.model_fault.ModelFault.{ModelFault}
use Rattle.sim_values.specs.declared.value.Value.{Value}
use Rattle.sim_values.specs.declared.value.Value.TheVariants as value
use Rattle.inside_wiring.specs.declared.wiring.Carrier.{Carrier}
use Rattle.inside_keys.specs.declared.found.Found.{Found}
use Rattle.inside_keys.specs.declared.found.Found.TheVariants as found
use Rattle.inside_keys.specs.declared.key.Key.{Key}
use Rattle.inside_keys.specs.declared.place.Meaning.{Meaning}
use Rattle.inside_keys.specs.declared.place.Meaning.TheVariants as meaning
use Rattle.inside_keys.specs.Asked.{KeyAsking, ask_then, carried_then, carrier_then, known_then, meant_then, number_then, numbered_by, result_then, size_then, sized_by, truth_then, value_then, valued_then, whole_then}
use Rattle.inside_uses.proofs.Passing.{Passes}
use Rattle.inside_uses.specs.Uses.{AllServe, HasValue, KnownValues, ServesAs, comes_to}

module _ (test : Key → Bool) where
  -- an asking goes on in the same way whichever value a key has that passes the test
  abbrev pub IsBlind : KeyAsking → Type 0
  IsBlind (Done r) = Unit {0}
  IsBlind (Ask k rest) = ((v w : Value) → test k ≡ true → rest (found.Value v) ≡ rest (found.Value w)) × ((f : Found) → IsBlind (rest f))

  -- a key that doesn't pass it
  abbrev pub Fails : Key → Type 0
  Fails k = test k ≡ true → ⊥

  by_value : (k : Key) (next : Value → KeyAsking) → Fails k → ((v : Value) → IsBlind (next v)) → IsBlind (ask_then k next)
  by_value k next fails h = ((λ v w passes. absurd (fails passes)), by)
    where
      by : (f : Found) → IsBlind (value_then next f)
      by (found.Value v) = h v
      by (found.Carrier c) = tt
      by (found.Inside i) = tt

  -- where the value is not used, whatever the key
  pub by_any : (k : Key) (t : KeyAsking) → IsBlind t → IsBlind (ask_then k (λ v. t))
  by_any k t h = ((λ v w passes. refl), by)
    where
      by : (f : Found) → IsBlind (value_then (λ v. t) f)
      by (found.Value v) = h
      by (found.Carrier c) = tt
      by (found.Inside i) = tt

  by_carrier : (k : Key) (next : Carrier → KeyAsking) → Fails k → ((c : Carrier) → IsBlind (next c)) → IsBlind (carried_then k next)
  by_carrier k next fails h = ((λ v w passes. absurd (fails passes)), by)
    where
      by : (f : Found) → IsBlind (carrier_then next f)
      by (found.Carrier c) = h c
      by (found.Value v) = tt
      by (found.Inside i) = tt

  pub passes : Passes IsBlind Fails
  passes = record { fault = λ f. tt; value = by_value; carrier = by_carrier }

  -- ---- other answers serve

  module _ (before after : KnownValues) where
    -- the asking comes to the same, and asks for the same keys
    abbrev pub GoesAlike : KeyAsking → Type 0
    GoesAlike t = (comes_to after t ≡ comes_to before t) × (asked_by after t ≡ asked_by before t)

    pub goes_alike : (t : KeyAsking) → IsBlind t → AllServe test before after (asked_by before t) → GoesAlike t
    goes_alike (Done r) blind serve = (refl, refl)
    goes_alike (Ask k rest) blind serve = by (λ f h. goes_alike (rest f) (blind.1 f) h) (before k) (after k) serve.0 serve.1
      where
        comes : Option Found → KnownValues → Option (Result Found ModelFault)
        comes o known = with_value (answer_of o) (λ v. comes_to known (rest v))

        asks : Option Found → KnownValues → List Key
        asks o known = k ∷ asked_then o (λ v. asked_by known (rest v))

        same : ((f : Found) → AllServe test before after (asked_by before (rest f)) → GoesAlike (rest f)) → (o : Option Found) → AllServe test before after (asked_then o (λ v. asked_by before (rest v))) → (comes o after ≡ comes o before) × (asks o after ≡ asks o before)
        same on None h = (refl, refl)
        same on (Some f) h = ((on f h).0, ap (λ ks. k ∷ ks) (on f h).1)

        by : ((f : Found) → AllServe test before after (asked_by before (rest f)) → GoesAlike (rest f)) → (o p : Option Found) → ServesAs (test k) o p → AllServe test before after (asked_then o (λ v. asked_by before (rest v))) → (comes p after ≡ comes o before) × (asks p after ≡ asks o before)
        by on o p (inl e) h = subst (λ q. (comes q after ≡ comes o before) × (asks q after ≡ asks o before)) (sym e) (same on o h)
        by on (Some (found.Value v)) (Some (found.Value w)) (inr x) h =
            let alike : rest (found.Value v) ≡ rest (found.Value w) = blind.0 v w x.0 in
            subst (λ t. (comes_to after t ≡ comes (Some (found.Value v)) before) × (k ∷ asked_by after t ≡ asks (Some (found.Value v)) before)) alike (same on (Some (found.Value v)) h)
        by on None p (inr x) h = absurd x.1.0
        by on (Some (found.Carrier c)) p (inr x) h = absurd x.1.0
        by on (Some (found.Inside i)) p (inr x) h = absurd x.1.0
        by on (Some (found.Value v)) None (inr x) h = absurd x.1.1
        by on (Some (found.Value v)) (Some (found.Carrier c)) (inr x) h = absurd x.1.1
        by on (Some (found.Value v)) (Some (found.Inside i)) (inr x) h = absurd x.1.1
