-- What holds of all that an asking may come to by values that are known.
use Rattle.std.proofs.Common.{◌≡◌, ℕ, Option, Some, None, Result, Ok, Err, refl, subst}
use Rattle.param_following.specs.Asking.{Done, Ask, outcome, with_value}
use Rattle.param_following.specs.Edits.{answer_of}
use Rattle.sim_values.specs.declared.model_fault.ModelFault.{ModelFault}
use Rattle.sim_values.specs.declared.value.Value.{Value}
use Rattle.inside_wiring.specs.declared.wiring.Carrier.{Carrier}
use Rattle.inside_keys.specs.declared.found.Found.{Found}
use Rattle.inside_keys.specs.declared.found.Found.TheVariants as found
use Rattle.inside_keys.specs.declared.key.Key.{Key}
use Rattle.inside_keys.specs.Asked.{KeyAsking, ask_then, carried_then, carrier_then, value_then}
use Rattle.inside_uses.proofs.Passing.{Passes}
use Rattle.inside_uses.specs.Uses.{KnownValues, comes_to}

module _ (known : KnownValues) (P : Found → Type 0) where
  -- all that an asking may come to is so
  abbrev pub Ends : KeyAsking → Type 0
  Ends (Done (Ok f)) = P f
  Ends (Done (Err f)) = Unit {0}
  Ends (Ask k rest) = (v : Found) → known k ≡ Some v → Ends (rest v)

  -- by the value of a key that is known
  pub by_value : (k : Key) (next : Value → KeyAsking) → ((v : Value) → known k ≡ Some (found.Value v) → Ends (next v)) → Ends (ask_then k next)
  by_value k next h = λ v. by v
    where
      by : (v : Found) → known k ≡ Some v → Ends (value_then next v)
      by (found.Value v) is = h v is
      by (found.Carrier c) is = tt
      by (found.Inside i) is = tt

  by_carrier : (k : Key) (next : Carrier → KeyAsking) → ((c : Carrier) → Ends (next c)) → Ends (carried_then k next)
  by_carrier k next h = λ v. by v
    where
      by : (v : Found) → known k ≡ Some v → Ends (carrier_then next v)
      by (found.Carrier c) is = h c
      by (found.Value v) is = tt
      by (found.Inside i) is = tt

  -- any key may be asked for
  abbrev pub AnyKey : Key → Type 0
  AnyKey k = Unit {0}

  pub passes : Passes Ends AnyKey
  passes = record {
    fault = λ f. tt;
    value = λ k next any h. by_value k next (λ v is. h v);
    carrier = λ k next any h. by_carrier k next h;
  }

  pub ends_in : (t : KeyAsking) (f : Found) → Ends t → comes_to known t ≡ Some (Ok f) → P f
  ends_in (Done (Ok g)) f h e = subst P (let same : g ≡ f = cc in same) h
  ends_in (Done (Err x)) f h e = absurd (cc)
  ends_in (Ask k rest) f h e = by (known k) (λ v is. ends_in (rest v) f (h v is)) refl e
    where
      by : (o : Option Found) → ((v : Found) → known k ≡ Some v → comes_to known (rest v) ≡ Some (Ok f) → P f) → known k ≡ o → with_value (answer_of o) (λ v. comes_to known (rest v)) ≡ Some (Ok f) → P f
      by None on is g = absurd (cc)
      by (Some v) on is g = on v is g
