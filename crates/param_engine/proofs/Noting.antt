-- What an asking has asked for, and the notes of it in a table.
use Rattle.std.proofs.Common.{ℕ, ◌≡◌, refl, sym, ◌∙◌, ap, subst, Bool, true, false, cond, List, [], ◌∷◌, ◌++◌, map, Result, Ok, Option, Some, None}
use Rattle.std.proofs.lemmas.List.{append_assoc, append-nil}
use Rattle.std.specs.Map.{lookup}
use Rattle.param_following.specs.Asking.{Asking, Done, Ask, outcome, with_value}
use Rattle.param_following.specs.Edits.{answer_of, asked_then, asked_by}
use Rattle.param_following.specs.Following.{Rules}
use Rattle.param_following.specs.Laws.{IsExact}
use Rattle.param_following.proofs.Chains.{goes_on}
use Rattle.param_following.proofs.Outcomes.{none_some, outcome_stays}
use Rattle.param_engine.specs.declared.finished.Finished.{Finished}
use Rattle.param_engine.specs.Tables.{Entries, value_in, key_at, keys_at, known, IsNoted, AreNoted}
use Rattle.param_engine.specs.Working.{Grows, HasAsked, GoesOn}
use Rattle.param_engine.proofs.Entries.{keys_at_stay, keys_at_push}

-- what is known stays as an answer, when more is known
answers_stay : {K V F : Type 0} (before after : K → Option V) → Grows before after → (j : K) (r : Result V F) → answer_of (before j) ≡ Some r → answer_of (after j) ≡ Some r
answers_stay {K} {V} {F} before after grows j r = by (before j) refl
  where
    by : (o : Option V) → before j ≡ o → answer_of o ≡ Some r → answer_of (after j) ≡ Some r
    by None e h = absurd (none_some h)
    by (Some u) e h = ap answer_of (grows j u e) ∙ h

module _ {K V F : Type 0} (knows more : K → Option V) (grows : Grows knows more) where
  -- an asking of which all is known asks for the same when more is known
  asked_stays : (t : Asking K V F V) (r : Result V F) → outcome (λ j. answer_of (knows j)) t ≡ Some r → asked_by more t ≡ asked_by knows t
  asked_stays (Done x) r h = refl
  asked_stays (Ask k rest) r h = ap (λ l. k ∷ l) (by (knows k) refl h (λ v. asked_stays (rest v) r))
    where
      by : (o : Option V) → knows k ≡ o → with_value (answer_of o) (λ v. outcome (λ j. answer_of (knows j)) (rest v)) ≡ Some r
          → ((v : V) → outcome (λ j. answer_of (knows j)) (rest v) ≡ Some r → asked_by more (rest v) ≡ asked_by knows (rest v))
          → asked_then (more k) (λ v. asked_by more (rest v)) ≡ asked_then o (λ v. asked_by knows (rest v))
      by None e h next = absurd (none_some h)
      by (Some v) e h next = ap (λ a. asked_then a (λ v. asked_by more (rest v))) (grows k v e) ∙ next v h

  outcome_more : (t : Asking K V F V) (r : Result V F) → outcome (λ j. answer_of (knows j)) t ≡ Some r → outcome (λ j. answer_of (more j)) t ≡ Some r
  outcome_more t r = outcome_stays (λ j. answer_of (knows j)) (λ j. answer_of (more j)) (answers_stay knows more grows) t r

  module _ (rules : Rules K V F) where
    noted_more : (before : Entries K V) (e : K × Finished V) → IsNoted rules knows before e → IsNoted rules more before e
    noted_more before e h = record {
      comes = outcome_more (rules.asking e.0) (Ok e.1.value) h.comes;
      places = h.places ∙ ap (map Some) (sym (asked_stays (rules.asking e.0) (Ok e.1.value) h.comes));
    }

    -- the notes stay right
    pub all_noted_more : (before es : Entries K V) → AreNoted rules knows before es → AreNoted rules more before es
    all_noted_more before [] h = tt
    all_noted_more before (e ∷ es) h = (noted_more before e h.0, all_noted_more (before ++ e ∷ []) es h.1)

module _ {K V F : Type 0} (rules : Rules K V F) (knows : K → Option V) where
  -- one entry more
  pub noted_push : (before es : Entries K V) (x : K × Finished V) → AreNoted rules knows before es → IsNoted rules knows (before ++ es) x → AreNoted rules knows before (es ++ x ∷ [])
  noted_push before [] x h n = (subst (λ l. IsNoted rules knows l x) (append-nil before) n, tt)
  noted_push before (e ∷ es) x h n =
      (h.0, noted_push (before ++ e ∷ []) es x h.1 (subst (λ l. IsNoted rules knows l x) (sym (append_assoc before (e ∷ []) es)) n))

  -- what is noted is closed: each value is what its asking comes to
  pub closed_from : IsExact rules → (before es : Entries K V) → AreNoted rules knows before es → (q : K) (v : V) → known rules.same es q ≡ Some v
      → outcome (λ j. answer_of (knows j)) (rules.asking q) ≡ Some (Ok v)
  closed_from exact before [] h q v e = absurd (none_some e)
  closed_from exact before (x ∷ es) h q v e = by (rules.same q x.0) refl e (closed_from exact (before ++ x ∷ []) es h.1 q v)
    where
      by : (b : Bool) → rules.same q x.0 ≡ b → value_in (cond b (Some x.1) (lookup (rules.same q) es)) ≡ Some v
          → (known rules.same es q ≡ Some v → outcome (λ j. answer_of (knows j)) (rules.asking q) ≡ Some (Ok v))
          → outcome (λ j. answer_of (knows j)) (rules.asking q) ≡ Some (Ok v)
      by true s e next = ap (λ z. outcome (λ j. answer_of (knows j)) (rules.asking z)) (exact.same q x.0 s) ∙ h.0.comes
          ∙ ap (λ w. Some (Ok w)) (let c : x.1.value ≡ v = cc in c)
      by false s e next = next e

-- ---- what an asking has asked for

module _ {K V F : Type 0} where
  pub asked_nothing : (es : Entries K V) (knows : K → Option V) (s t : Asking K V F V) → t ≡ s → HasAsked es knows s [] t
  asked_nothing es knows s t e = record {
    keys = [];
    places_are = refl;
    asks = λ more grows. ap (asked_by more) (sym e);
  }

  pub asked_moved : (es : Entries K V) (knows : K → Option V) (s : Asking K V F V) (places further : List ℕ) (t u : Asking K V F V)
      → places ≡ further → t ≡ u → HasAsked es knows s places t → HasAsked es knows s further u
  asked_moved es knows s places further t u p e h = subst (λ l. HasAsked es knows s l u) p (subst (λ x. HasAsked es knows s places x) e h)

  -- when more is known
  pub asked_more : (es added : Entries K V) (knows more : K → Option V) → Grows knows more → (s : Asking K V F V) (places : List ℕ) (t : Asking K V F V)
      → HasAsked es knows s places t → HasAsked (es ++ added) more s places t
  asked_more es added knows more grows s places t h = record {
    keys = h.keys;
    places_are = keys_at_stay es added places h.keys h.places_are;
    asks = λ further grown. h.asks further (λ k v e. grown k v (grows k v e));
  }

  -- one key more was asked for, and its value is known
  pub asked_on : (es : Entries K V) (knows : K → Option V) (s : Asking K V F V) (places : List ℕ) (k : K) (rest : V → Asking K V F V) (p : ℕ) (v : V)
      → key_at es p ≡ Some k → knows k ≡ Some v → HasAsked es knows s places (Ask k rest) → HasAsked es knows s (places ++ p ∷ []) (rest v)
  asked_on es knows s places k rest p v at e h = record {
    keys = h.keys ++ k ∷ [];
    places_are = keys_at_push es places h.keys p k h.places_are at;
    asks = λ more grows. h.asks more grows
        ∙ ap (λ o. h.keys ++ k ∷ asked_then o (λ v. asked_by more (rest v))) (grows k v e)
        ∙ sym (append_assoc h.keys (k ∷ []) (asked_by more (rest v)));
  }

  -- at the end these are all
  pub asked_all : (es : Entries K V) (knows : K → Option V) (s : Asking K V F V) (places : List ℕ) (r : Result V F) → HasAsked es knows s places (Done r)
      → (more : K → Option V) → Grows knows more → keys_at es places ≡ map Some (asked_by more s)
  asked_all es knows s places r h more grows = h.places_are ∙ ap (map Some) (sym (h.asks more grows ∙ append-nil h.keys))

  pub stays_there : (es : Entries K V) (knows : K → Option V) (places : List ℕ) (t : Asking K V F V) → GoesOn es knows places t places t
  stays_there es knows places t = record { comes = λ answers agrees. refl; asked = λ s h. h }

  -- a value that is known is handed over
  pub goes_further : (rules : Rules K V F) (es : Entries K V) (knows : K → Option V) (first places further : List ℕ) (t u : Asking K V F V) (k : K) (rest : V → Asking K V F V) (p : ℕ) (v : V)
      → key_at es p ≡ Some k → knows k ≡ Some v → further ≡ places ++ p ∷ [] → u ≡ rest v
      → GoesOn es knows first t places (Ask k rest) → GoesOn es knows first t further u
  goes_further rules es knows first places further t u k rest p v at e ps r h = record {
    comes = λ answers agrees. goes_on rules knows t k rest v e h.comes answers agrees ∙ ap (outcome answers) (sym r);
    asked = λ s a. asked_moved es knows s (places ++ p ∷ []) further (rest v) u (sym ps) (sym r) (asked_on es knows s places k rest p v at e (h.asked s a));
  }
