-- A value that was found is kept.
use Rattle.std.proofs.Common.{ℕ, suc, ◌≡◌, ◌≢◌, refl, sym, ◌∙◌, ap, subst, Bool, true, false, true≢false, ◌==◌, eqb-true, eq-eqb, ◌⊎◌, inl, inr, List, [], ◌∷◌, map, Option, Some, None, Result, Ok, arith}
use Rattle.std.specs.Prelude.{slice_get}
use Rattle.param_following.specs.Asking.{Asking, Done, Ask, outcome, with_value}
use Rattle.param_following.specs.Edits.{answer_of, asked_then, asked_by}
use Rattle.param_following.specs.Following.{Rules, followed}
use Rattle.param_following.specs.Laws.{IsExact}
use Rattle.param_following.proofs.Circles.{followed_stays}
use Rattle.param_following.proofs.Outcomes.{none_some, outcome_stays}
use Rattle.rest_index.specs.Rests.{asked_of, is_live}
use Rattle.param_keeping.specs.Stores.{Store, IsStored, known_in, key_at, key_in, keys_at}
use Rattle.param_keeping.specs.Added.{FoundIsKept, IsAdded}
use Rattle.param_keeping.proofs.Places.{found, stands, with_key}

abbrev second_in : {K V : Type 0} → Option (K × V) → Option V
second_in None = None
second_in (Some e) = Some e.1

pub equal_or_not : (p q : ℕ) → (p ≡ q) ⊎ (p ≢ q)
equal_or_not p q = by (p == q) refl
  where
    by : (b : Bool) → (p == q) ≡ b → (p ≡ q) ⊎ (p ≢ q)
    by true e = inl (eqb-true p q e)
    by false e = inr (λ h. true≢false (sym (eq-eqb p q h) ∙ e))

module _ {K V F : Type 0} (knows more : K → Option V) (grows : (k : K) (v : V) → knows k ≡ Some v → more k ≡ Some v) where
  answers_stay : (j : K) (r : Result V F) → answer_of (knows j) ≡ Some r → answer_of (more j) ≡ Some r
  answers_stay j r = by (knows j) refl
    where
      by : (o : Option V) → knows j ≡ o → answer_of o ≡ Some r → answer_of (more j) ≡ Some r
      by None e h = absurd (none_some h)
      by (Some u) e h = ap answer_of (grows j u e) ∙ h

  pub asked_stays : (t : Asking K V F V) (r : Result V F) → outcome (λ j. answer_of (knows j)) t ≡ Some r → asked_by more t ≡ asked_by knows t
  asked_stays (Done x) r h = refl
  asked_stays (Ask k rest) r h = ap (λ l. k ∷ l) (by (knows k) refl h (λ v. asked_stays (rest v) r))
    where
      by : (o : Option V) → knows k ≡ o → with_value (answer_of o) (λ v. outcome (λ j. answer_of (knows j)) (rest v)) ≡ Some r
          → ((v : V) → outcome (λ j. answer_of (knows j)) (rest v) ≡ Some r → asked_by more (rest v) ≡ asked_by knows (rest v))
          → asked_then (more k) (λ v. asked_by more (rest v)) ≡ asked_then o (λ v. asked_by knows (rest v))
      by None e h next = absurd (none_some h)
      by (Some v) e h next = ap (λ a. asked_then a (λ v. asked_by more (rest v))) (grows k v e) ∙ next v h

  pub outcome_more : (t : Asking K V F V) (r : Result V F) → outcome (λ j. answer_of (knows j)) t ≡ Some r → outcome (λ j. answer_of (more j)) t ≡ Some r
  outcome_more t r = outcome_stays (λ j. answer_of (knows j)) (λ j. answer_of (more j)) answers_stay t r

module _ {K V F : Type 0} (rules : Rules K V F) (n : ℕ) (s after : Store K V) (p : ℕ) (k : K) (v : V) (asked : List ℕ)
    (exact : IsExact rules) (stored : IsStored rules n s) (unknown : known_in rules.same s k ≡ None)
    (comes : outcome (λ j. answer_of (known_in rules.same s j)) (rules.asking k) ≡ Some (Ok v))
    (places : keys_at s.entries asked ≡ map Some (asked_by (known_in rules.same s) (rules.asking k)))
    (free : is_live s.live p ≡ true → ⊥) (added : IsAdded rules.same s p k v asked after) where
  abbrev before : K → Option V
  before j = known_in rules.same s j

  abbrev now_known : K → Option V
  now_known j = known_in rules.same after j

  -- no place that counted is the one
  another : (q : ℕ) → is_live s.live q ≡ true → q ≢ p
  another q l e = free (subst (λ z. is_live s.live z ≡ true) e l)

  grows : (j : K) (u : V) → before j ≡ Some u → now_known j ≡ Some u
  grows j u h =
      let r = found rules exact s.entries s.live j u h in
      let d = another r.0 r.2 in
      stands rules exact after.entries after.live j u r.0 added.shaped.apart (added.others r.0 d ∙ r.1) (added.others_count r.0 d ∙ r.2)

  -- what is known now was known, or is what was added
  known_or_new : (j : K) (u : V) → now_known j ≡ Some u → (before j ≡ Some u) ⊎ ((j ≡ k) × (u ≡ v))
  known_or_new j u h = let r = found rules exact after.entries after.live j u h in by r.0 r.1 r.2 (equal_or_not r.0 p)
    where
      by : (q : ℕ) → slice_get after.entries q ≡ Some (j, u) → is_live after.live q ≡ true → (q ≡ p) ⊎ (q ≢ p) → (before j ≡ Some u) ⊎ ((j ≡ k) × (u ≡ v))
      by q e l (inl d) =
          let x : slice_get after.entries q ≡ slice_get after.entries p = ap (slice_get after.entries) d in
          let y : Some j ≡ Some k = ap key_in (sym e) ∙ ap key_in x ∙ ap key_in added.there in
          let z : Some u ≡ Some v = ap second_in (sym e) ∙ ap second_in x ∙ ap second_in added.there in
          let f : j ≡ k = cc in let g : u ≡ v = cc in inr (f, g)
      by q e l (inr d) = inl (stands rules exact s.entries s.live j u q stored.shaped.apart (sym (added.others q d) ∙ e) (sym (added.others_count q d) ∙ l))

  followed_before : (j : K) (r : Result V F) → answer_of (before j) ≡ Some r → followed rules n j ≡ Some r
  followed_before j r = by (before j) refl
    where
      by : (o : Option V) → before j ≡ o → answer_of o ≡ Some r → followed rules n j ≡ Some r
      by None e h = absurd (none_some h)
      by (Some u) e h = stored.right j u e ∙ h

  -- the key of a place stays
  key_stays : (q : ℕ) (j : K) → key_at s.entries q ≡ Some j → key_at after.entries q ≡ Some j
  key_stays q j h = by (equal_or_not q p)
    where
      by : (q ≡ p) ⊎ (q ≢ p) → key_at after.entries q ≡ Some j
      by (inl d) = let e = added.own j (subst (λ z. key_at s.entries z ≡ Some j) d h) in
          ap (key_at after.entries) d ∙ ap key_in added.there ∙ ap (λ (z : K). Some z) (sym e)
      by (inr d) = ap key_in (added.others q d) ∙ h

  keys_stay : (qs : List ℕ) (js : List K) → keys_at s.entries qs ≡ map Some js → keys_at after.entries qs ≡ map Some js
  keys_stay [] js h = h
  keys_stay (q ∷ qs) [] h = absurd (cc)
  keys_stay (q ∷ qs) (j ∷ js) h =
      let first : key_at s.entries q ≡ Some j = cc in
      let rest : keys_at s.entries qs ≡ map Some js = cc in
      ap (λ o. o ∷ keys_at after.entries qs) (key_stays q j first) ∙ ap (λ l. Some j ∷ l) (keys_stay qs js rest)

  asked_now : (q : ℕ) (j : K) → key_at after.entries q ≡ Some j → is_live after.live q ≡ true
      → keys_at after.entries (asked_of after.rows q) ≡ map Some (asked_by now_known (rules.asking j))
  asked_now q j h l = by (equal_or_not q p)
    where
      new : q ≡ p → j ≡ k → keys_at after.entries (asked_of after.rows q) ≡ map Some (asked_by now_known (rules.asking j))
      new d e =
          ap (λ z. keys_at after.entries (asked_of after.rows z)) d ∙ ap (keys_at after.entries) added.asked_for
          ∙ keys_stay asked (asked_by before (rules.asking k)) places
          ∙ ap (map Some) (sym (asked_stays before now_known grows (rules.asking k) (Ok v) comes))
          ∙ ap (λ z. map Some (asked_by now_known (rules.asking z))) (sym e)

      old : q ≢ p → keys_at after.entries (asked_of after.rows q) ≡ map Some (asked_by now_known (rules.asking j))
      old d =
          let key_was : key_at s.entries q ≡ Some j = ap key_in (sym (added.others q d)) ∙ h in
          let l_was : is_live s.live q ≡ true = sym (added.others_count q d) ∙ l in
          let w = with_key s.entries q j key_was in
          let e = stands rules exact s.entries s.live j w.0 q stored.shaped.apart w.1 l_was in
          ap (keys_at after.entries) (added.others_asked q d)
          ∙ keys_stay (asked_of s.rows q) (asked_by before (rules.asking j)) (stored.asked q j key_was l_was)
          ∙ ap (map Some) (sym (asked_stays before now_known grows (rules.asking j) (Ok w.0) (stored.shut j w.0 e)))

      by : (q ≡ p) ⊎ (q ≢ p) → keys_at after.entries (asked_of after.rows q) ≡ map Some (asked_by now_known (rules.asking j))
      by (inl d) =
          let x : Some j ≡ Some k = sym h ∙ ap (key_at after.entries) d ∙ ap key_in added.there in
          let y : j ≡ k = cc in new d y
      by (inr d) = old d

  right_now : (j : K) (u : V) → (before j ≡ Some u) ⊎ ((j ≡ k) × (u ≡ v)) → followed rules (suc n) j ≡ Some (Ok u)
  right_now j u (inl e) = followed_stays rules n (suc n) j (Ok u) (omega arith) (stored.right j u e)
  right_now j u (inr d) =
      ap (followed rules (suc n)) d.0
      ∙ outcome_stays (λ i. answer_of (before i)) (followed rules n) followed_before (rules.asking k) (Ok v) comes
      ∙ ap (λ z. Some (Ok z)) (sym d.1)

  shut_now : (j : K) (u : V) → (before j ≡ Some u) ⊎ ((j ≡ k) × (u ≡ v)) → outcome (λ i. answer_of (now_known i)) (rules.asking j) ≡ Some (Ok u)
  shut_now j u (inl e) = outcome_more before now_known grows (rules.asking j) (Ok u) (stored.shut j u e)
  shut_now j u (inr d) =
      ap (λ z. outcome (λ i. answer_of (now_known i)) (rules.asking z)) d.0
      ∙ outcome_more before now_known grows (rules.asking k) (Ok v) comes ∙ ap (λ z. Some (Ok z)) (sym d.1)

  pub kept_now : IsStored rules (suc n) after
  kept_now = record {
    right = λ j u h. right_now j u (known_or_new j u h);
    shut = λ j u h. shut_now j u (known_or_new j u h);
    asked = asked_now;
    shaped = added.shaped;
  }

pub found_kept : {K V F : Type 0} (rules : Rules K V F) → FoundIsKept rules
found_kept rules n s after p k v asked exact stored unknown comes places free added =
    kept_now rules n s after p k v asked exact stored unknown comes places free added
