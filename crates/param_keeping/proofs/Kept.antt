-- What is left of a store may be kept.
use Rattle.std.proofs.Common.{ℕ, ◌≡◌, refl, sym, ◌∙◌, ap, subst, Bool, true, false, true≢false, cond, ◌||◌, ◌==◌, eq-eqb, is_some, List, [], ◌∷◌, map, Option, Some, None, arith}
use Rattle.param_following.specs.Asking.{Asking, Done, Ask}
use Rattle.param_following.specs.Edits.{asked_then, asked_by, AllKept, IsClosed, IsSound, kept_of}
use Rattle.param_following.specs.Following.{Rules}
use Rattle.param_following.specs.Laws.{IsExact}
use Rattle.param_following.specs.Waiting.{IsRight}
use Rattle.param_following.proofs.Edits.{keeps_right}
use Rattle.rest_index.specs.Rests.{asked_of, is_among, is_live, IsLeft}
use Rattle.param_keeping.specs.Stores.{Store, IsShaped, IsStored, known_in, key_at, key_in, keys_at}
use Rattle.param_keeping.specs.Laws.{AskAsBefore, KeptOverEdit, asking_else, with_live}
use Rattle.param_keeping.proofs.Places.{found, stands, with_key}

among_more : (p q : ℕ) (qs : List ℕ) → is_among p qs ≡ true → is_among p (q ∷ qs) ≡ true
among_more p q qs h = by (q == p)
  where
    by : (b : Bool) → (b || is_among p qs) ≡ true
    by true = refl
    by false = h

kept_known : {K V : Type 0} (known : K → Option V) (keep : K → Bool) (k : K) → keep k ≡ true → kept_of keep known k ≡ known k
kept_known known keep k h = ap (λ b. cond b (known k) None) h

module _ {K V F : Type 0} (known : K → Option V) (keep : K → Bool) where
  -- an asking that rests on kept keys alone asks for the same
  pub same_asked : (t : Asking K V F V) → AllKept keep (asked_by known t) → asked_by (kept_of keep known) t ≡ asked_by known t
  same_asked (Done r) h = refl
  same_asked (Ask k rest) h =
      ap (λ o. k ∷ asked_then o (λ v. asked_by (kept_of keep known) (rest v))) (kept_known known keep k h.0)
      ∙ ap (λ l. k ∷ l) (by (known k) h.1 (λ v. same_asked (rest v)))
    where
      by : (o : Option V) → AllKept keep (asked_then o (λ v. asked_by known (rest v)))
          → ((v : V) → AllKept keep (asked_by known (rest v)) → asked_by (kept_of keep known) (rest v) ≡ asked_by known (rest v))
          → asked_then o (λ v. asked_by (kept_of keep known) (rest v)) ≡ asked_then o (λ v. asked_by known (rest v))
      by None h next = refl
      by (Some v) h next = next v h

-- what is left of a store has its shape, whatever the rules
pub left_shaped : {K V : Type 0} (same : K → K → Bool) (s : Store K V) (seeds given : List ℕ) (live : List Bool) → IsShaped same s → IsLeft s.rows seeds s.live given live
    → IsShaped same (with_live s live)
left_shaped same s seeds given live shaped left = record {
  closed = left.closed;
  indexed = shaped.indexed;
  apart = shaped.apart;
  within = λ p l. shaped.within p (left.fewer p l);
  users_within = shaped.users_within;
  as_many = let l = left.as_long in let m = shaped.as_many.0 in let n = shaped.as_many.1 in (omega (arith, l, m), omega (arith, l, n));
}

module _ {K V F : Type 0} (rules : Rules K V F) (asking : K → Asking K V F V) (n : ℕ) (s : Store K V) (seeds given : List ℕ) (live : List Bool)
    (exact : IsExact rules) (stored : IsStored rules n s) (as_before : AskAsBefore rules asking s seeds) (left : IsLeft s.rows seeds s.live given live) where
  abbrev before : K → Option V
  before k = known_in rules.same s k

  abbrev after : K → Option V
  after k = known_in rules.same (with_live s live) k

  abbrev keep : K → Bool
  keep k = is_some (after k)

  stayed : (k : K) (v : V) → after k ≡ Some v → before k ≡ Some v
  stayed k v h = let r = found rules exact s.entries live k v h in
      stands rules exact s.entries s.live k v r.0 stored.shaped.apart r.1 (left.fewer r.0 r.2)

  -- what is left is what is kept
  is_left : (k : K) → kept_of keep before k ≡ after k
  is_left k = by (after k) refl
    where
      by : (o : Option V) → after k ≡ o → cond (is_some o) (before k) None ≡ o
      by None e = refl
      by (Some v) e = stayed k v e

  is_known : (k : K) → keep k ≡ true → (v : V) × (after k ≡ Some v)
  is_known k = by (after k) refl
    where
      by : (o : Option V) → after k ≡ o → is_some o ≡ true → (v : V) × (after k ≡ Some v)
      by None e h = absurd (true≢false (sym h))
      by (Some v) e h = (v, e)

  no_seed : (p : ℕ) → is_live live p ≡ true → is_among p seeds ≡ false
  no_seed p l = by (is_among p seeds) refl
    where
      by : (b : Bool) → is_among p seeds ≡ b → b ≡ false
      by true e = absurd (true≢false (sym l ∙ left.seeds_gone p e))
      by false e = refl

  -- what stands at a place that counts is kept
  kept_there : (q : ℕ) (j : K) → key_at s.entries q ≡ Some j → is_live live q ≡ true → keep j ≡ true
  kept_there q j h l = let w = with_key s.entries q j h in ap is_some (stands rules exact s.entries live j w.0 q stored.shaped.apart w.1 l)

  all_kept : (qs : List ℕ) (js : List K) → keys_at s.entries qs ≡ map Some js → ((q : ℕ) → is_among q qs ≡ true → is_live live q ≡ true) → AllKept keep js
  all_kept [] [] h l = tt
  all_kept [] (j ∷ js) h l = absurd (cc)
  all_kept (q ∷ qs) [] h l = absurd (cc)
  all_kept (q ∷ qs) (j ∷ js) h l =
      let first : key_at s.entries q ≡ Some j = cc in
      let rest : keys_at s.entries qs ≡ map Some js = cc in
      (kept_there q j first (l q (ap (λ b. b || is_among q qs) (eq-eqb q q refl))), all_kept qs js rest (λ p e. l p (among_more p q qs e)))

  -- the key at a place that counts asks as before, and for kept keys alone
  asks_kept : (p : ℕ) (k : K) → key_at s.entries p ≡ Some k → is_live live p ≡ true → (asking k ≡ rules.asking k) × AllKept keep (asked_by before (rules.asking k))
  asks_kept p k h l = (
    as_before p k h (left.fewer p l) (no_seed p l),
    all_kept (asked_of s.rows p) (asked_by before (rules.asking k)) (stored.asked p k h (left.fewer p l)) (λ q e. left.closed p q l e),
  )

  sound : IsSound rules (asking_else rules asking) before keep
  sound k v kept e = let w = is_known k kept in let r = found rules exact s.entries live k w.0 w.1 in asks_kept r.0 k (ap key_in r.1) r.2

  as_functions : kept_of keep before ≡ after
  as_functions j k = is_left k j

  pub still_stored : IsStored (asking_else rules asking) n (with_live s live)
  still_stored = let both = keeps_right rules (asking_else rules asking) n before keep stored.right stored.shut sound in record {
    right = subst (IsRight (asking_else rules asking) n) as_functions both.0;
    shut = subst (IsClosed (asking_else rules asking)) as_functions both.1;
    asked = λ p k h l. let a = asks_kept p k h l in
        stored.asked p k h (left.fewer p l)
        ∙ ap (map Some) (sym (ap (asked_by after) a.0 ∙ ap (λ (f : K → Option V). asked_by f (rules.asking k)) (sym as_functions) ∙ same_asked before keep (rules.asking k) a.1));
    shaped = left_shaped rules.same s seeds given live stored.shaped left;
  }

pub over_edit : {K V F : Type 0} (rules : Rules K V F) (asking : K → Asking K V F V) → KeptOverEdit rules asking
over_edit rules asking n s seeds given live exact stored as_before left = (still_stored rules asking n s seeds given live exact stored as_before left, left.only)
