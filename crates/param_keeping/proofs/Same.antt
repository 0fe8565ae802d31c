-- A store that knows the same.
use Rattle.std.proofs.Common.{ℕ, zero, suc, ◌≡◌, ◌<◌, refl, sym, ◌∙◌, ap, subst, Bool, true, List, [], ◌∷◌, map, length, Option, Some, None, Result, Ok, Err, OnErr, arith}
use Rattle.std.specs.Prelude.{slice_get}
use Rattle.param_following.specs.Edits.{asked_by, IsClosed}
use Rattle.param_following.specs.Following.{Rules}
use Rattle.param_following.specs.Waiting.{IsRight}
use Rattle.rest_index.specs.Rests.{asked_of, is_live}
use Rattle.param_keeping.specs.Added.{KnowsTheSame, SameIsKept}
use Rattle.param_keeping.specs.Stores.{Store, AreOne, HasOnePlace, IsShaped, IsStored, known_in, key_at, keys_at}
use Rattle.param_keeping.proofs.Finding.{found_there, known_there}

pub on_err : {T E : Type 0} (r : Result T E) {Q : Type 0} → Q → OnErr r Q
on_err (Ok x) q = tt
on_err (Err x) q = q

option_same : {V : Type 0} (a b : Option V) → ((v : V) → a ≡ Some v → b ≡ Some v) → ((v : V) → b ≡ Some v → a ≡ Some v) → a ≡ b
option_same None None f g = refl
option_same None (Some v) f g = g v refl
option_same (Some v) b f g = sym (f v refl)

module _ {K V : Type 0} (same : K → K → Bool) (one : AreOne same) (self : (a : K) → same a a ≡ true) (s t : Store K V)
    (apart_s : HasOnePlace same s.entries) (apart_t : HasOnePlace same t.entries)
    (entries : (p : ℕ) → is_live s.live p ≡ true → slice_get t.entries p ≡ slice_get s.entries p)
    (counts : (p : ℕ) → is_live t.live p ≡ is_live s.live p) where
  pub knows_same : (k : K) → known_in same t k ≡ known_in same s k
  knows_same k = option_same (known_in same t k) (known_in same s k) down up
    where
      down : (v : V) → known_in same t k ≡ Some v → known_in same s k ≡ Some v
      down v h =
          let r = found_there same one self t.entries t.live k v h in
          let l = sym (counts r.0) ∙ r.2 in
          known_there same one self s.entries s.live apart_s k v r.0 (sym (entries r.0 l) ∙ r.1) l

      up : (v : V) → known_in same s k ≡ Some v → known_in same t k ≡ Some v
      up v h =
          let r = found_there same one self s.entries s.live k v h in
          known_there same one self t.entries t.live apart_t k v r.0 (entries r.0 r.2 ∙ r.1) (counts r.0 ∙ r.2)

-- with room for more all is known as before
pub room_same : {K V : Type 0} (same : K → K → Bool) (one : AreOne same) (self : (a : K) → same a a ≡ true) (s t : Store K V) → IsShaped same s → IsShaped same t
    → t.entries ≡ s.entries → ((q : ℕ) → (asked_of t.rows q ≡ asked_of s.rows q) × (is_live t.live q ≡ is_live s.live q)) → KnowsTheSame same s t
room_same same one self s t shaped after entries alike = record {
  known = knows_same same one self s t shaped.apart after.apart (λ p l. ap (λ (es : List _). slice_get es p) entries) (λ p. (alike p).1);
  keys = λ p k h. ap (λ (es : List _). key_at es p) entries ∙ h;
  asked = λ p. (alike p).0;
  counts = λ p. (alike p).1;
  shaped = after;
}

-- and so it is with a store that has the same
module _ {K V : Type 0} (s m t : Store K V) (entries : t.entries ≡ m.entries) (rows : t.rows ≡ m.rows) (live : t.live ≡ m.live) where
  as_stores : t ≡ m
  as_stores j = record { entries = entries j; rows = rows j; live = live j }

  pub still_same : (same : K → K → Bool) → KnowsTheSame same s m → KnowsTheSame same s t
  still_same same h = subst (KnowsTheSame same s) (sym as_stores) h

-- ---- what knows the same may be kept

key_of_place : {K V : Type 0} (es : List (K × V)) (p : ℕ) → p < length es → (k : K) × (key_at es p ≡ Some k)
key_of_place {K} {V} es p h = by es p h
  where
    by : (es : List (K × V)) (p : ℕ) → p < length es → (k : K) × (key_at es p ≡ Some k)
    by [] p h = absurd (omega (arith, h))
    by (e ∷ es) zero h = (e.0, refl)
    by (e ∷ es) (suc p) h = by es p (omega (arith, h))

module _ {K V F : Type 0} (rules : Rules K V F) (n : ℕ) (s t : Store K V) (stored : IsStored rules n s) (alike : KnowsTheSame rules.same s t) where
  as_functions : known_in rules.same t ≡ known_in rules.same s
  as_functions j k = alike.known k j

  keys_stay : (qs : List ℕ) (js : List K) → keys_at s.entries qs ≡ map Some js → keys_at t.entries qs ≡ map Some js
  keys_stay [] js h = h
  keys_stay (q ∷ qs) [] h = absurd (cc)
  keys_stay (q ∷ qs) (j ∷ js) h =
      let first : key_at s.entries q ≡ Some j = cc in
      let rest : keys_at s.entries qs ≡ map Some js = cc in
      ap (λ o. o ∷ keys_at t.entries qs) (alike.keys q j first) ∙ ap (λ l. Some j ∷ l) (keys_stay qs js rest)

  pub same_kept : IsStored rules n t
  same_kept = record {
    right = subst (IsRight rules n) (sym as_functions) stored.right;
    shut = subst (IsClosed rules) (sym as_functions) stored.shut;
    asked = λ p k h l.
        let was = sym (alike.counts p) ∙ l in
        let r = key_of_place s.entries p (stored.shaped.within p was) in
        let x : Some r.0 ≡ Some k = sym (alike.keys p r.0 r.1) ∙ h in
        let y : r.0 ≡ k = cc in
        let key : key_at s.entries p ≡ Some k = r.1 ∙ x in
        ap (keys_at t.entries) (alike.asked p) ∙ keys_stay (asked_of s.rows p) (asked_by (known_in rules.same s) (rules.asking k)) (stored.asked p k key was)
        ∙ ap (λ (f : K → Option V). map Some (asked_by f (rules.asking k))) (sym as_functions);
    shaped = alike.shaped;
  }

pub same_stored : {K V F : Type 0} (rules : Rules K V F) → SameIsKept rules
same_stored rules n s t stored alike = same_kept rules n s t stored alike
