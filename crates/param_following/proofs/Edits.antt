-- What stays after an edit is right.
use Rattle.std.proofs.Common.{ℕ, zero, suc, ◌+◌, ◌≡◌, refl, sym, ◌∙◌, ap, Bool, true, false, cond, Result, Ok, Err, Option, Some, None, arith}
use Rattle.param_following.specs.Asking.{Asking, Done, Ask, outcome, with_value}
use Rattle.param_following.specs.Following.{Rules, followed}
use Rattle.param_following.specs.Waiting.{IsRight}
use Rattle.param_following.specs.Edits.{answer_of, asked_then, asked_by, AllKept, IsClosed, kept_of, IsSound, KeepsRight}
use Rattle.param_following.proofs.Outcomes.{none_some}
use Rattle.param_following.proofs.Circles.{followed_stays}

module _ {K V : Type 0} (known : K → Option V) (keep : K → Bool) where
  kept_known : (k : K) → keep k ≡ true → kept_of keep known k ≡ known k
  kept_known k h = ap (λ b. cond b (known k) None) h

  known_kept : (k : K) (v : V) → kept_of keep known k ≡ Some v → (keep k ≡ true) × (known k ≡ Some v)
  known_kept k v = by (keep k) refl
    where
      by : (b : Bool) → keep k ≡ b → cond b (known k) None ≡ Some v → (keep k ≡ true) × (known k ≡ Some v)
      by true e h = (e, h)
      by false e h = absurd (none_some h)

module _ {K V F : Type 0} (known : K → Option V) (keep : K → Bool) where
  -- an asking that rests on kept keys alone comes to the same with these
  same_outcome : {R : Type 0} (t : Asking K V F R) → AllKept keep (asked_by known t) → outcome (λ j. answer_of (kept_of keep known j)) t ≡ outcome (λ j. answer_of (known j)) t
  same_outcome (Done r) h = refl
  same_outcome (Ask k rest) h =
      ap (λ o. with_value (answer_of o) (λ v. outcome (λ j. answer_of (kept_of keep known j)) (rest v))) (kept_known known keep k h.0)
      ∙ by (known k) h.1 (λ v. same_outcome (rest v))
    where
      by : (o : Option V) → AllKept keep (asked_then o (λ v. asked_by known (rest v)))
          → ((v : V) → AllKept keep (asked_by known (rest v)) → outcome (λ j. answer_of (kept_of keep known j)) (rest v) ≡ outcome (λ j. answer_of (known j)) (rest v))
          → with_value (answer_of o) (λ v. outcome (λ j. answer_of (kept_of keep known j)) (rest v)) ≡ with_value (answer_of o) (λ v. outcome (λ j. answer_of (known j)) (rest v))
      by None h next = refl
      by (Some v) h next = next v h

module _ {K V F : Type 0} (old new : Rules K V F) (known : K → Option V) (keep : K → Bool) (n : ℕ) (right : IsRight old n known) where
  -- following the kept keys under the new rules, along an asking that is the same under both
  along : (m : ℕ) → ((j : K) (u : V) → keep j ≡ true → known j ≡ Some u → followed old m j ≡ Some (Ok u) → followed new m j ≡ Some (Ok u))
      → (t : Asking K V F V) (v : V) → AllKept keep (asked_by known t) → outcome (λ j. answer_of (known j)) t ≡ Some (Ok v)
      → outcome (followed old m) t ≡ Some (Ok v) → outcome (followed new m) t ≡ Some (Ok v)
  along m below (Done r) v kept shut h = h
  along m below (Ask k rest) v kept shut h = by (known k) refl kept.1 shut (followed old m k) refl h (λ u. along m below (rest u) v)
    where
      same : (u w : V) → known k ≡ Some u → followed old m k ≡ Some (Ok w) → u ≡ w
      same u w e f = let a : followed old (m + n) k ≡ Some (Ok w) = followed_stays old m (m + n) k (Ok w) (omega arith) f in
          let b : followed old (m + n) k ≡ Some (Ok u) = followed_stays old n (m + n) k (Ok u) (omega arith) (right k u e) in
          let c : Some (Ok u) ≡ Some (Ok w) = sym b ∙ a in cc

      goes : (u : V) → known k ≡ Some u → followed old m k ≡ Some (Ok u) → outcome (followed new m) (rest u) ≡ Some (Ok v) → outcome (followed new m) (Ask k rest) ≡ Some (Ok v)
      goes u e f r = ap (λ a. with_value a (λ x. outcome (followed new m) (rest x))) (below k u kept.0 e f) ∙ r

      by : (o : Option V) → known k ≡ o → AllKept keep (asked_then o (λ u. asked_by known (rest u)))
          → with_value (answer_of o) (λ u. outcome (λ j. answer_of (known j)) (rest u)) ≡ Some (Ok v)
          → (a : Option (Result V F)) → followed old m k ≡ a → with_value a (λ u. outcome (followed old m) (rest u)) ≡ Some (Ok v)
          → ((u : V) → AllKept keep (asked_by known (rest u)) → outcome (λ j. answer_of (known j)) (rest u) ≡ Some (Ok v)
          → outcome (followed old m) (rest u) ≡ Some (Ok v) → outcome (followed new m) (rest u) ≡ Some (Ok v))
          → outcome (followed new m) (Ask k rest) ≡ Some (Ok v)
      by None e kept shut a f h next = absurd (none_some shut)
      by (Some u) e kept shut None f h next = absurd (none_some h)
      by (Some u) e kept shut (Some (Err x)) f h next = absurd (let c : Some (Err x) ≡ Some (Ok v) = h in cc)
      by (Some u) e kept shut (Some (Ok w)) f h next =
          goes u e (f ∙ ap (λ z. Some (Ok z)) (sym (same u w e f))) (next u kept shut (ap (λ z. outcome (followed old m) (rest z)) (same u w e f) ∙ h))

  followed_new : IsClosed old known → IsSound old new known keep → (m : ℕ) (k : K) (v : V) → keep k ≡ true → known k ≡ Some v
      → followed old m k ≡ Some (Ok v) → followed new m k ≡ Some (Ok v)
  followed_new shut sound zero k v kept e h = absurd (none_some h)
  followed_new shut sound (suc m) k v kept e h =
      ap (outcome (followed new m)) (sound k v kept e).0 ∙ along m (followed_new shut sound m) (old.asking k) v (sound k v kept e).1 (shut k v e) h

pub keeps_right : {K V F : Type 0} (old new : Rules K V F) → KeepsRight old new
keeps_right old new n known keep right shut sound = (
  λ k v e. let p = known_kept known keep k v e in followed_new old new known keep n right shut sound n k v p.0 p.1 (right k v p.1),
  λ k v e. let p = known_kept known keep k v e in
      ap (outcome (λ j. answer_of (kept_of keep known j))) (sound k v p.0 p.1).0
      ∙ same_outcome known keep (old.asking k) (sound k v p.0 p.1).1 ∙ shut k v p.1,
)
