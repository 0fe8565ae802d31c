-- What comes of an asking, under answers that agree.
use Rattle.std.proofs.Common.{◌⊎◌, inl, inr, ◌≡◌, refl, ◌∙◌, ap, Result, Ok, Err, Option, Some, None}
use Rattle.param_following.specs.Asking.{Asking, Done, Ask, with_value, outcome}

-- nothing is not something
pub none_some : {A : Type 0} {x : A} → None ≡ Some x → ⊥
none_some h = cc

module _ {K V F R : Type 0} where
  -- more answers leave what came of it
  pub outcome_stays : (f g : K → Option (Result V F)) → ((k : K) (r : Result V F) → f k ≡ Some r → g k ≡ Some r) →
      (t : Asking K V F R) (r : Result R F) → outcome f t ≡ Some r → outcome g t ≡ Some r
  outcome_stays f g more (Done x) r h = h
  outcome_stays f g more (Ask k rest) r h = by (f k) refl (λ v. outcome_stays f g more (rest v) r) h
    where
      by : (a : Option (Result V F)) → f k ≡ a → ((v : V) → outcome f (rest v) ≡ Some r → outcome g (rest v) ≡ Some r)
          → with_value a (λ v. outcome f (rest v)) ≡ Some r → with_value (g k) (λ v. outcome g (rest v)) ≡ Some r
      by None e later h = absurd (none_some h)
      by (Some (Err x)) e later h = ap (λ a. with_value a (λ v. outcome g (rest v))) (more k (Err x) e) ∙ h
      by (Some (Ok v)) e later h = ap (λ a. with_value a (λ v. outcome g (rest v))) (more k (Ok v) e) ∙ later v h

module _ {K V F R : Type 0} (circle : F) where
  -- the same, where some answers may be circles
  pub outcome_or_circle : (f g : K → Option (Result V F)) → ((k : K) (q : Result V F) → f k ≡ Some q → (g k ≡ Some q) ⊎ (q ≡ Err circle)) →
      (t : Asking K V F R) (r : Result R F) → outcome f t ≡ Some r → (outcome g t ≡ Some r) ⊎ (r ≡ Err circle)
  outcome_or_circle f g more (Done x) r h = inl h
  outcome_or_circle f g more (Ask k rest) r h = by (f k) refl (λ v. outcome_or_circle f g more (rest v) r) h
    where
      gives : (a : Result V F) → with_value (Some a) (λ v. outcome g (rest v)) ≡ Some r → g k ≡ Some a → outcome g (Ask k rest) ≡ Some r
      gives a h e = ap (λ a. with_value a (λ v. outcome g (rest v))) e ∙ h

      faulty : (x : F) → Some (Err x) ≡ Some r → (g k ≡ Some (Err x)) ⊎ (let q : Result V F = Err x in q ≡ Err circle) → (outcome g (Ask k rest) ≡ Some r) ⊎ (r ≡ Err circle)
      faulty x h (inl e) = inl (gives (Err x) h e)
      faulty x h (inr e) = inr (cc)

      fine : (v : V) → (outcome g (rest v) ≡ Some r) ⊎ (r ≡ Err circle) → (g k ≡ Some (Ok v)) ⊎ (let q : Result V F = Ok v in q ≡ Err circle) → (outcome g (Ask k rest) ≡ Some r) ⊎ (r ≡ Err circle)
      fine v (inr e) m = inr e
      fine v (inl h) (inl e) = inl (gives (Ok v) h e)
      fine v (inl h) (inr e) = absurd (cc)

      by : (a : Option (Result V F)) → f k ≡ a → ((v : V) → outcome f (rest v) ≡ Some r → (outcome g (rest v) ≡ Some r) ⊎ (r ≡ Err circle))
          → with_value a (λ v. outcome f (rest v)) ≡ Some r → (outcome g (Ask k rest) ≡ Some r) ⊎ (r ≡ Err circle)
      by None e later h = absurd (none_some h)
      by (Some (Err x)) e later h = faulty x h (more k (Err x) e)
      by (Some (Ok v)) e later h = fine v (later v h) (more k (Ok v) e)
