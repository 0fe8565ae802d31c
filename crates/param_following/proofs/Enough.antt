-- A list of different keys is no longer than there are keys.
use Rattle.std.proofs.Common.{ℕ, zero, suc, ◌+◌, ◌≡◌, ◌<◌, refl, sym, ◌∙◌, ap, subst, Bool, true, false, cond, ◌||◌, true≢false, List, [], ◌∷◌, length, map, Result, Ok, Err, Option, Some, None, arith, eqb-true}
use Rattle.std.proofs.lemmas.Map.Steps.{length-le_from_distinct_below}
use Rattle.std.specs.List.{list_any, IsDistinct, AllByRecursion}
use lib.Dec.{eqb}
use Rattle.param_following.specs.Asking.{Asking, Done, Ask, outcome, with_value}
use Rattle.param_following.specs.Following.{Rules, is_on, value_within}
use Rattle.param_following.specs.Laws.{AsksOnly, IsEnough}
use Rattle.param_following.proofs.Outcomes.{none_some}

module _ {K V F R : Type 0} (f : K → Option (Result V F)) (IsIn : K → Type 0) (all : (k : K) → IsIn k → f k ≡ None → ⊥) where
  -- where each key that is asked for has an answer, something comes of an asking
  outcome_some : (t : Asking K V F R) → AsksOnly IsIn t → outcome f t ≡ None → ⊥
  outcome_some (Done r) only h = none_some (sym h)
  outcome_some (Ask k rest) only h = by (f k) refl h (λ v. outcome_some (rest v) (only.1 v))
    where
      by : (a : Option (Result V F)) → f k ≡ a → with_value a (λ v. outcome f (rest v)) ≡ None → ((v : V) → outcome f (rest v) ≡ None → ⊥) → ⊥
      by None e h next = all k only.0 e
      by (Some (Err x)) e h next = none_some (sym h)
      by (Some (Ok v)) e h next = next v h

length_map : {A B : Type 0} (f : A → B) (xs : List A) → length (map f xs) ≡ length xs
length_map f [] = refl
length_map f (x ∷ xs) = ap suc (length_map f xs)

module _ {K V F : Type 0} (rules : Rules K V F) (IsIn : K → Type 0) (number : K → ℕ) (bound : ℕ) (only : (k : K) → IsIn k → AsksOnly IsIn (rules.asking k))
    (below : (k : K) → IsIn k → number k < bound) (one : (a b : K) → IsIn a → IsIn b → number a ≡ number b → rules.same a b ≡ true) where
  AllIn : List K → Type 0
  AllIn [] = Unit {0}
  AllIn (s ∷ stack) = IsIn s × AllIn stack

  -- a key that isn't on the list has another number than each on it
  apart : (k : K) → IsIn k → (stack : List K) → AllIn stack → is_on rules.same k stack ≡ false → AllByRecursion (λ y. eqb (number k) y ≡ false) (map number stack)
  unfolding AllIn
  apart k i [] all h = tt
  apart k i (s ∷ stack) all h = (by (eqb (number k) (number s)) refl, apart k i stack all.1 (rest (rules.same k s) h))
    where
      rest : (b : Bool) → cond b true (is_on rules.same k stack) ≡ false → is_on rules.same k stack ≡ false
      rest true h = absurd (true≢false h)
      rest false h = h

      by : (b : Bool) → eqb (number k) (number s) ≡ b → eqb (number k) (number s) ≡ false
      by false e = e
      by true e = absurd (true≢false (sym (ap (λ b. cond b true (is_on rules.same k stack)) (one k s i all.0 (eqb-true (number k) (number s) e))) ∙ h))

  all_below : (stack : List K) → AllIn stack → (q : ℕ) → list_any (eqb q) (map number stack) ≡ true → q < bound
  unfolding AllIn
  all_below [] all q h = absurd (true≢false (sym h))
  all_below (s ∷ stack) all q h = by (eqb q (number s)) refl h (all_below stack all.1 q)
    where
      by : (b : Bool) → eqb q (number s) ≡ b → (b || list_any (eqb q) (map number stack)) ≡ true → (list_any (eqb q) (map number stack) ≡ true → q < bound) → q < bound
      by true e h next = subst (λ i. i < bound) (sym (eqb-true q (number s) e)) (below s all.0)
      by false e h next = next h

  never_none : (n : ℕ) (stack : List K) → AllIn stack → (k : K) → IsIn k → IsDistinct eqb (map number stack) → n + length stack ≡ suc bound
      → value_within rules n stack k ≡ None → ⊥
  unfolding IsDistinct AllIn
  never_none zero stack all k i d e h = let l = length-le_from_distinct_below (map number stack) bound d (all_below stack all) in absurd (omega (arith, l, e, length_map number stack))
  never_none (suc n) stack all k i d e h =
      by (is_on rules.same k stack) refl h (λ j ij apart_k. never_none n (k ∷ stack) (i, all) j ij (apart_k, d) (omega (arith, e)))
    where
      by : (b : Bool) → is_on rules.same k stack ≡ b → cond b (Some (Err rules.circle)) (outcome (value_within rules n (k ∷ stack)) (rules.asking k)) ≡ None
          → ((j : K) → IsIn j → AllByRecursion (λ y. eqb (number k) y ≡ false) (map number stack) → value_within rules n (k ∷ stack) j ≡ None → ⊥) → ⊥
      by true s h next = none_some (sym h)
      by false s h next = outcome_some (value_within rules n (k ∷ stack)) IsIn (λ j ij. next j ij (apart k i stack all s)) (rules.asking k) (only k i) h

pub enough : {K V F : Type 0} (rules : Rules K V F) (IsIn : K → Type 0) → IsEnough rules IsIn
unfolding IsDistinct AllIn
enough rules IsIn number bound only below one k i h = never_none rules IsIn number bound only below one (suc bound) [] tt k i tt (omega arith) h
