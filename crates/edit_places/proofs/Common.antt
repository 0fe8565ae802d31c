-- What two lists have in common at their ends.
use Rattle.std.proofs.Common.{◌≡◌, ◌≤◌, ◌<◌, ◌+◌, ◌-◌, ℕ, zero, suc, List, [], ◌∷◌, ◌++◌, None, Some, length, take, drop, slice_get, option_to_list, arith, sym, ap, ◌∙◌}

pub none_some : {A : Type 0} {x : A} → None ≡ Some x → ⊥
none_some h = cc

abbrev first_or : {X : Type 0} → X → List X → X
first_or d [] = d
first_or d (x ∷ xs) = x

first_is : {X : Type 0} (y x : X) → Some y ≡ Some x → y ≡ x
first_is y x at = ap (λ o. first_or y (option_to_list o)) at

-- one more at the front
pub take_more : {X : Type 0} (xs : List X) (n : ℕ) (x : X) → slice_get xs n ≡ Some x → take (suc n) xs ≡ take n xs ++ x ∷ []
take_more [] n x at = absurd (none_some at)
take_more (y ∷ xs) zero x at = ap option_to_list at
take_more (y ∷ xs) (suc n) x at = ap (λ l. y ∷ l) (take_more xs n x at)

drop_more : {X : Type 0} (xs : List X) (n : ℕ) (x : X) → slice_get xs n ≡ Some x → drop n xs ≡ x ∷ drop (suc n) xs
drop_more [] n x at = absurd (none_some at)
drop_more (y ∷ xs) zero x at = ap (λ z. z ∷ xs) (first_is y x at)
drop_more (y ∷ xs) (suc n) x at = drop_more xs n x at

pub take_at : {X : Type 0} (xs : List X) (i j : ℕ) → i ≡ j → take i xs ≡ take j xs
take_at xs i j e = ap (λ k. take k xs) e

pub drop_at : {X : Type 0} (xs : List X) (i j : ℕ) → i ≡ j → drop i xs ≡ drop j xs
drop_at xs i j e = ap (λ k. drop k xs) e

pub front_more : {X : Type 0} (xs ys : List X) (n : ℕ) (x y : X) → take n xs ≡ take n ys → slice_get xs n ≡ Some x → slice_get ys n ≡ Some y → x ≡ y
    → take (n + 1) xs ≡ take (n + 1) ys
front_more xs ys n x y same at other e =
    take_at xs (n + 1) (suc n) (omega arith) ∙ take_more xs n x at ∙ ap (λ l. l ++ x ∷ []) same ∙ ap (λ z. take n ys ++ z ∷ []) e
    ∙ sym (take_more ys n y other) ∙ take_at ys (suc n) (n + 1) (omega arith)

pub back_more : {X : Type 0} (xs ys : List X) (n : ℕ) (x y : X) → n < length xs → n < length ys → drop (length xs - n) xs ≡ drop (length ys - n) ys
    → slice_get xs (length xs - n - 1) ≡ Some x → slice_get ys (length ys - n - 1) ≡ Some y → x ≡ y
    → drop (length xs - (n + 1)) xs ≡ drop (length ys - (n + 1)) ys
back_more xs ys n x y less fewer same at other e =
    drop_at xs (length xs - (n + 1)) (length xs - n - 1) (omega arith) ∙ drop_more xs (length xs - n - 1) x at
    ∙ ap (λ l. x ∷ l) (drop_at xs (suc (length xs - n - 1)) (length xs - n) (omega (arith, less)) ∙ same
    ∙ drop_at ys (length ys - n) (suc (length ys - n - 1)) (omega (arith, fewer)))
    ∙ ap (λ z. z ∷ drop (suc (length ys - n - 1)) ys) e
    ∙ sym (drop_more ys (length ys - n - 1) y other) ∙ drop_at ys (length ys - n - 1) (length ys - (n + 1)) (omega arith)
