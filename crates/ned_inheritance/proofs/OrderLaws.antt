-- Lists of types that are gone through from the front.
use Rattle.std.proofs.Common.{◌≡◌, ℕ, zero, suc, ◌-◌, ◌≤◌, ◌<◌, List, [], ◌∷◌, ◌++◌, refl, sym, ap, arith, length, take, drop, slice_index_or, Bor}
use Rattle.ned_trees.specs.declared.declarations.TypeDeclaration.{TypeDeclaration}
use Rattle.ned_inheritance.specs.Inheritance.{types_in}

take_whole : {X : Type 0} (xs : List X) (n : ℕ) → length xs ≤ n → take n xs ≡ xs
take_whole [] zero h = refl
take_whole [] (suc n) h = refl
take_whole (x ∷ xs) zero h = absurd (omega (arith, h))
take_whole (x ∷ xs) (suc n) h = ap (λ ys. x ∷ ys) (take_whole xs n (omega (arith, h)))

-- the first of a list, and the rest
pub first_and_rest : {X : Type 0} (xs : List X) (d : X) → 1 ≤ length xs → xs ≡ slice_index_or xs 0 d ∷ take (length xs - 1) (drop 1 xs)
first_and_rest [] d h = absurd (omega (arith, h))
first_and_rest (x ∷ xs) d h = ap (λ ys. x ∷ ys) (sym (take_whole xs (length (x ∷ xs) - 1) (omega arith)))

pub no_rest : {X : Type 0} (xs : List X) → length xs < 1 → xs ≡ []
no_rest [] h = refl
no_rest (x ∷ xs) h = absurd (omega (arith, h))

pub rest_length : {X : Type 0} (xs : List X) → 1 ≤ length xs → suc (length (take (length xs - 1) (drop 1 xs))) ≡ length xs
rest_length [] h = absurd (omega (arith, h))
rest_length (x ∷ xs) h = ap (λ ys. suc (length ys)) (take_whole xs (length (x ∷ xs) - 1) (omega arith))

pub types_more : (refs : List (Bor TypeDeclaration)) (r : Bor TypeDeclaration) → types_in (refs ++ r ∷ []) ≡ types_in refs ++ r.now ∷ []
types_more [] r = refl
types_more (q ∷ refs) r = ap (λ ts. q.now ∷ ts) (types_more refs r)

pub in_length : (refs : List (Bor TypeDeclaration)) → length (types_in refs) ≡ length refs
in_length [] = refl
in_length (r ∷ refs) = ap suc (in_length refs)
