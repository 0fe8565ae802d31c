-- The events of a module stand together in a tree that is ordered by modules first.
use Rattle.std.proofs.Common.{◌≡◌, ◌≤◌, ℕ, ◌==◌, Bool, true, false, true≢false, cond, List, ◌∷◌, Option, Some, None, is_some, slice_get, IfSome, refl, sym, ◌∙◌, subst, nat_lt, eqb-true, eq-eqb, arith}
use Rattle.std.proofs.lemmas.Bool.Decides.{nat_tests}
use Rattle.std.specs.declared.cmp.Ordering.{Ordering}
use Rattle.std.specs.declared.cmp.Ordering.TheVariants.{Less, Equal, Greater}
use Rattle.std.specs.Ordering.{nat_cmp, ordering_then, is_gt}

above_by : (lt same : Bool) (a b : ℕ) (o : Ordering) → nat_lt a b ≡ lt → (a == b) ≡ same → is_gt (ordering_then (cond lt Less (cond same Equal Greater)) o) ≡ false → a ≤ b
above_by true same a b o p q h = grind (arith, nat_tests)
above_by false true a b o p q h = let e = eqb-true a b q in omega (arith, e)
above_by false false a b o p q h = absurd (true≢false h)

-- the first part of what isn't greater isn't greater
pub above : (a b : ℕ) (o : Ordering) → is_gt (ordering_then (nat_cmp a b) o) ≡ false → a ≤ b
above a b o h = above_by (nat_lt a b) (a == b) a b o refl refl h

least_by : (lt same : Bool) (n : ℕ) → nat_lt 0 n ≡ lt → (0 == n) ≡ same → is_gt (cond lt Less (cond same Equal Greater)) ≡ false
least_by true same n p q = refl
least_by false true n p q = refl
least_by false false n p q = absurd (grind (arith, nat_tests))

start_by : (lt same : Bool) (a b n : ℕ) → nat_lt a b ≡ lt → (a == b) ≡ same → a ≡ b → is_gt (ordering_then (cond lt Less (cond same Equal Greater)) (nat_cmp 0 n)) ≡ false
start_by true same a b n p q e = refl
start_by false true a b n p q e = least_by (nat_lt 0 n) (0 == n) n refl refl
start_by false false a b n p q e = absurd (true≢false (sym (eq-eqb a b e) ∙ q))

-- what a module's first could be is above none of the module's
pub start : (a b n : ℕ) → a ≡ b → is_gt (ordering_then (nat_cmp a b) (nat_cmp 0 n)) ≡ false
start a b n e = start_by (nat_lt a b) (a == b) a b n refl refl e

-- the first of a list that begins with it
pub first_is : {X : Type 0} (P : X → Type 0) (r : List X) (x : X) (t : List X) → r ≡ x ∷ t → IfSome (slice_get r 0) P → P x
first_is P r x t e h = subst (λ xs. IfSome (slice_get xs 0) P) e h

-- where the first from a module on is of another module, none is of that one
pub none_of : {X : Type 0} (o : Option X) (s f q n m : ℕ) → is_gt (ordering_then (nat_cmp s f) (nat_cmp 0 n)) ≡ false → (is_some o ≡ true → is_gt (ordering_then (nat_cmp f q) (nat_cmp n m)) ≡ false) → (f ≡ s → ⊥) → q ≡ s → o ≡ None
none_of None s f q n m low high apart of = refl
none_of (Some x) s f q n m low high apart of =
    let least = above s f (nat_cmp 0 n) low in
    let most = above f q (nat_cmp n m) (high refl) in
    absurd (apart (omega (arith, least, most, of)))
