-- Lists of places, and of what counts.
use Rattle.std.proofs.Common.{ℕ, zero, suc, ◌+◌, ◌≡◌, refl, sym, ◌∙◌, ap, Bool, true, false, true≢false, ◌||◌, ◌==◌, eqb-true, eq-eqb, ◌⊎◌, inl, inr, List, [], ◌∷◌, ◌++◌, length, ◌≤◌, ◌<◌, Some, None, arith}
use Rattle.std.specs.Prelude.{slice_set, slice_get}
use Rattle.rest_index.specs.Rests.{is_among, is_live}

-- how many count
abbrev pub count : List Bool → ℕ
count [] = 0
count (true ∷ bs) = suc (count bs)
count (false ∷ bs) = count bs

-- ---- one counts no more

pub gone_there : (l : List Bool) (p : ℕ) → is_live (slice_set l p false) p ≡ false
gone_there [] p = refl
gone_there (b ∷ bs) zero = refl
gone_there (b ∷ bs) (suc p) = gone_there bs p

pub counted_before : (l : List Bool) (p q : ℕ) → is_live (slice_set l p false) q ≡ true → is_live l q ≡ true
counted_before [] p q h = h
counted_before (b ∷ bs) zero zero h = absurd (true≢false (sym h))
counted_before (b ∷ bs) zero (suc q) h = h
counted_before (b ∷ bs) (suc p) zero h = h
counted_before (b ∷ bs) (suc p) (suc q) h = counted_before bs p q h

pub that_one : (l : List Bool) (p q : ℕ) → is_live l q ≡ true → is_live (slice_set l p false) q ≡ false → p ≡ q
that_one [] p q h g = absurd (true≢false (sym h))
that_one (b ∷ bs) zero zero h g = refl
that_one (b ∷ bs) zero (suc q) h g = absurd (true≢false (sym h ∙ g))
that_one (b ∷ bs) (suc p) zero h g = absurd (true≢false (sym h ∙ g))
that_one (b ∷ bs) (suc p) (suc q) h g = ap suc (that_one bs p q h g)

pub one_fewer : (l : List Bool) (p : ℕ) → is_live l p ≡ true → suc (count (slice_set l p false)) ≡ count l
one_fewer [] p h = absurd (true≢false (sym h))
one_fewer (true ∷ bs) zero h = refl
one_fewer (false ∷ bs) zero h = absurd (true≢false (sym h))
one_fewer (true ∷ bs) (suc p) h = ap suc (one_fewer bs p h)
one_fewer (false ∷ bs) (suc p) h = one_fewer bs p h

pub as_long_set : (l : List Bool) (p : ℕ) (b : Bool) → length (slice_set l p b) ≡ length l
as_long_set [] p b = refl
as_long_set (c ∷ cs) zero b = refl
as_long_set (c ∷ cs) (suc p) b = ap suc (as_long_set cs p b)

pub few : (l : List Bool) → count l ≤ length l
few [] = omega arith
few (true ∷ bs) = let h = few bs in omega (arith, h)
few (false ∷ bs) = let h = few bs in omega (arith, h)

pub live_within : (l : List Bool) (p : ℕ) → is_live l p ≡ true → p < length l
live_within [] p h = absurd (true≢false (sym h))
live_within (b ∷ bs) zero h = omega arith
live_within (b ∷ bs) (suc p) h = let m = live_within bs p h in omega (arith, m)

-- ---- among some

pub among_left : (q : ℕ) (xs ys : List ℕ) → is_among q xs ≡ true → is_among q (xs ++ ys) ≡ true
among_left q [] ys h = absurd (true≢false (sym h))
among_left q (x ∷ xs) ys h = by (x == q) h (among_left q xs ys)
  where
    by : (b : Bool) → (b || is_among q xs) ≡ true → (is_among q xs ≡ true → is_among q (xs ++ ys) ≡ true) → (b || is_among q (xs ++ ys)) ≡ true
    by true h next = refl
    by false h next = next h

pub among_right : (q : ℕ) (xs ys : List ℕ) → is_among q ys ≡ true → is_among q (xs ++ ys) ≡ true
among_right q [] ys h = h
among_right q (x ∷ xs) ys h = by (x == q) (among_right q xs ys h)
  where
    by : (b : Bool) → is_among q (xs ++ ys) ≡ true → (b || is_among q (xs ++ ys)) ≡ true
    by true h = refl
    by false h = h

pub among_either : (q : ℕ) (xs ys : List ℕ) → is_among q (xs ++ ys) ≡ true → (is_among q xs ≡ true) ⊎ (is_among q ys ≡ true)
among_either q [] ys h = inr h
among_either q (x ∷ xs) ys h = by (x == q) h (among_either q xs ys)
  where
    by : (b : Bool) → (b || is_among q (xs ++ ys)) ≡ true → (is_among q (xs ++ ys) ≡ true → (is_among q xs ≡ true) ⊎ (is_among q ys ≡ true))
        → ((b || is_among q xs) ≡ true) ⊎ (is_among q ys ≡ true)
    by true h next = inl refl
    by false h next = next h

pub among_one : (q p : ℕ) → is_among q (p ∷ []) ≡ true → p ≡ q
among_one q p h = by (p == q) refl h
  where
    by : (b : Bool) → (p == q) ≡ b → (b || false) ≡ true → p ≡ q
    by true e h = eqb-true p q e
    by false e h = absurd (true≢false (sym h))

pub among_itself : (p : ℕ) → is_among p (p ∷ []) ≡ true
among_itself p = ap (λ b. b || false) (eq-eqb p p refl)

-- one of them stands at a place
pub among_place : (q : ℕ) (xs : List ℕ) → is_among q xs ≡ true → (i : ℕ) × (slice_get xs i ≡ Some q)
among_place q [] h = absurd (true≢false (sym h))
among_place q (x ∷ xs) h = by (x == q) refl h (among_place q xs)
  where
    by : (b : Bool) → (x == q) ≡ b → (b || is_among q xs) ≡ true → (is_among q xs ≡ true → (i : ℕ) × (slice_get xs i ≡ Some q)) → (i : ℕ) × (slice_get (x ∷ xs) i ≡ Some q)
    by true e h next = (0, ap Some (eqb-true x q e))
    by false e h next = let r = next h in (suc r.0, r.1)

pub place_among : (q : ℕ) (xs : List ℕ) (i : ℕ) → slice_get xs i ≡ Some q → is_among q xs ≡ true
place_among q [] i h = absurd (cc)
place_among q (x ∷ xs) zero h = let e : x ≡ q = cc in ap (λ b. b || is_among q xs) (eq-eqb x q e)
place_among q (x ∷ xs) (suc i) h = by (x == q) (place_among q xs i h)
  where
    by : (b : Bool) → is_among q xs ≡ true → (b || is_among q xs) ≡ true
    by true h = refl
    by false h = h

pub place_left : (xs ys : List ℕ) (i q : ℕ) → slice_get xs i ≡ Some q → slice_get (xs ++ ys) i ≡ Some q
place_left [] ys i q h = absurd (cc)
place_left (x ∷ xs) ys zero q h = h
place_left (x ∷ xs) ys (suc i) q h = place_left xs ys i q h

pub place_known : (xs ys : List ℕ) (i q : ℕ) → i < length xs → slice_get (xs ++ ys) i ≡ Some q → slice_get xs i ≡ Some q
place_known [] ys i q l h = absurd (omega (arith, l))
place_known (x ∷ xs) ys zero q l h = h
place_known (x ∷ xs) ys (suc i) q l h = place_known xs ys i q (omega (arith, l)) h

pub place_last : (xs : List ℕ) (q : ℕ) → slice_get (xs ++ q ∷ []) (length xs) ≡ Some q
place_last [] q = refl
place_last (x ∷ xs) q = place_last xs q

pub length_both : (xs ys : List ℕ) → length (xs ++ ys) ≡ length xs + length ys
length_both [] ys = omega arith
length_both (x ∷ xs) ys = let h = length_both xs ys in omega (arith, h)

pub none_past : (xs : List ℕ) (i : ℕ) → slice_get xs i ≡ None → length xs ≤ i
none_past [] i h = omega arith
none_past (x ∷ xs) zero h = absurd (let e : Some x ≡ None = h in cc)
none_past (x ∷ xs) (suc i) h = let m = none_past xs i h in omega (arith, m)
