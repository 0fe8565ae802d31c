-- The ids that pass a test, one by one, where none outside of a range passes it.
use Rattle.std.proofs.Common.{◌≡◌, ℕ, zero, suc, ◌+◌, ◌-◌, ◌≤◌, ◌<◌, ◌&&◌, cond, Bool, true, false, List, [], ◌∷◌, ◌++◌, refl, sym, ap, ◌∙◌, arith, length, drop, append_assoc, append-nil}
use Rattle.std.specs.List.{filter}
use Rattle.run_semantics.specs.Subtree.{ids_from}

pub yes : (f : ℕ → Bool) (x : ℕ) (xs : List ℕ) → f x ≡ true → filter f (x ∷ xs) ≡ x ∷ filter f xs
yes f x xs e = ap (λ t. cond t (x ∷ filter f xs) (filter f xs)) e

pub no : (f : ℕ → Bool) (x : ℕ) (xs : List ℕ) → f x ≡ false → filter f (x ∷ xs) ≡ filter f xs
no f x xs e = ap (λ t. cond t (x ∷ filter f xs) (filter f xs)) e

-- those that pass one test after another
pub filter_both : (f g : ℕ → Bool) (xs : List ℕ) → filter g (filter f xs) ≡ filter (λ x. f x && g x) xs
filter_both f g [] = refl
filter_both f g (x ∷ xs) = by (f x) (g x) refl refl (filter_both f g xs)
  where
    both : ℕ → Bool
    both y = f y && g y

    by : (t u : Bool) → f x ≡ t → g x ≡ u → filter g (filter f xs) ≡ filter both xs → filter g (filter f (x ∷ xs)) ≡ filter both (x ∷ xs)
    by true true p q h = ap (filter g) (yes f x xs p) ∙ (yes g x (filter f xs) q ∙ (ap (λ ys. x ∷ ys) h ∙ sym (yes both x xs (ap (λ t. t && g x) p ∙ q))))
    by true false p q h = ap (filter g) (yes f x xs p) ∙ (no g x (filter f xs) q ∙ (h ∙ sym (no both x xs (ap (λ t. t && g x) p ∙ q))))
    by false u p q h = ap (filter g) (no f x xs p) ∙ (h ∙ sym (no both x xs (ap (λ t. t && g x) p)))

-- in the one order or the other
pub filter_swap : (f g : ℕ → Bool) (xs : List ℕ) → filter g (filter f xs) ≡ filter f (filter g xs)
filter_swap f g [] = refl
filter_swap f g (x ∷ xs) = by (f x) (g x) refl refl (filter_swap f g xs)
  where
    by : (t u : Bool) → f x ≡ t → g x ≡ u → filter g (filter f xs) ≡ filter f (filter g xs) → filter g (filter f (x ∷ xs)) ≡ filter f (filter g (x ∷ xs))
    by true true p q h = ap (filter g) (yes f x xs p) ∙ (yes g x (filter f xs) q ∙ (ap (λ ys. x ∷ ys) h ∙ (sym (yes f x (filter g xs) p) ∙ sym (ap (filter f) (yes g x xs q)))))
    by true false p q h = ap (filter g) (yes f x xs p) ∙ (no g x (filter f xs) q ∙ (h ∙ sym (ap (filter f) (no g x xs q))))
    by false true p q h = ap (filter g) (no f x xs p) ∙ (h ∙ (sym (no f x (filter g xs) p) ∙ sym (ap (filter f) (yes g x xs q))))
    by false false p q h = ap (filter g) (no f x xs p) ∙ (h ∙ sym (ap (filter f) (no g x xs q)))

-- those of the modules from that place on
abbrev pub passing : {X : Type 0} → (ℕ → Bool) → ℕ → List X → List ℕ
passing test i xs = filter test (ids_from (suc i) (drop i xs))

-- at a place
abbrev one_if : Bool → ℕ → List ℕ → List ℕ
one_if t id ids = cond t (id ∷ ids) ids

next_id : (i : ℕ) → suc i ≡ i + 1
next_id i = omega arith

passing_on : {X : Type 0} (test : ℕ → Bool) (n i : ℕ) (xs : List X) → i < length xs → filter test (ids_from n (drop i xs)) ≡ one_if (test n) n (filter test (ids_from (suc n) (drop (suc i) xs)))
passing_on test n i [] l = absurd (omega (arith, l))
passing_on test n zero (x ∷ xs) l = refl
passing_on test n (suc i) (x ∷ xs) l = passing_on test n i xs (omega (arith, l))

passing_step : {X : Type 0} (test : ℕ → Bool) (n i : ℕ) (xs : List X) → i < length xs → filter test (ids_from n (drop i xs)) ≡ one_if (test n) n (filter test (ids_from (suc n) (drop (i + 1) xs)))
passing_step test n i xs l = passing_on test n i xs l ∙ ap (λ k. one_if (test n) n (filter test (ids_from (suc n) (drop k xs)))) (next_id i)

-- before the range none passes
skipped : {X : Type 0} (test : ℕ → Bool) (n k : ℕ) (xs : List X) → ((id : ℕ) → n ≤ id → id < n + k → test id ≡ false) → filter test (ids_from n xs) ≡ filter test (ids_from (n + k) (drop k xs))
skipped test n zero xs h = let same : n ≡ n + 0 = omega arith in ap (λ m. filter test (ids_from m xs)) same
skipped test n (suc k) [] h = refl
skipped test n (suc k) (x ∷ xs) h =
    let same : suc n + k ≡ n + suc k = omega arith in
    no test n (ids_from (suc n) xs) (h n (omega arith) (omega arith)) ∙ (skipped test (suc n) k xs (λ id l m. h id (omega (arith, l)) (omega (arith, m))) ∙ ap (λ m. filter test (ids_from m (drop k xs))) same)

pub passing_begins : {X : Type 0} (test : ℕ → Bool) (k : ℕ) (xs : List X) → ((id : ℕ) → 0 < id → id ≤ k → test id ≡ false) → passing test k xs ≡ filter test (ids_from 1 xs)
passing_begins test k xs none =
    let one : suc k ≡ 1 + k = omega arith in
    ap (λ n. filter test (ids_from n (drop k xs))) one ∙ sym (skipped test 1 k xs (λ id l m. none id (omega (arith, l)) (omega (arith, m))))

-- one is found
pub passing_with : {X : Type 0} (test : ℕ → Bool) (i : ℕ) (xs : List X) (old new whole : List ℕ) → i < length xs → test (i + 1) ≡ true → new ≡ old ++ (i + 1) ∷ [] → old ++ passing test i xs ≡ whole → new ++ passing test (i + 1) xs ≡ whole
passing_with test i xs old new whole l yes more h =
    let here : passing test i xs ≡ (i + 1) ∷ passing test (i + 1) xs = passing_step test (suc i) i xs l ∙ (ap (λ n. one_if (test n) n (filter test (ids_from (suc n) (drop (i + 1) xs)))) (next_id i) ∙ ap (λ t. one_if t (i + 1) (passing test (i + 1) xs)) yes) in
    ap (λ ys. ys ++ passing test (i + 1) xs) more ∙ (append_assoc old ((i + 1) ∷ []) (passing test (i + 1) xs) ∙ (ap (λ ys. old ++ ys) (sym here) ∙ h))

-- one is not
pub passing_without : {X : Type 0} (test : ℕ → Bool) (i : ℕ) (xs : List X) (old new whole : List ℕ) → i < length xs → test (i + 1) ≡ false → new ≡ old → old ++ passing test i xs ≡ whole → new ++ passing test (i + 1) xs ≡ whole
passing_without test i xs old new whole l out same h =
    let here : passing test i xs ≡ passing test (i + 1) xs = passing_step test (suc i) i xs l ∙ (ap (λ n. one_if (test n) n (filter test (ids_from (suc n) (drop (i + 1) xs)))) (next_id i) ∙ ap (λ t. one_if t (i + 1) (passing test (i + 1) xs)) out) in
    ap (λ ys. ys ++ passing test (i + 1) xs) same ∙ (ap (λ ys. old ++ ys) (sym here) ∙ h)

-- behind the range none passes
none_passes : {X : Type 0} (test : ℕ → Bool) (n : ℕ) (xs : List X) → ((id : ℕ) → n ≤ id → id < n + length xs → test id ≡ false) → filter test (ids_from n xs) ≡ []
none_passes test n [] h = refl
none_passes test n (x ∷ xs) h = no test n (ids_from (suc n) xs) (h n (omega arith) (omega arith)) ∙ none_passes test (suc n) xs (λ id l m. h id (omega (arith, l)) (omega (arith, m)))

dropped : {X : Type 0} (i : ℕ) (xs : List X) → length (drop i xs) ≡ length xs - i
dropped zero xs = omega arith
dropped (suc i) [] = omega arith
dropped (suc i) (x ∷ xs) = let h = dropped i xs in omega (arith, h)

pub passing_ends : {X : Type 0} (test : ℕ → Bool) (i : ℕ) (xs : List X) (found whole : List ℕ) → ((id : ℕ) → i < id → id ≤ length xs → test id ≡ false) → found ++ passing test i xs ≡ whole → found ≡ whole
passing_ends test i xs found whole none h =
    let left = dropped i xs in
    sym (append-nil found) ∙ (ap (λ ys. found ++ ys) (sym (none_passes test (suc i) (drop i xs) (λ id l m. none id (omega (arith, l)) (omega (arith, l, m, left))))) ∙ h)
