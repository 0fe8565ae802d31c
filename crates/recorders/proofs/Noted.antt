-- Places that are noted.
use Rattle.std.proofs.Common.{◌≡◌, ℕ, zero, suc, ◌+◌, ◌-◌, ◌<◌, ◌==◌, Bool, true, false, List, [], ◌∷◌, ◌++◌, Option, Some, None, refl, sym, ap, ◌∙◌, length, get_or, take, arith, subst, length-append, add-one, slice_get, if◌then◌else◌, Vec}
use Rattle.std.proofs.Math.Seq.{take-suc}
use Rattle.std.proofs.lemmas.List.{append-nil, length-take-le}
use Rattle.std.proofs.lemmas.Bool.Decides.{nat_tests}
use Rattle.std.specs.declared.alloc.Global.{Global}
use Rattle.recorders.specs.Places.{places_from, PlaceLists, places_at, is_place, noted, noted_if}

-- ---- a place more

-- the element after others is found at their number
pub found_at_end : {A : Type 0} (xs ys : List A) (x : A) → slice_get (xs ++ x ∷ ys) (length xs) ≡ Some x
found_at_end [] ys x = refl
found_at_end (y ∷ xs) ys x = found_at_end xs ys x

last_added : (list : List ℕ) (place : ℕ) → slice_get (list ++ place ∷ []) (length (list ++ place ∷ []) - 1) ≡ Some place
last_added list place =
    let number : length (list ++ place ∷ []) - 1 ≡ length list = omega (arith, length-append list (place ∷ [])) in
    ap (slice_get (list ++ place ∷ [])) number ∙ found_at_end list [] place

itself : (place : ℕ) → (place == place) ≡ true
itself place = grind (arith, nat_tests)

noted_again_by : (t : Bool) (place : ℕ) (list : List ℕ) → is_place place (slice_get list (length list - 1)) ≡ t → noted place (if t then list else list ++ place ∷ []) ≡ (if t then list else list ++ place ∷ [])
noted_again_by true place list e = rw e refl
noted_again_by false place list e =
    ap (λ t. if t then list ++ place ∷ [] else (list ++ place ∷ []) ++ place ∷ []) (ap (is_place place) (last_added list place) ∙ itself place)

-- a place that is noted twice in turn is noted once
noted_again : (place : ℕ) (list : List ℕ) → noted place (noted place list) ≡ noted place list
noted_again place list = noted_again_by (is_place place (slice_get list (length list - 1))) place list refl

-- by two tests in turn a place is noted if either lets it
pub noted_either : (a b : Bool) (place : ℕ) (list : List ℕ) → noted_if b place (noted_if a place list) ≡ noted_if (if a then true else b) place list
noted_either true true place list = noted_again place list
noted_either true false place list = refl
noted_either false b place list = refl

below_by : (t : Bool) (place n : ℕ) (rest : List ℕ) → ((i x : ℕ) → slice_get rest i ≡ Some x → x < n) → place < n → (i x : ℕ) → slice_get (if t then place ∷ rest else rest) i ≡ Some x → x < n
below_by true place n rest h l zero x e = let same : place ≡ x = cc in omega arith
below_by true place n rest h l (suc i) x e = h i x e
below_by false place n rest h l i x e = h i x e

-- all places are below the first one that is free
below : {A : Type 0} (p : A → Bool) (place n : ℕ) (xs : List A) → place + length xs ≡ n → (i x : ℕ) → slice_get (places_from place p xs) i ≡ Some x → x < n
below p place n [] e i x h = cc
below p place n (y ∷ xs) e i x h =
    below_by (p y) place n (places_from (place + 1) p xs) (below p (place + 1) n xs (omega arith)) (omega arith) i x h

not_last : (place : ℕ) (o : Option ℕ) → ((x : ℕ) → o ≡ Some x → x < place) → is_place place o ≡ false
not_last place None h = refl
not_last place (Some x) h = let l : x < place = h x refl in grind (arith, nat_tests)

more_by : (s : Bool) (place : ℕ) (longer rest end : List ℕ) → longer ≡ rest ++ end → (if s then place ∷ longer else longer) ≡ (if s then place ∷ rest else rest) ++ end
more_by true place longer rest end h = ap (λ (l : List ℕ). place ∷ l) h
more_by false place longer rest end h = h

one_by : (t : Bool) (m n : ℕ) → m ≡ n → (if t then m ∷ [] else []) ≡ (if t then n ∷ [] else [])
one_by t m n h = ap (λ (k : ℕ). if t then k ∷ [] else []) h

-- one element more
places_more : {A : Type 0} (p : A → Bool) (place n : ℕ) (xs : List A) (x : A) → place + length xs ≡ n → places_from place p (xs ++ x ∷ []) ≡ places_from place p xs ++ (if p x then n ∷ [] else [])
places_more p place n [] x h = one_by (p x) place n (omega arith)
places_more p place n (y ∷ xs) x h =
    more_by (p y) place (places_from (place + 1) p (xs ++ x ∷ [])) (places_from (place + 1) p xs) (if p x then n ∷ [] else [])
    (places_more p (place + 1) n xs x (omega arith))

noted_by : (t : Bool) (place : ℕ) (list : List ℕ) → is_place place (slice_get list (length list - 1)) ≡ false → noted_if t place list ≡ list ++ (if t then place ∷ [] else [])
noted_by true place list e = rw e refl
noted_by false place list e = sym (append-nil list)

-- an element's place is noted, which is after those of all elements before it
noted_behind : {A : Type 0} (p : A → Bool) (xs : List A) (x : A) → noted_if (p x) (length xs) (places_from 0 p xs) ≡ places_from 0 p (xs ++ x ∷ [])
noted_behind p xs x =
    noted_by (p x) (length xs) (places_from 0 p xs)
    (not_last (length xs) (slice_get (places_from 0 p xs) (length (places_from 0 p xs) - 1)) (below p 0 (length xs) xs (omega arith) (length (places_from 0 p xs) - 1)))
    ∙ sym (places_more p 0 (length xs) xs x (omega arith))

-- the same of the elements of a list in turn
pub noted_next : {A : Type 0} (p : A → Bool) (xs : List A) (i : ℕ) (x : A) → i < length xs → get_or xs i x ≡ x → noted_if (p x) i (places_from 0 p (take i xs)) ≡ places_from 0 p (take (i + 1) xs)
noted_next p xs i x l e =
    let long : length (take i xs) ≡ i = length-take-le i xs (omega arith) in
    let behind = noted_behind p (take i xs) x in
    let step : take (i + 1) xs ≡ take i xs ++ x ∷ [] = ap (λ (n : ℕ). take n xs) (add-one i) ∙ take-suc xs i x l ∙ ap (λ (y : _). take i xs ++ y ∷ []) e in
    subst (λ (n : ℕ). noted_if (p x) n (places_from 0 p (take i xs)) ≡ places_from 0 p (take (i + 1) xs)) long (behind ∙ ap (places_from 0 p) (sym step))

-- the same for the lists of all ids
pub noted_step : {A : Type 0} (p : ℕ → A → Bool) (xs : List A) (i : ℕ) (x : A) (before after : PlaceLists) → i < length xs → x ≡ get_or xs i x → length after ≡ length before → ((q : ℕ) → q < length before → places_at before q ≡ places_from 0 (p q) (take i xs)) → ((q : ℕ) → q < length before → places_at after q ≡ noted_if (p q x) i (places_at before q)) → (q : ℕ) → q < length after → places_at after q ≡ places_from 0 (p q) (take (i + 1) xs)
noted_step p xs i x before after l e long known step q m =
    let n : q < length before = omega arith in
    step q n ∙ ap (noted_if (p q x) i) (known q n) ∙ noted_next (p q) xs i x l (sym e)

-- one list more, where all are empty
pub empty_more : (lists : PlaceLists) (list : Vec ℕ Global) → list.items ≡ [] → ((q : ℕ) → places_at lists q ≡ []) → (q : ℕ) → places_at (lists ++ list ∷ []) q ≡ []
empty_more [] list e h zero = e
empty_more [] list e h (suc q) = refl
empty_more (x ∷ lists) list e h zero = h 0
empty_more (x ∷ lists) list e h (suc q) = empty_more lists list e (λ k. h (suc k)) q
