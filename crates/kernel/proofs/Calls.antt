-- How many calls a start makes at most: each module is called once for a stage.
use Rattle.std.proofs.Common.{◌≡◌, ℕ, zero, suc, ◌+◌, ◌≤◌, ◌<◌, ◌==◌, ◌&&◌, nat_le, not, Bool, true, false, cond, List, [], ◌∷◌, ◌++◌, Option, Some, None, refl, sym, ap, ◌∙◌, arith, append-nil, append_assoc, length, length-append, eqb-true, if◌then◌else◌}
use Rattle.std.proofs.lemmas.Bool.Decides.{nat_tests}
use Rattle.std.specs.List.{filter}
use Rattle.model_questions.specs.declared.record.Record.{Record}
use Rattle.model_questions.specs.Records.{record_at}
use Rattle.run_semantics.specs.Run.{starting, unstarted}
use Rattle.run_semantics.specs.Subtree.{among, each_of, ids_from, is_under, outer_first, outer_first_to, submodules}
use Rattle.run_semantics.specs.World.{World, live_of}
use Rattle.kernel.specs.Starts.{HasFewCalls}

-- ---- how often an id stands in a list

abbrev times : ℕ → List ℕ → ℕ
times n [] = 0
times n (x ∷ xs) = if n == x then suc (times n xs) else times n xs

-- none stands twice
abbrev AreOnce : List ℕ → Type 0
AreOnce xs = (n : ℕ) → times n xs ≤ 1

times-append : (n : ℕ) (xs ys : List ℕ) → times n (xs ++ ys) ≡ times n xs + times n ys
times-append n [] ys = omega arith
times-append n (x ∷ xs) ys = by (n == x) (times-append n xs ys)
  where
    by : (t : Bool) → times n (xs ++ ys) ≡ times n xs + times n ys → cond t (suc (times n (xs ++ ys))) (times n (xs ++ ys)) ≡ cond t (suc (times n xs)) (times n xs) + times n ys
    by true e = omega (arith, e)
    by false e = e

-- one more in both lists, or in the second one
one_in_both : (n x : ℕ) (xs ys : List ℕ) → times n xs ≤ times n ys → times n (x ∷ xs) ≤ times n (x ∷ ys)
one_in_both n x xs ys l = by (n == x)
  where
    by : (t : Bool) → cond t (suc (times n xs)) (times n xs) ≤ cond t (suc (times n ys)) (times n ys)
    by true = omega (arith, l)
    by false = l

one_more : (n x : ℕ) (xs ys : List ℕ) → times n xs ≤ times n ys → times n xs ≤ times n (x ∷ ys)
one_more n x xs ys l = by (n == x)
  where
    by : (t : Bool) → times n xs ≤ cond t (suc (times n ys)) (times n ys)
    by true = omega (arith, l)
    by false = l

-- those that pass a test stand there no more often
filter_times : (f : ℕ → Bool) (n : ℕ) (xs : List ℕ) → times n (filter f xs) ≤ times n xs
filter_times f n [] = omega arith
filter_times f n (x ∷ xs) = by (f x) (filter_times f n xs)
  where
    by : (t : Bool) → times n (filter f xs) ≤ times n xs → times n (cond t (x ∷ filter f xs) (filter f xs)) ≤ times n (x ∷ xs)
    by true l = one_in_both n x (filter f xs) xs l
    by false l = one_more n x (filter f xs) xs l

filter_once : (f : ℕ → Bool) (xs : List ℕ) → AreOnce xs → AreOnce (filter f xs)
filter_once f xs once n = omega (arith, filter_times f n xs, once n)

filter_short : (f : ℕ → Bool) (xs : List ℕ) → length (filter f xs) ≤ length xs
filter_short f [] = omega arith
filter_short f (x ∷ xs) = by (f x) (filter_short f xs)
  where
    by : (t : Bool) → length (filter f xs) ≤ length xs → length (cond t (x ∷ filter f xs) (filter f xs)) ≤ suc (length xs)
    by true l = omega (arith, l)
    by false l = omega (arith, l)

-- one that doesn't pass it does not stand there
filter_out : (f : ℕ → Bool) (n : ℕ) (xs : List ℕ) → f n ≡ false → times n (filter f xs) ≡ 0
filter_out f n [] e = refl
filter_out f n (x ∷ xs) e = by (f x) refl (filter_out f n xs e)
  where
    another : (t : Bool) → (n == x) ≡ t → f x ≡ true → times n (filter f xs) ≡ 0 → cond t (suc (times n (filter f xs))) (times n (filter f xs)) ≡ 0
    another true same passes later = let both : false ≡ true = sym e ∙ (ap f (eqb-true n x same) ∙ passes) in cc
    another false same passes later = later

    by : (t : Bool) → f x ≡ t → times n (filter f xs) ≡ 0 → times n (cond t (x ∷ filter f xs) (filter f xs)) ≡ 0
    by true passes later = another (n == x) refl passes later
    by false passes later = later

-- the ids of records
other : (m n : ℕ) → m < n → (m == n) ≡ false
other m n l = grind (arith, nat_tests)

smaller_times : {X : Type 0} (n k : ℕ) (xs : List X) → n < k → times n (ids_from k xs) ≡ 0
smaller_times n k [] l = refl
smaller_times n k (x ∷ xs) l = rw (other n k l) (smaller_times n (suc k) xs (omega (arith, l)))

ids_once : {X : Type 0} (k : ℕ) (xs : List X) → AreOnce (ids_from k xs)
ids_once k [] n = omega arith
ids_once k (x ∷ xs) n = by (n == k) refl (ids_once (suc k) xs n)
  where
    by : (t : Bool) → (n == k) ≡ t → times n (ids_from (suc k) xs) ≤ 1 → cond t (suc (times n (ids_from (suc k) xs))) (times n (ids_from (suc k) xs)) ≤ 1
    by true same l =
        let is = eqb-true n k same in
        let none = smaller_times n (suc k) xs (omega (arith, is)) in
        omega (arith, none)
    by false same l = l

-- ---- submodules of these

-- of how many of these it is a submodule
abbrev parents : Option Record → List ℕ → ℕ
parents o [] = 0
parents o (x ∷ xs) = if is_under x o then suc (parents o xs) else parents o xs

-- of one at most
no_parent : (xs : List ℕ) → parents None xs ≡ 0
no_parent [] = refl
no_parent (x ∷ xs) = no_parent xs

its_parent : (r : Record) (xs : List ℕ) → parents (Some r) xs ≡ times r.parent xs
its_parent r [] = refl
its_parent r (x ∷ xs) = by (r.parent == x) (its_parent r xs)
  where
    by : (t : Bool) → parents (Some r) xs ≡ times r.parent xs → cond t (suc (parents (Some r) xs)) (parents (Some r) xs) ≡ cond t (suc (times r.parent xs)) (times r.parent xs)
    by true e = ap suc e
    by false e = e

one_parent : (o : Option Record) (xs : List ℕ) → AreOnce xs → parents o xs ≤ 1
one_parent None xs once = omega (arith, no_parent xs)
one_parent (Some r) xs once = omega (arith, its_parent r xs, once r.parent)

-- so none of them stands twice among the submodules of each of these
below_times : (rs : List Record) (ids : List ℕ) (j : ℕ) (xs : List ℕ) → AreOnce ids → times j (each_of (submodules rs ids) xs) ≤ parents (record_at rs j) xs
below_times rs ids j [] once = omega arith
below_times rs ids j (x ∷ xs) once =
    let both = times-append j (submodules rs ids x) (each_of (submodules rs ids) xs) in
    by (is_under x (record_at rs j)) refl both (below_times rs ids j xs once)
  where
    front : ℕ
    front = times j (submodules rs ids x)

    left : ℕ
    left = times j (each_of (submodules rs ids) xs)

    by : (t : Bool) → is_under x (record_at rs j) ≡ t → times j (submodules rs ids x ++ each_of (submodules rs ids) xs) ≡ front + left → left ≤ parents (record_at rs j) xs
        → times j (submodules rs ids x ++ each_of (submodules rs ids) xs) ≤ cond t (suc (parents (record_at rs j) xs)) (parents (record_at rs j) xs)
    by true under both l =
        let few = filter_times (λ id. is_under x (record_at rs id)) j ids in
        let one = once j in
        omega (arith, both, l, few, one)
    by false under both l =
        let none = filter_out (λ id. is_under x (record_at rs id)) j ids under in
        omega (arith, both, l, none)

below_once : (rs : List Record) (ids xs : List ℕ) → AreOnce ids → AreOnce xs → AreOnce (each_of (submodules rs ids) xs)
below_once rs ids xs once twice j = omega (arith, below_times rs ids j xs once, one_parent (record_at rs j) xs twice)

-- and there are no more of them
below_one : (rs : List Record) (i : ℕ) (ids xs : List ℕ) → length (each_of (submodules rs (i ∷ ids)) xs) ≡ parents (record_at rs i) xs + length (each_of (submodules rs ids) xs)
below_one rs i ids [] = refl
below_one rs i ids (x ∷ xs) = by (is_under x (record_at rs i)) (below_one rs i ids xs)
  where
    less : List ℕ
    less = each_of (submodules rs ids) xs

    more : List ℕ
    more = each_of (submodules rs (i ∷ ids)) xs

    by : (t : Bool) → length more ≡ parents (record_at rs i) xs + length less
        → length (cond t (i ∷ submodules rs ids x) (submodules rs ids x) ++ more) ≡ cond t (suc (parents (record_at rs i) xs)) (parents (record_at rs i) xs) + length (submodules rs ids x ++ less)
    by true e = omega (arith, e, length-append (submodules rs ids x) more, length-append (submodules rs ids x) less)
    by false e = omega (arith, e, length-append (submodules rs ids x) more, length-append (submodules rs ids x) less)

below_none : (rs : List Record) (xs : List ℕ) → length (each_of (submodules rs []) xs) ≡ 0
below_none rs [] = refl
below_none rs (x ∷ xs) = below_none rs xs

below_few : (rs : List Record) (ids xs : List ℕ) → AreOnce xs → length (each_of (submodules rs ids) xs) ≤ length ids
below_few rs [] xs once = omega (arith, below_none rs xs)
below_few rs (i ∷ ids) xs once = omega (arith, below_one rs i ids xs, one_parent (record_at rs i) xs once, below_few rs ids xs once)

-- ---- level by level

each-append : (f : ℕ → List ℕ) (xs ys : List ℕ) → each_of f (xs ++ ys) ≡ each_of f xs ++ each_of f ys
each-append f [] ys = refl
each-append f (x ∷ xs) ys = ap (λ zs. f x ++ zs) (each-append f xs ys) ∙ sym (append_assoc (f x) (each_of f xs) (each_of f ys))

one_level : (depth : ℕ) (below : ℕ → List ℕ) (xs : List ℕ) → length (each_of (outer_first_to (suc depth) below) xs) ≡ length xs + length (each_of (outer_first_to depth below) (each_of below xs))
one_level depth below [] = refl
one_level depth below (x ∷ xs) =
    let inner = each_of (outer_first_to depth below) (below x) in
    let later = each_of (outer_first_to depth below) (each_of below xs) in
    let parts = ap length (each-append (outer_first_to depth below) (below x) (each_of below xs)) in
    omega (arith, parts, length-append inner later, length-append (x ∷ inner) (each_of (outer_first_to (suc depth) below) xs), one_level depth below xs)

no_level : (below : ℕ → List ℕ) (xs : List ℕ) → length (each_of (outer_first_to zero below) xs) ≡ 0
no_level below [] = refl
no_level below (x ∷ xs) = no_level below xs

-- so many on each of so many levels
abbrev in_levels : ℕ → ℕ → ℕ
in_levels zero most = 0
in_levels (suc depth) most = most + in_levels depth most

levels_few : (rs : List Record) (ids : List ℕ) (most : ℕ) → AreOnce ids → length ids ≤ most → (depth : ℕ) (xs : List ℕ) → AreOnce xs → length xs ≤ most → length (each_of (outer_first_to depth (submodules rs ids)) xs) ≤ in_levels depth most
levels_few rs ids most once few zero xs twice l = omega (arith, no_level (submodules rs ids) xs)
levels_few rs ids most once few (suc depth) xs twice l =
    let inner : List ℕ = each_of (submodules rs ids) xs in
    let within : length inner ≤ most = omega (arith, below_few rs ids xs twice, few) in
    omega (arith, one_level depth (submodules rs ids) xs, l, levels_few rs ids most once few depth inner (below_once rs ids xs once twice) within)

one_once : (x : ℕ) → AreOnce (x ∷ [])
one_once x n = by (n == x)
  where
    by : (t : Bool) → cond t 1 0 ≤ 1
    by true = omega arith
    by false = omega arith

calls_few : (rs : List Record) (ids : List ℕ) (first : ℕ) → AreOnce ids → length ids ≤ 65536 → length (outer_first rs ids first) ≤ 2162688
unfolding outer_first
calls_few rs ids first once few =
    let all = levels_few rs ids 65536 once few 33 (first ∷ []) (one_once first) (omega arith) in
    let alone = ap length (append-nil (outer_first_to 33 (submodules rs ids) first)) in
    omega (arith, all, alone)

-- ---- of a start

-- MODULES THAT WERE CREATED TOGETHER are called with few calls, where few modules live
pub start_calls : (first last : ℕ) (w : World) → length (live_of w) ≤ 65536 → HasFewCalls w (starting first last w) first
start_calls first last w few =
    let waits : List ℕ = unstarted w in
    let one = filter_short (λ id. nat_le first id && nat_le id last) waits in
    let two = filter_short (λ id. not (among id w.started)) (live_of w) in
    calls_few w.records (starting first last w) first
    (filter_once (λ id. nat_le first id && nat_le id last) waits (filter_once (λ id. not (among id w.started)) (live_of w) (filter_once (λ id. not (among id w.dead)) (ids_from 1 w.records) (ids_once 1 w.records)))) (omega (arith, one, two, few))
