-- The first of some modules that is simple and has a greater id, by the list of their ids.
use Rattle.std.proofs.Common.{◌≡◌, ℕ, suc, ◌+◌, ◌≤◌, ◌<◌, ◌==◌, nat_lt, Bool, true, false, cond, List, [], ◌∷◌, ◌++◌, Option, Some, None, refl, sym, ap, ◌∙◌, arith, append_assoc, length, slice_get, eqb-true, eq-eqb}
use Rattle.std.proofs.lemmas.Bool.Decides.{nat_tests}
use Rattle.std.specs.List.{filter}
use Rattle.model_questions.specs.declared.record.Record.{Record}
use Rattle.model_questions.specs.Records.{record_at}
use Rattle.run_semantics.specs.Run.{Part, needs_of, parts_from, with_class}
use Rattle.run_semantics.specs.Subtree.{among, ids_from}
use Rattle.run_semantics.specs.World.{World}
use Rattle.kernel.specs.Starts.{class_in, next_in, part_or}
use Rattle.kernel.proofs.Behind.{behind}

-- These are the ids of records that pass a test.
pub record ArePicked (rs : List Record) (ids : List ℕ) : Type 0 where
  pub test : ℕ → Bool
  pub picked : ids ≡ filter test (ids_from 1 rs)

-- ---- along the records

place_after : (before : List Record) (r : Record) (rs : List Record) → slice_get (before ++ r ∷ rs) (length before) ≡ Some r
place_after [] r rs = refl
place_after (s ∷ before) r rs = place_after before r rs

record_after : (before : List Record) (r : Record) (rs : List Record) (id : ℕ) → id ≡ suc (length before) → record_at (before ++ r ∷ rs) id ≡ Some r
record_after before r rs id e = ap (record_at (before ++ r ∷ rs)) e ∙ place_after before r rs

-- the parts that pass the test
abbrev parts_passed : (ℕ → Bool) → ℕ → List Record → List Part
parts_passed f id rs = filter (λ (p : Part). f p.id) (parts_from id rs)

either_same : (c : Bool) (o : Option Part) → cond c o o ≡ o
either_same true o = refl
either_same false o = refl

length-one_more : (before : List Record) (r : Record) → length (before ++ r ∷ []) ≡ suc (length before)
length-one_more [] r = refl
length-one_more (s ∷ before) r = ap suc (length-one_more before r)

next_along : (whole : List Record) (f : ℕ → Bool) (last : ℕ) (before rs : List Record) (id : ℕ) → whole ≡ before ++ rs → id ≡ suc (length before) → next_in whole last (filter f (ids_from id rs)) ≡ behind last (parts_passed f id rs)
next_along whole f last before [] id e is = refl
next_along whole f last before (r ∷ rs) id e is =
    let here : record_at whole id ≡ Some r = ap (λ us. record_at us id) e ∙ record_after before r rs id is in
    let later =
    next_along whole f last (before ++ r ∷ []) rs (suc id) (e ∙ sym (append_assoc before (r ∷ []) rs)) (ap suc is ∙ ap suc (sym (length-one_more before r)))
    in
    by (f id) refl r.class (ap class_in here) later
  where
    ids : List ℕ
    ids = filter f (ids_from (suc id) rs)

    kept : f id ≡ true → (class : Option (List ℕ)) → next_in whole last ids ≡ behind last (parts_passed f (suc id) rs)
        → cond (nat_lt last id) (part_or id class (next_in whole last ids)) (next_in whole last ids) ≡ behind last (filter (λ (p : Part). f p.id) (with_class id class (parts_from (suc id) rs)))
    kept passes (Some kind) later = rw passes (ap (λ o. cond (nat_lt last id) (Some (record { id = id; kind = kind })) o) later)
    kept passes None later = either_same (nat_lt last id) (next_in whole last ids) ∙ later

    dropped : f id ≡ false → (class : Option (List ℕ)) → next_in whole last ids ≡ behind last (parts_passed f (suc id) rs) → next_in whole last ids ≡ behind last (filter (λ (p : Part). f p.id) (with_class id class (parts_from (suc id) rs)))
    dropped fails (Some kind) later = rw fails later
    dropped fails None later = later

    by : (t : Bool) → f id ≡ t → (class : Option (List ℕ)) → class_in (record_at whole id) ≡ class → next_in whole last ids ≡ behind last (parts_passed f (suc id) rs)
        → next_in whole last (cond t (id ∷ ids) ids) ≡ behind last (filter (λ (p : Part). f p.id) (with_class id class (parts_from (suc id) rs)))
    by true passes class told later = rw told (kept passes class later)
    by false fails class told later = dropped fails class later

-- ---- which of them pass

other : (m n : ℕ) → m < n → (m == n) ≡ false
other m n l = grind (arith, nat_tests)

another : (m n : ℕ) → n < m → (m == n) ≡ false
another m n l = grind (arith, nat_tests)

smaller_out : {X : Type 0} (f : ℕ → Bool) (n k : ℕ) (xs : List X) → n < k → among n (filter f (ids_from k xs)) ≡ false
smaller_out f n k [] l = refl
smaller_out f n k (x ∷ xs) l = by (f k) (smaller_out f n (suc k) xs (omega (arith, l)))
  where
    by : (t : Bool) → among n (filter f (ids_from (suc k) xs)) ≡ false → among n (cond t (k ∷ filter f (ids_from (suc k) xs)) (filter f (ids_from (suc k) xs))) ≡ false
    by true e = rw (another k n l) e
    by false e = e

among_picked : {X : Type 0} (f : ℕ → Bool) (n k : ℕ) (xs : List X) → k ≤ n → n < k + length xs → among n (filter f (ids_from k xs)) ≡ f n
among_picked f n k [] l m = absurd (omega (arith, l, m))
among_picked f n k (x ∷ xs) l m = by (k == n) refl (λ more. among_picked f n (suc k) xs more (omega (arith, m)))
  where
    later : List ℕ
    later = filter f (ids_from (suc k) xs)

    is_more : (k == n) ≡ false → suc k ≤ n
    is_more t = grind (arith, nat_tests, l)

    first : k ≡ n → (t : Bool) → f k ≡ t → among n (cond t (k ∷ later) later) ≡ f n
    first same true passes = rw (eq-eqb k n same) (sym passes ∙ ap f same)
    first same false fails = smaller_out f n (suc k) xs (omega (arith, same)) ∙ (sym fails ∙ ap f same)

    after : (k == n) ≡ false → among n later ≡ f n → (t : Bool) → among n (cond t (k ∷ later) later) ≡ f n
    after not_it is true = rw not_it is
    after not_it is false = is

    by : (t : Bool) → (k == n) ≡ t → (suc k ≤ n → among n later ≡ f n) → among n (filter f (ids_from k (x ∷ xs))) ≡ f n
    by true t step = first (eqb-true k n t) (f k) refl
    by false t step = after t (step (is_more t)) (f k)

parts_same : (f g : ℕ → Bool) (from : ℕ) (rs : List Record) → ((n : ℕ) → from ≤ n → n < from + length rs → f n ≡ g n) → parts_passed f from rs ≡ parts_passed g from rs
parts_same f g from [] same = refl
parts_same f g from (r ∷ rs) same =
    by r.class (parts_same f g (suc from) rs (λ n l m. same n (omega (arith, l)) (omega (arith, m))))
  where
    here : f from ≡ g from
    here = same from (omega arith) (omega arith)

    by : (class : Option (List ℕ)) → parts_passed f (suc from) rs ≡ parts_passed g (suc from) rs
        → filter (λ (p : Part). f p.id) (with_class from class (parts_from (suc from) rs)) ≡ filter (λ (p : Part). g p.id) (with_class from class (parts_from (suc from) rs))
    by (Some kind) later = rw here (ap (λ ps. cond (g from) (record { id = from; kind = kind } ∷ ps) ps) later)
    by None later = later

-- THE NEXT OF MODULES by their ids is the next of their parts
pub picked_next : (w : World) (ids : List ℕ) (last : ℕ) → ArePicked w.records ids → next_in w.records last ids ≡ behind last (needs_of ids w)
picked_next w ids last h =
    let rs : List Record = w.records in
    ap (next_in rs last) h.picked
    ∙ (next_along rs h.test last [] rs 1 refl refl
    ∙ (ap (behind last) (sym (parts_same (λ n. among n (filter h.test (ids_from 1 rs))) h.test 1 rs (λ n l m. among_picked h.test n 1 rs l m)))
    ∙ ap (λ is. behind last (needs_of is w)) (sym h.picked)))
