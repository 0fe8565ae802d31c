-- Which modules live as others are created and deleted.
use Rattle.std.proofs.Common.{◌≡◌, ◌≢◌, ◌⊎◌, inl, inr, true≢false, eq-or-lt_of_le, ℕ, suc, ◌+◌, ◌≤◌, ◌<◌, ◌==◌, cond, Bool, true, false, not, ◌||◌, ◌&&◌, List, [], ◌∷◌, ◌++◌, refl, sym, ap, ◌∙◌, arith, eqb-true, eq-eqb, length, subst}
use Rattle.std.specs.List.{filter}
use Rattle.model_questions.specs.declared.record.Record.{Record}
use Rattle.run_semantics.specs.Laws.{Each}
use Rattle.run_semantics.specs.Subtree.{among, ids_from}
use Rattle.run_semantics.specs.World.{World, is_live, live_of}
use Rattle.run_semantics.specs.Deleting.{gone}

-- ---- truth values

and_none : (a : Bool) → (a && false) ≡ false
and_none true = refl
and_none false = refl

pub and_both : (a b : Bool) → (a && b) ≡ true → (a ≡ true) × (b ≡ true)
and_both true b e = (refl, e)
and_both false b e = cc

pub and_of : (a b : Bool) → a ≡ true → b ≡ true → (a && b) ≡ true
and_of true b e f = f
and_of false b e f = e

or_neither : (a b : Bool) → a ≡ false → b ≡ false → (a || b) ≡ false
or_neither false b e f = f
or_neither true b e f = cc

not_so : (a : Bool) → not a ≡ true → a ≡ false
not_so true e = cc
not_so false e = refl

so_not : (a : Bool) → a ≡ false → not a ≡ true
so_not true e = cc
so_not false e = refl

-- ---- lists

-- what is among those that pass a test is among all, and passes it
pub among_filter : (k : ℕ) (f : ℕ → Bool) (xs : List ℕ) → among k (filter f xs) ≡ (among k xs && f k)
among_filter k f [] = refl
among_filter k f (x ∷ xs) = by (f x) refl (x == k) refl (among_filter k f xs)
  where
    by : (t : Bool) → f x ≡ t → (s : Bool) → (x == k) ≡ s → among k (filter f xs) ≡ (among k xs && f k) → among k (cond t (x ∷ filter f xs) (filter f xs)) ≡ ((s || among k xs) && f k)
    by true e true s later = ap (λ t. t || among k (filter f xs)) s ∙ sym (ap f (sym (eqb-true x k s)) ∙ e)
    by true e false s later = ap (λ t. t || among k (filter f xs)) s ∙ later
    by false e true s later = let none : f k ≡ false = ap f (sym (eqb-true x k s)) ∙ e in later ∙ (ap (λ t. among k xs && t) none ∙ (and_none (among k xs) ∙ sym none))
    by false e false s later = later

pub among_append : (k : ℕ) (xs ys : List ℕ) → among k (xs ++ ys) ≡ (among k xs || among k ys)
among_append k [] ys = refl
among_append k (x ∷ xs) ys = by (x == k) (among_append k xs ys)
  where
    by : (t : Bool) → among k (xs ++ ys) ≡ (among k xs || among k ys) → (t || among k (xs ++ ys)) ≡ ((t || among k xs) || among k ys)
    by true e = refl
    by false e = e

-- ids of more
pub among_more : (k i : ℕ) (xs ys : List Record) → among k (ids_from i xs) ≡ true → among k (ids_from i (xs ++ ys)) ≡ true
among_more k i [] ys e = cc
among_more k i (x ∷ xs) ys e = by (i == k) (among_more k (suc i) xs ys) e
  where
    by : (t : Bool) → (among k (ids_from (suc i) xs) ≡ true → among k (ids_from (suc i) (xs ++ ys)) ≡ true) → (t || among k (ids_from (suc i) xs)) ≡ true → (t || among k (ids_from (suc i) (xs ++ ys))) ≡ true
    by true later e = refl
    by false later e = later e

-- they are of these records
pub ids_within : (k i : ℕ) (xs : List Record) → among k (ids_from i xs) ≡ true → k < i + length xs
ids_within k i [] e = cc
ids_within k i (x ∷ xs) e = by (i == k) refl (ids_within k (suc i) xs) e
  where
    by : (t : Bool) → (i == k) ≡ t → (among k (ids_from (suc i) xs) ≡ true → k < suc i + length xs) → (t || among k (ids_from (suc i) xs)) ≡ true → k < i + suc (length xs)
    by true t later e = let same = eqb-true i k t in omega (arith, same)
    by false t later e = let l = later e in omega (arith, l)

-- the id of the last of them is there
last_there : (i : ℕ) (xs : List Record) (r : Record) → among (i + length xs) (ids_from i (xs ++ r ∷ [])) ≡ true
last_there i [] r = ap (λ t. t || false) (eq-eqb i (i + 0) (omega arith))
last_there i (x ∷ xs) r = by (i == (i + suc (length xs))) (let same : suc i + length xs ≡ i + suc (length xs) = omega arith in ap (λ k. among k (ids_from (suc i) (xs ++ r ∷ []))) (sym same) ∙ last_there (suc i) xs r)
  where
    by : (t : Bool) → among (i + suc (length xs)) (ids_from (suc i) (xs ++ r ∷ [])) ≡ true → (t || among (i + suc (length xs)) (ids_from (suc i) (xs ++ r ∷ []))) ≡ true
    by true next = refl
    by false next = next

-- an id above all of these is not among them
pub above_none : (k n : ℕ) (xs : List ℕ) → n < k → Each (λ x. x ≤ n) xs → among k xs ≡ false
above_none k n [] l h = refl
above_none k n (x ∷ xs) l h = by (x == k) refl (above_none k n xs l h.1)
  where
    by : (t : Bool) → (x == k) ≡ t → among k xs ≡ false → (t || among k xs) ≡ false
    by true t later = let same = eqb-true x k t in let below = h.0 in absurd (omega (arith, same, l, below))
    by false t later = later

-- what holds of all that are among them
pub each_among : (P : ℕ → Type 0) (xs : List ℕ) → ((k : ℕ) → among k xs ≡ true → P k) → Each P xs
each_among P [] h = tt
each_among P (x ∷ xs) h = (h x (ap (λ t. t || among x xs) (eq-eqb x x refl)), each_among P xs (λ k e. h k (by k (x == k) e)))
  where
    by : (k : ℕ) (t : Bool) → among k xs ≡ true → (t || among k xs) ≡ true
    by k true e = refl
    by k false e = e

-- what holds of each that passes a test
pub each_filter : {X : Type 0} (P Q : X → Type 0) (f : X → Bool) (xs : List X) → ((x : X) → P x → f x ≡ true → Q x) → Each P xs → Each Q (filter f xs)
each_filter P Q f [] h p = tt
each_filter P Q f (x ∷ xs) h p = by (f x) refl (each_filter P Q f xs h p.1)
  where
    by : (t : Bool) → f x ≡ t → Each Q (filter f xs) → Each Q (cond t (x ∷ filter f xs) (filter f xs))
    by true e later = (h x p.0 e, later)
    by false e later = later

-- ---- who lives

pub live_is : (w : World) (k : ℕ) → is_live w k ≡ (among k (ids_from 1 w.records) && not (among k w.dead))
live_is w k = among_filter k (λ id. not (among id w.dead)) (ids_from 1 w.records)

-- one that lives was created
pub live_within : (w : World) (k : ℕ) → is_live w k ≡ true → k ≤ length w.records
live_within w k e = let l = ids_within k 1 w.records (and_both (among k (ids_from 1 w.records)) (not (among k w.dead)) (sym (live_is w k) ∙ e)).0 in omega (arith, l)

-- it lives as others are created
pub live_more : (w v : World) (more : List Record) (k : ℕ) → v.records ≡ w.records ++ more → v.dead ≡ w.dead → is_live w k ≡ true → is_live v k ≡ true
live_more w v more k records dead e =
    let h = and_both (among k (ids_from 1 w.records)) (not (among k w.dead)) (sym (live_is w k) ∙ e) in
    live_is v k
    ∙ and_of (among k (ids_from 1 v.records)) (not (among k v.dead)) (ap (λ (rs : List Record). among k (ids_from 1 rs)) records ∙ among_more k 1 w.records more h.0) (ap (λ ids. not (among k ids)) dead ∙ h.1)

-- the one that is created lives
pub live_last : (w v : World) (r : Record) → v.records ≡ w.records ++ r ∷ [] → v.dead ≡ w.dead → Each (λ k. k ≤ length w.records) w.dead → is_live v (suc (length w.records)) ≡ true
live_last w v r records dead h =
    live_is v (suc (length w.records))
    ∙ and_of (among (suc (length w.records)) (ids_from 1 v.records)) (not (among (suc (length w.records)) v.dead))
    (ap (λ (rs : List Record). among (suc (length w.records)) (ids_from 1 rs)) records ∙ (let same : 1 + length w.records ≡ suc (length w.records) = omega arith in subst (λ k. among k (ids_from 1 (w.records ++ r ∷ [])) ≡ true) same (last_there 1 w.records r)))
    (ap (λ ids. not (among (suc (length w.records)) ids)) dead ∙ so_not _ (above_none (suc (length w.records)) (length w.records) w.dead (omega arith) h))

-- one that is not deleted lives on
pub live_gone : (w : World) (ids : List ℕ) (k : ℕ) → is_live w k ≡ true → among k ids ≡ false → is_live (gone ids w) k ≡ true
live_gone w ids k e n =
    let h = and_both (among k (ids_from 1 w.records)) (not (among k w.dead)) (sym (live_is w k) ∙ e) in
    live_is (gone ids w) k
    ∙ and_of (among k (ids_from 1 w.records)) (not (among k (w.dead ++ ids))) h.0
    (so_not (among k (w.dead ++ ids)) (among_append k w.dead ids ∙ or_neither (among k w.dead) (among k ids) (not_so (among k w.dead) h.1) n))

-- those that pass a test among those that live
pub live_of_filter : (w : World) (f : ℕ → Bool) (k : ℕ) → among k (filter f (live_of w)) ≡ true → is_live w k ≡ true
live_of_filter w f k e = (and_both (among k (live_of w)) (f k) (sym (among_filter k f (live_of w)) ∙ e)).0

pub not_among : (k : ℕ) (ids : List ℕ) → not (among k ids) ≡ true → among k ids ≡ false
not_among k ids e = not_so (among k ids) e

-- ---- who lived

pub ids_there : (k i : ℕ) (xs : List Record) → i ≤ k → k < i + length xs → among k (ids_from i xs) ≡ true
ids_there k i [] l h = absurd (omega (arith, l, h))
ids_there k i (x ∷ xs) l h = by (i == k) refl (λ (n : i < k). ids_there k (suc i) xs (omega (arith, n)) (omega (arith, h)))
  where
    other : (n : i ≢ k) → i < k
    other n = by_cases (eq-or-lt_of_le l)
      where
        by_cases : (i ≡ k) ⊎ (i < k) → i < k
        by_cases (inl e) = absurd (n e)
        by_cases (inr e) = e

    by : (t : Bool) → (i == k) ≡ t → (i < k → among k (ids_from (suc i) xs) ≡ true) → (t || among k (ids_from (suc i) xs)) ≡ true
    by true t later = refl
    by false t later = later (other (λ e. absurd (true≢false (sym (eq-eqb i k e) ∙ t))))

pub ids_above : (k i : ℕ) (xs : List Record) → among k (ids_from i xs) ≡ true → i ≤ k
ids_above k i [] e = cc
ids_above k i (x ∷ xs) e = by (i == k) refl (ids_above k (suc i) xs) e
  where
    by : (t : Bool) → (i == k) ≡ t → (among k (ids_from (suc i) xs) ≡ true → suc i ≤ k) → (t || among k (ids_from (suc i) xs)) ≡ true → i ≤ k
    by true t later e = omega (arith, eqb-true i k t)
    by false t later e = let l = later e in omega (arith, l)

or_none : (a b : Bool) → (a || b) ≡ false → a ≡ false
or_none false b e = refl
or_none true b e = cc

-- one that was created by then and lives when more died lived before
pub lived : (w v : World) (more : List ℕ) (k : ℕ) → v.dead ≡ w.dead ++ more → k ≤ length w.records → is_live v k ≡ true → is_live w k ≡ true
lived w v more k dead l e =
    let h = and_both (among k (ids_from 1 v.records)) (not (among k v.dead)) (sym (live_is v k) ∙ e) in
    let first = ids_above k 1 v.records h.0 in
    let none : (among k w.dead || among k more) ≡ false = sym (among_append k w.dead more) ∙ (ap (among k) (sym dead) ∙ not_so (among k v.dead) h.1) in
    live_is w k ∙ and_of (among k (ids_from 1 w.records)) (not (among k w.dead)) (ids_there k 1 w.records first (omega (arith, l))) (so_not (among k w.dead) (or_none (among k w.dead) (among k more) none))
