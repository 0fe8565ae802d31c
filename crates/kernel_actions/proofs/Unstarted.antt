-- The modules that live and were not started, from one id to another.
use Rattle.std.proofs.Common.{◌≡◌, ℕ, zero, suc, ◌+◌, ◌-◌, ◌≤◌, ◌<◌, ◌&&◌, not, nat_le, min, cond, Bool, true, false, List, [], ◌∷◌, drop, length, ◌++◌, append_assoc, append-nil, refl, sym, ap, ◌∙◌, arith}
use Rattle.std.proofs.Math.ListN.{drop_of_length-le}
use Rattle.std.proofs.lemmas.Bool.{le-leb, leb-true, leb-false, true≢false}
use Rattle.std.specs.List.{filter}
use Rattle.model_questions.specs.declared.record.Record.{Record}
use Rattle.run_semantics.specs.Subtree.{among, ids_from}

abbrev is_within : ℕ → ℕ → ℕ → Bool
is_within first last id = nat_le first id && nat_le id last

-- those of these ids that are from one to another, of the modules that were not started and are not
-- dead
abbrev pub left_of : ℕ → ℕ → List ℕ → List ℕ → List ℕ → List ℕ
left_of first last dead started ids = filter (is_within first last) (filter (λ id. not (among id started)) (filter (λ id. not (among id dead)) ids))

yes : (f : ℕ → Bool) (x : ℕ) (xs : List ℕ) → f x ≡ true → filter f (x ∷ xs) ≡ x ∷ filter f xs
yes f x xs e = ap (λ t. cond t (x ∷ filter f xs) (filter f xs)) e

no : (f : ℕ → Bool) (x : ℕ) (xs : List ℕ) → f x ≡ false → filter f (x ∷ xs) ≡ filter f xs
no f x xs e = ap (λ t. cond t (x ∷ filter f xs) (filter f xs)) e

-- what passes one test after another, where the first one of it does not pass the last
left_out : (f g h : ℕ → Bool) (x : ℕ) (xs : List ℕ) → h x ≡ false → filter h (filter g (filter f (x ∷ xs))) ≡ filter h (filter g (filter f xs))
left_out f g h x xs e = by (f x) (g x) refl refl
  where
    by : (t u : Bool) → f x ≡ t → g x ≡ u → filter h (filter g (filter f (x ∷ xs))) ≡ filter h (filter g (filter f xs))
    by true true p q = ap (λ ys. filter h (filter g ys)) (yes f x xs p) ∙ (ap (filter h) (yes g x (filter f xs) q) ∙ no h x (filter g (filter f xs)) e)
    by true false p q = ap (λ ys. filter h (filter g ys)) (yes f x xs p) ∙ ap (filter h) (no g x (filter f xs) q)
    by false u p q = ap (λ ys. filter h (filter g ys)) (no f x xs p)

-- or not one of the others
left_out_by : (f g h : ℕ → Bool) (x : ℕ) (xs : List ℕ) → (f x && g x) ≡ false → filter h (filter g (filter f (x ∷ xs))) ≡ filter h (filter g (filter f xs))
left_out_by f g h x xs e = by (f x) refl e
  where
    by : (t : Bool) → f x ≡ t → (t && g x) ≡ false → filter h (filter g (filter f (x ∷ xs))) ≡ filter h (filter g (filter f xs))
    by true p q = ap (λ ys. filter h (filter g ys)) (yes f x xs p) ∙ ap (filter h) (no g x (filter f xs) q)
    by false p q = ap (λ ys. filter h (filter g ys)) (no f x xs p)

taken_in : (f g h : ℕ → Bool) (x : ℕ) (xs : List ℕ) → (f x && g x) ≡ true → h x ≡ true → filter h (filter g (filter f (x ∷ xs))) ≡ x ∷ filter h (filter g (filter f xs))
taken_in f g h x xs e k = by (f x) refl e
  where
    by : (t : Bool) → f x ≡ t → (t && g x) ≡ true → filter h (filter g (filter f (x ∷ xs))) ≡ x ∷ filter h (filter g (filter f xs))
    by true p q = ap (λ ys. filter h (filter g ys)) (yes f x xs p) ∙ (ap (filter h) (yes g x (filter f xs) q) ∙ yes h x (filter g (filter f xs)) k)
    by false p q = absurd (true≢false (sym q))

-- ---- which ids are within

inside : (first last id : ℕ) → first ≤ id → id ≤ last → is_within first last id ≡ true
inside first last id l m = ap (λ t. t && nat_le id last) (le-leb first id l) ∙ le-leb id last m

below : (first last id : ℕ) → id < first → is_within first last id ≡ false
below first last id l = by (nat_le first id) refl
  where
    by : (t : Bool) → nat_le first id ≡ t → (t && nat_le id last) ≡ false
    by true e = let h = leb-true first id e in absurd (omega (arith, h, l))
    by false e = refl

above : (first last id : ℕ) → last < id → is_within first last id ≡ false
above first last id l = by (nat_le first id) (nat_le id last) refl
  where
    by : (t u : Bool) → nat_le id last ≡ u → (t && u) ≡ false
    by t true e = let h = leb-true id last e in absurd (omega (arith, h, l))
    by true false e = refl
    by false false e = refl

-- ---- the ids of records, from one on

pub ids_at : (i id : ℕ) (rs : List Record) → i < length rs → ids_from id (drop i rs) ≡ id ∷ ids_from (suc id) (drop (suc i) rs)
ids_at i id [] l = absurd (omega (arith, l))
ids_at zero id (r ∷ rs) l = refl
ids_at (suc i) id (r ∷ rs) l = ids_at i id rs (omega (arith, l))

skipped : (first last : ℕ) (dead started : List ℕ) (k id : ℕ) (rs : List Record) → id + k ≤ first → left_of first last dead started (ids_from (id + k) (drop k rs)) ≡ left_of first last dead started (ids_from id rs)
skipped first last dead started zero id rs l = let same : id + 0 ≡ id = omega arith in ap (λ n. left_of first last dead started (ids_from n rs)) same
skipped first last dead started (suc k) id [] l = refl
skipped first last dead started (suc k) id (r ∷ rs) l =
    let next : id + suc k ≡ suc id + k = omega arith in
    ap (λ n. left_of first last dead started (ids_from n (drop k rs))) next
    ∙ (skipped first last dead started k (suc id) rs (omega (arith, l))
    ∙ sym (left_out (λ n. not (among n dead)) (λ n. not (among n started)) (is_within first last) id (ids_from (suc id) rs) (below first last id (omega (arith, l)))))

-- the first ones can be passed over
pub left_begins : (first last : ℕ) (dead started : List ℕ) (k : ℕ) (rs : List Record) → k ≡ first - 1 → left_of first last dead started (ids_from (suc k) (drop k rs)) ≡ left_of first last dead started (ids_from 1 rs)
left_begins first last dead started zero rs e = refl
left_begins first last dead started (suc k) rs e =
    let same : suc (suc k) ≡ 1 + suc k = omega arith in
    ap (λ n. left_of first last dead started (ids_from n (drop (suc k) rs))) same ∙ skipped first last dead started (suc k) 1 rs (omega (arith, e))

none_above : (first last : ℕ) (dead started : List ℕ) (id : ℕ) (rs : List Record) → last < id → left_of first last dead started (ids_from id rs) ≡ []
none_above first last dead started id [] l = refl
none_above first last dead started id (r ∷ rs) l =
    left_out (λ n. not (among n dead)) (λ n. not (among n started)) (is_within first last) id (ids_from (suc id) rs) (above first last id l)
    ∙ none_above first last dead started (suc id) rs (omega (arith, l))

-- behind the last one there are none
left_ends : (first last : ℕ) (dead started : List ℕ) (i : ℕ) (rs : List Record) → min (length rs) last ≤ i → left_of first last dead started (ids_from (suc i) (drop i rs)) ≡ []
left_ends first last dead started i rs l = by (nat_le (length rs) i) refl
  where
    by : (t : Bool) → nat_le (length rs) i ≡ t → left_of first last dead started (ids_from (suc i) (drop i rs)) ≡ []
    by true e = ap (λ (xs : List Record). left_of first last dead started (ids_from (suc i) xs)) (drop_of_length-le rs (leb-true (length rs) i e))
    by false e = let h = leb-false (length rs) i e in none_above first last dead started (suc i) (drop i rs) (omega (arith, h, l))

-- the one that is looked at
left_with : (first last : ℕ) (dead started : List ℕ) (i : ℕ) (rs : List Record) (left : Bool) → i < length rs → first ≤ i + 1 → i + 1 ≤ last → left ≡ (not (among (i + 1) dead) && not (among (i + 1) started)) → left ≡ true
    → left_of first last dead started (ids_from (suc i) (drop i rs)) ≡ (i + 1) ∷ left_of first last dead started (ids_from (suc (i + 1)) (drop (i + 1) rs))
left_with first last dead started i rs left l low high test so =
    let next : suc i ≡ i + 1 = omega arith in
    ap (left_of first last dead started) (ids_at i (suc i) rs l)
    ∙ (ap (λ n. left_of first last dead started (n ∷ ids_from (suc n) (drop n rs))) next
    ∙ taken_in (λ n. not (among n dead)) (λ n. not (among n started)) (is_within first last) (i + 1) (ids_from (suc (i + 1)) (drop (i + 1) rs)) (sym test ∙ so) (inside first last (i + 1) low high))

left_without : (first last : ℕ) (dead started : List ℕ) (i : ℕ) (rs : List Record) (left : Bool) → i < length rs → left ≡ (not (among (i + 1) dead) && not (among (i + 1) started)) → left ≡ false
    → left_of first last dead started (ids_from (suc i) (drop i rs)) ≡ left_of first last dead started (ids_from (suc (i + 1)) (drop (i + 1) rs))
left_without first last dead started i rs left l test out =
    let next : suc i ≡ i + 1 = omega arith in
    ap (left_of first last dead started) (ids_at i (suc i) rs l)
    ∙ (ap (λ n. left_of first last dead started (n ∷ ids_from (suc n) (drop n rs))) next
    ∙ left_out_by (λ n. not (among n dead)) (λ n. not (among n started)) (is_within first last) (i + 1) (ids_from (suc (i + 1)) (drop (i + 1) rs)) (sym test ∙ out))

-- ---- in a loop

-- the module that is looked at is one of them
pub found_with : (first last : ℕ) (dead started : List ℕ) (i : ℕ) (rs : List Record) (left : Bool) (found now whole : List ℕ) → i < length rs → first ≤ i + 1 → i + 1 ≤ last → left ≡ (not (among (i + 1) dead) && not (among (i + 1) started)) → left ≡ true → now ≡ found ++ (i + 1) ∷ []
    → found ++ left_of first last dead started (ids_from (suc i) (drop i rs)) ≡ whole → now ++ left_of first last dead started (ids_from (suc (i + 1)) (drop (i + 1) rs)) ≡ whole
found_with first last dead started i rs left found now whole l low high test so more done =
    let rest : List ℕ = left_of first last dead started (ids_from (suc (i + 1)) (drop (i + 1) rs)) in
    ap (λ xs. xs ++ rest) more
    ∙ (append_assoc found ((i + 1) ∷ []) rest ∙ (ap (λ xs. found ++ xs) (sym (left_with first last dead started i rs left l low high test so)) ∙ done))

-- it is none
pub found_without : (first last : ℕ) (dead started : List ℕ) (i : ℕ) (rs : List Record) (left : Bool) (found now whole : List ℕ) → i < length rs → left ≡ (not (among (i + 1) dead) && not (among (i + 1) started)) → left ≡ false → now ≡ found
    → found ++ left_of first last dead started (ids_from (suc i) (drop i rs)) ≡ whole → now ++ left_of first last dead started (ids_from (suc (i + 1)) (drop (i + 1) rs)) ≡ whole
found_without first last dead started i rs left found now whole l test out same done =
    ap (λ xs. xs ++ left_of first last dead started (ids_from (suc (i + 1)) (drop (i + 1) rs))) same
    ∙ (ap (λ xs. found ++ xs) (sym (left_without first last dead started i rs left l test out)) ∙ done)

-- all were found
pub found_all : (first last : ℕ) (dead started : List ℕ) (i : ℕ) (rs : List Record) (found whole : List ℕ) → min (length rs) last ≤ i → found ++ left_of first last dead started (ids_from (suc i) (drop i rs)) ≡ whole → found ≡ whole
found_all first last dead started i rs found whole past done = sym (append-nil found) ∙ (ap (λ xs. found ++ xs) (sym (left_ends first last dead started i rs past)) ∙ done)
