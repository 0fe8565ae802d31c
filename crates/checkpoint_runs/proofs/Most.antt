-- At most 64 positions are stored.
use Rattle.std.proofs.Common.{◌≡◌, ◌⊎◌, inl, inr, ⊎_elim, eq-or-lt_of_le, ℕ, zero, suc, ◌+◌, ◌-◌, ◌*◌, ◌^◌, ◌%◌, ◌/◌, ◌≤◌, ◌<◌, ◌==◌, ◌||◌, nat_le, nat_lt, not, Bool, true, false, true≢false, cond, List, [], ◌∷◌, ◌++◌, Option, Some, None, length, length-append, refl, sym, ap, ◌∙◌, arith, subst, if◌then◌else◌}
use Rattle.std.specs.List.{filter}
use Rattle.std.proofs.Math.Nat.{mul-le-mul_right, mul-lt-mul_of_pos_right, lt_of_mul-lt-mul_right, mul-mod_left, mul_assoc, suc-mul, mod-add-div'}
use Rattle.std.proofs.lemmas.Bool.Decides.{leb_tells, nat_tests}
use Rattle.std.proofs.lemmas.List.Elements.{filter-append}
use Rattle.module_api.specs.Behaviour.{Behaviour}
use Rattle.model_questions.specs.Answers.{Answers}
use Rattle.run_semantics.specs.Run.{Ran, run_to, is_fault}
use Rattle.checkpoints.specs.Stored.{begun, doubled, is_multiple, left, most_stored, stays, with_count, Timeline}
use Rattle.checkpoint_runs.specs.Positions.{behind, cut, numbers_from, passed, last_from, last_count, first_behind, start_of, is_left, positions_after, positions_begun, HasStoredAnew, CanBeStored, begins, is_cut, is_done, is_given_up}
use Rattle.checkpoint_runs.specs.declared.phases.Stood.{Stood}
use Rattle.checkpoint_runs.specs.declared.phases.Stood.TheVariants as stood
use Rattle.checkpoint_runs.proofs.Counting.{below_both, below_filter, below_more, left_behind, Below}
use Rattle.checkpoint_runs.proofs.Whole.{run_within}

-- ---- what a list has

abbrev Has : ℕ → List ℕ → Type 0
Has n [] = ⊥
Has n (x ∷ xs) = (n ≡ x) ⊎ Has n xs

has_before : (n : ℕ) (xs ys : List ℕ) → Has n xs → Has n (xs ++ ys)
has_before n [] ys h = absurd h
has_before n (x ∷ xs) ys (inl e) = inl e
has_before n (x ∷ xs) ys (inr h) = inr (has_before n xs ys h)

has_last : (n : ℕ) (xs : List ℕ) → Has n (xs ++ n ∷ [])
has_last n [] = inl refl
has_last n (x ∷ xs) = inr (has_last n xs)

has_filter : (test : ℕ → Bool) (n : ℕ) (xs : List ℕ) → test n ≡ true → Has n xs → Has n (filter test xs)
has_filter test n [] t h = absurd h
has_filter test n (x ∷ xs) t (inl e) = rw (ap test (sym e) ∙ t) (inl e)
has_filter test n (x ∷ xs) t (inr h) = by (test x) (has_filter test n xs t h)
  where
    by : (c : Bool) → Has n (filter test xs) → Has n (cond c (x ∷ filter test xs) (filter test xs))
    by true g = inr g
    by false g = g

of_filter : (test : ℕ → Bool) (n : ℕ) (xs : List ℕ) → Has n (filter test xs) → Has n xs
of_filter test n [] h = absurd h
of_filter test n (x ∷ xs) h = by (test x) (of_filter test n xs) h
  where
    by : (c : Bool) → (Has n (filter test xs) → Has n xs) → Has n (cond c (x ∷ filter test xs) (filter test xs)) → (n ≡ x) ⊎ Has n xs
    by true rest (inl e) = inl e
    by true rest (inr g) = inr (rest g)
    by false rest g = inr (rest g)

below_has : (n k : ℕ) (xs : List ℕ) → Below n xs → Has k xs → k < n
below_has n k [] b h = absurd h
below_has n k (x ∷ xs) b (inl e) = let l = b.0 in omega (arith, e, l)
below_has n k (x ∷ xs) b (inr h) = below_has n k xs b.1 h

fewer : (test : ℕ → Bool) (xs : List ℕ) → length (filter test xs) ≤ length xs
fewer test [] = omega arith
fewer test (x ∷ xs) = by (test x) (fewer test xs)
  where
    by : (c : Bool) → length (filter test xs) ≤ length xs → length (cond c (x ∷ filter test xs) (filter test xs)) ≤ suc (length xs)
    by true h = omega (arith, h)
    by false h = omega (arith, h)

-- ---- they rise, from this number on

abbrev Rises : ℕ → List ℕ → Type 0
Rises a [] = Unit {0}
Rises a (x ∷ xs) = (a ≤ x) × Rises (suc x) xs

rises_from : (a b : ℕ) (xs : List ℕ) → a ≤ b → Rises b xs → Rises a xs
rises_from a b [] l h = tt
rises_from a b (x ∷ xs) l h = (let k = h.0 in omega (arith, l, k), h.1)

rises_filter : (test : ℕ → Bool) (a : ℕ) (xs : List ℕ) → Rises a xs → Rises a (filter test xs)
rises_filter test a [] h = tt
rises_filter test a (x ∷ xs) h = by (test x) (rises_filter test (suc x) xs h.1)
  where
    by : (c : Bool) → Rises (suc x) (filter test xs) → Rises a (cond c (x ∷ filter test xs) (filter test xs))
    by true rest = (h.0, rest)
    by false rest = rises_from a (suc x) (filter test xs) (let l = h.0 in omega (arith, l)) rest

rises_more : (a n : ℕ) (xs : List ℕ) → a ≤ n → Below n xs → Rises a xs → Rises a (xs ++ n ∷ [])
rises_more a n [] l b h = (l, tt)
rises_more a n (x ∷ xs) l b h = (h.0, rises_more (suc x) n xs (let k = b.0 in omega (arith, k)) b.1 h.1)

rises_has : (a n : ℕ) (xs : List ℕ) → Rises a xs → Has n xs → a ≤ n
rises_has a n [] r h = absurd h
rises_has a n (x ∷ xs) r (inl e) = let l = r.0 in omega (arith, e, l)
rises_has a n (x ∷ xs) r (inr h) = let l = r.0 in let k = rises_has (suc x) n xs r.1 h in omega (arith, l, k)

-- ---- multiples

less_or_not : (m n : ℕ) → (m < n) ⊎ (n ≤ m)
less_or_not m n = ⊎_elim (λ (h : (nat_lt m n ≡ true) × (m < n)). inl h.1) (λ (h : (nat_lt m n ≡ false) × (n < suc m)). inr (let l = h.1 in omega (arith, l))) (leb_tells (suc m) n)

-- Where each multiple from one of them on and below a number is there, there are no fewer than
-- those.
all_there : (i : ℕ) → 1 ≤ i → (k c a : ℕ) (xs : List ℕ) → Rises a xs → ((j : ℕ) → k ≤ j → j * i < c → Has (j * i) xs) → c ≤ (k + length xs) * i
all_there i some k c a [] r h =
    let z : k + 0 ≡ k = omega arith in
    rw z (⊎_elim (λ (l : k * i < c). absurd (h k (omega arith) l)) (λ (g : c ≤ k * i). g) (less_or_not (k * i) c))
all_there i some k c a (x ∷ xs) r h =
    ⊎_elim
    (λ (l : k * i < c). subst (λ n. c ≤ n * i) e (all_there i some (suc k) c (suc x) xs r.1 (rest l)))
    (λ (g : c ≤ k * i). let m = mul-le-mul_right {m = k} {n = k + suc (length xs)} i (omega arith) in omega (arith, g, m))
    (less_or_not (k * i) c)
  where
    e : suc k + length xs ≡ k + suc (length xs)
    e = omega arith

    later : (j : ℕ) → k * i < j * i → Has (k * i) (x ∷ xs) → Has (j * i) (x ∷ xs) → Has (j * i) xs
    later j l g (inr f) = f
    later j l (inl g) (inl f) = absurd (omega (arith, l, g, f))
    later j l (inr g) (inl f) = let m = rises_has (suc x) (k * i) xs r.1 g in absurd (omega (arith, l, m, f))

    rest : k * i < c → (j : ℕ) → suc k ≤ j → j * i < c → Has (j * i) xs
    rest l j less within = later j (mul-lt-mul_of_pos_right {m = k} {n = j} {k = i} (omega (arith, less)) (omega (arith, some))) (h k (omega arith) l) (h j (omega (arith, less)) within)

abbrev Multiples : ℕ → List ℕ → Type 0
Multiples w [] = Unit {0}
Multiples w (x ∷ xs) = ((q : ℕ) × (x ≡ q * w)) × Multiples w xs

-- Of multiples that rise and are below a number there are no more than there are such multiples.
few_there : (w c k a : ℕ) (xs : List ℕ) → Rises a xs → Below c xs → Multiples w xs → k * w < a + w → k * w < c + w → (k + length xs) * w < c + w
few_there w c k a [] r b m l h = let z : k + 0 ≡ k = omega arith in rw z h
few_there w c k a (x ∷ xs) r b m l h =
    let q : ℕ = m.0.0 in
    let e : x ≡ q * w = m.0.1 in
    let next : suc q * w ≡ q * w + w = suc-mul q w in
    let from : a ≤ x = r.0 in
    let to : x < c = b.0 in
    let more : k * w < suc q * w = omega (arith, l, e, next, from) in
    let less : k < suc q = lt_of_mul-lt-mul_right w more in
    let rest = few_there w c (suc q) (suc x) xs r.1 b.1 m.1 (omega (arith, e, next)) (omega (arith, e, next, to)) in
    let fits = mul-le-mul_right {m = k + suc (length xs)} {n = suc q + length xs} w (omega (arith, less)) in
    omega (arith, rest, fits)

multiple_is : (w n : ℕ) → is_multiple w n ≡ true → (q : ℕ) × (n ≡ q * w)
multiple_is w n h =
    let z : n % w ≡ 0 = none (n % w) h in
    let whole = mod-add-div' n w in
    (n / w, omega (arith, z, whole))
  where
    none : (r : ℕ) → (r == 0) ≡ true → r ≡ 0
    none r e = grind (arith, nat_tests)

is_multiple_is : (w q : ℕ) → is_multiple w (q * w) ≡ true
is_multiple_is w q = ap (λ r. r == 0) (mul-mod_left q w)

or_left : (s t : Bool) → s ≡ true → (s || t) ≡ true
or_left true t e = refl
or_left false t e = cc

or_first : (s t : Bool) → t ≡ false → (s || t) ≡ true → s ≡ true
or_first true t e h = refl
or_first false t e h = sym e ∙ h

differs : (m n : ℕ) → m < n → (m == n) ≡ false
differs m n h = grind (arith, nat_tests)

stays_below : (w n x : ℕ) → x < n → stays w n x ≡ true → is_multiple w x ≡ true
stays_below w n x l h = or_first (is_multiple w x) (x == n) (differs x n l) h

multiples_stay : (w n : ℕ) (xs : List ℕ) → Below n xs → Multiples w (filter (stays w n) xs)
multiples_stay w n [] b = tt
multiples_stay w n (x ∷ xs) b = by (stays w n x) refl (multiples_stay w n xs b.1)
  where
    by : (c : Bool) → stays w n x ≡ c → Multiples w (filter (stays w n) xs) → Multiples w (cond c (x ∷ filter (stays w n) xs) (filter (stays w n) xs))
    by true e rest = (multiple_is w x (stays_below w n x b.0 e), rest)
    by false e rest = rest

-- ---- each multiple up to the newest is stored

-- They rise, below this number of events, and are no more than 64. All multiples of the interval
-- below it are stored, unless that can't be doubled.
record IsDense (n : ℕ) (t : Timeline ℕ) : Type 0 where
  first : 1 ≤ t.first
  some : 1 ≤ t.interval
  rising : Rises 0 t.stored
  below : Below n t.stored
  dense : (2 ^ 62 ≤ t.interval) ⊎ ((j : ℕ) → j * t.interval < n → Has (j * t.interval) t.stored)
  few : length t.stored ≤ 64

-- twice the interval, but at most 2^62
wide_some : (i : ℕ) → 1 ≤ i → 1 ≤ doubled i
wide_some i h = grind (arith, nat_tests)

wide_is : (i : ℕ) → (2 ^ 62 ≤ doubled i) ⊎ ((doubled i ≡ 2 * i) × (i < 2 ^ 62))
wide_is i = ⊎_elim (λ (l : 2 * i < 2 ^ 62). inr (omega (arith, l), omega (arith, l))) (λ (g : 2 ^ 62 ≤ 2 * i). inl (omega (arith, g))) (less_or_not (2 * i) (2 ^ 62))

wide_holds : (i n : ℕ) → n < 2 ^ 64 → (2 ^ 62 ≤ i) ⊎ (n ≤ 64 * i) → n ≤ 63 * doubled i
wide_holds i n l (inl h) = omega (arith, l, h)
wide_holds i n l (inr h) = omega (arith, l, h)

twice : (j i : ℕ) → (j * 2) * i ≡ j * (2 * i)
twice j i = mul_assoc j 2 i

not_many : (k : ℕ) → nat_lt most_stored k ≡ false → k ≤ 64
not_many k e = grind (arith, nat_tests)

-- one more than there were has each multiple up to it, if they had those before it
all_has : (i n : ℕ) (xs : List ℕ) → ((j : ℕ) → j * i < n → Has (j * i) xs) → (j : ℕ) → j * i < suc n → Has (j * i) (xs ++ n ∷ [])
all_has i n xs d j l =
    ⊎_elim
    (λ (e : j * i ≡ n). subst (λ k. Has k (xs ++ n ∷ [])) (sym e) (has_last n xs))
    (λ (b : j * i < n). has_before (j * i) xs (n ∷ []) (d j b))
    (eq-or-lt_of_le (omega (arith, l)))

-- those that stay of one too many: at most every second multiple, and the newest
few_stay : (i n : ℕ) (xs : List ℕ) → 1 ≤ i → n < 2 ^ 64 → Rises 0 xs → Below n xs → length xs ≤ 64 → (2 ^ 62 ≤ i) ⊎ ((j : ℕ) → j * i < n → Has (j * i) xs)
    → length (filter (stays (doubled i) n) (xs ++ n ∷ [])) ≤ 64
few_stay i n xs some less rises below few d =
    let w : ℕ = doubled i in
    let wide : 1 ≤ w = wide_some i some in
    let two = ap length (filter-append (stays w n) xs (n ∷ [])) ∙ length-append (filter (stays w n) xs) (filter (stays w n) (n ∷ [])) in
    let one = fewer (stays w n) (n ∷ []) in
    let holds : n ≤ 63 * w = wide_holds i n less (⊎_elim inl (λ (h : (j : ℕ) → j * i < n → Has (j * i) xs). inr (within (all_there i some 0 n 0 xs rises (λ j _ l. h j l)))) d) in
    let before : (0 + length (filter (stays w n) xs)) * w < n + w =
    few_there w n 0 0 (filter (stays w n) xs) (rises_filter (stays w n) 0 xs rises) (below_filter n (stays w n) xs below) (multiples_stay w n xs below) (omega (arith, wide)) (omega (arith, wide)) in
    let fits : length (filter (stays w n) xs) < 64 = lt_of_mul-lt-mul_right w (counted (length (filter (stays w n) xs)) w holds before) in
    omega (arith, two, one, fits)
  where
    within : n ≤ (0 + length xs) * i → n ≤ 64 * i
    within l = let m = mul-le-mul_right {m = 0 + length xs} {n = 64} i (omega (arith, few)) in omega (arith, l, m)

    counted : (k w : ℕ) → n ≤ 63 * w → (0 + k) * w < n + w → k * w < 64 * w
    counted k w l h = let z : 0 + k ≡ k = omega arith in let g : k * w < n + w = subst (λ j. j * w < n + w) z h in omega (arith, l, g)

-- of all multiples those of twice the interval stay
dense_stays : (i n : ℕ) (xs : List ℕ) → (2 ^ 62 ≤ i) ⊎ ((j : ℕ) → j * i < n → Has (j * i) xs)
    → (2 ^ 62 ≤ doubled i) ⊎ ((j : ℕ) → j * doubled i < suc n → Has (j * doubled i) (filter (stays (doubled i) n) (xs ++ n ∷ [])))
dense_stays i n xs d = ⊎_elim inl (λ (h : (doubled i ≡ 2 * i) × (i < 2 ^ 62)). inr (by h.0 h.1 d)) (wide_is i)
  where
    by : doubled i ≡ 2 * i → i < 2 ^ 62 → (2 ^ 62 ≤ i) ⊎ ((j : ℕ) → j * i < n → Has (j * i) xs) → (j : ℕ) → j * doubled i < suc n → Has (j * doubled i) (filter (stays (doubled i) n) (xs ++ n ∷ []))
    by e l (inl g) j less = absurd (omega (arith, l, g))
    by e l (inr g) j less =
        let same : (j * 2) * i ≡ j * doubled i = twice j i ∙ ap (λ k. j * k) (sym e) in
        let stay : stays (doubled i) n (j * doubled i) ≡ true = or_left (is_multiple (doubled i) (j * doubled i)) (j * doubled i == n) (is_multiple_is (doubled i) j) in
        has_filter (stays (doubled i) n) (j * doubled i) (xs ++ n ∷ []) stay (subst (λ k. Has k (xs ++ n ∷ [])) same (all_has i n xs g (j * 2) (omega (arith, same, less))))

-- ONE MORE IS TAKEN
taken_dense : (n : ℕ) (t : Timeline ℕ) → n < 2 ^ 64 → IsDense n t → IsDense (suc n) (with_count n t)
taken_dense n t less h = by (nat_lt most_stored (length (t.stored ++ n ∷ []))) refl
  where
    rises : Rises 0 (t.stored ++ n ∷ [])
    rises = rises_more 0 n t.stored (omega arith) h.below h.rising

    below : Below (suc n) (t.stored ++ n ∷ [])
    below = below_both (suc n) t.stored (n ∷ []) (below_more n (suc n) t.stored (omega arith) h.below) (omega arith, tt)

    by : (c : Bool) → nat_lt most_stored (length (t.stored ++ n ∷ [])) ≡ c
        → IsDense (suc n) (if c then record { first = t.first; interval = doubled t.interval; stored = filter (λ k. stays (doubled t.interval) n k) (t.stored ++ n ∷ []) } else record { first = t.first; interval = t.interval; stored = t.stored ++ n ∷ [] })
    by true e = record {
      first = h.first;
      some = wide_some t.interval h.some;
      rising = rises_filter (stays (doubled t.interval) n) 0 (t.stored ++ n ∷ []) rises;
      below = below_filter (suc n) (stays (doubled t.interval) n) (t.stored ++ n ∷ []) below;
      dense = dense_stays t.interval n t.stored h.dense;
      few = few_stay t.interval n t.stored h.some less h.rising h.below h.few h.dense;
    }
    by false e = record {
      first = h.first;
      some = h.some;
      rising = rises;
      below = below;
      dense = ⊎_elim inl (λ (d : (j : ℕ) → j * t.interval < n → Has (j * t.interval) t.stored). inr (all_has t.interval n t.stored d)) h.dense;
      few = not_many (length (t.stored ++ n ∷ [])) e;
    }

-- after one event
passed_dense : (n : ℕ) (t : Timeline ℕ) → n < 2 ^ 64 → IsDense n t → IsDense (suc n) (passed is_multiple t n)
passed_dense n t less h = by (is_multiple t.interval n) refl
  where
    none : is_multiple t.interval n ≡ false → ((j : ℕ) → j * t.interval < n → Has (j * t.interval) t.stored) → (j : ℕ) → j * t.interval < suc n → Has (j * t.interval) t.stored
    none e d j l =
        ⊎_elim
        (λ (q : j * t.interval ≡ n). absurd (true≢false (sym (is_multiple_is t.interval j) ∙ ap (is_multiple t.interval) q ∙ e)))
        (λ (b : j * t.interval < n). d j b)
        (eq-or-lt_of_le (omega (arith, l)))

    by : (c : Bool) → is_multiple t.interval n ≡ c → IsDense (suc n) (if c then with_count n t else t)
    by true e = taken_dense n t less h
    by false e = record {
      first = h.first;
      some = h.some;
      rising = h.rising;
      below = below_more n (suc n) t.stored (omega arith) h.below;
      dense = ⊎_elim inl (λ (d : (j : ℕ) → j * t.interval < n → Has (j * t.interval) t.stored). inr (none e d)) h.dense;
      few = h.few;
    }

behind_dense : (first k : ℕ) (t : Timeline ℕ) → first + k ≤ 2 ^ 64 → IsDense first t → IsDense (first + k) (behind is_multiple t (numbers_from first k))
behind_dense first zero t l h = let z : first ≡ first + 0 = omega arith in subst (λ n. IsDense n t) z h
behind_dense first (suc k) t l h =
    let e : suc first + k ≡ first + suc k = omega arith in
    subst (λ n. IsDense n (behind is_multiple (passed is_multiple t first) (numbers_from (suc first) k))) e
    (behind_dense (suc first) k (passed is_multiple t first) (omega (arith, l)) (passed_dense first t (omega (arith, l)) h))

-- what is stored, up to some number of events
record IsEven (t : Timeline ℕ) : Type 0 where
  count : ℕ
  within : count ≤ 2 ^ 64
  dense : IsDense count t

-- after events of which the last is this one
left_even : (first m : ℕ) (f : Bool) (t : Timeline ℕ) → first ≤ 2 ^ 64 → m < 2 ^ 64 → IsDense first t → IsEven (behind (is_left m f) t (numbers_from first (suc m - first)))
left_even first m f t l less h = ⊎_elim (λ (g : m < first). none g) (λ (g : first ≤ m). some g) (less_or_not m first)
  where
    none : m < first → IsEven (behind (is_left m f) t (numbers_from first (suc m - first)))
    none g =
        let z : suc m - first ≡ 0 = omega (arith, g) in
        rw z (record { count = first; within = l; dense = h })

    by : (before : Timeline ℕ) → IsDense m before → (f : Bool) → IsEven (if not f then with_count m before else before)
    by before d true = record { count = m; within = omega (arith, less); dense = d }
    by before d false = record { count = suc m; within = omega (arith, less); dense = taken_dense m before less d }

    some : first ≤ m → IsEven (behind (is_left m f) t (numbers_from first (suc m - first)))
    some g =
        let k : suc m - first ≡ suc (m - first) = omega (arith, g) in
        let e : m ≡ first + (m - first) = omega (arith, g) in
        let d : IsDense m (behind is_multiple t (numbers_from first (m - first))) = subst (λ n. IsDense n (behind is_multiple t (numbers_from first (m - first)))) (sym e) (behind_dense first (m - first) t (omega (arith, g, less)) h) in
        rw k (subst IsEven (sym (left_behind first (m - first) m f t e)) (by (behind is_multiple t (numbers_from first (m - first))) d f))

-- ---- a cut

begun_dense : (i : ℕ) → 1 ≤ i → IsDense 0 (begun i)
begun_dense i h = record {
  first = h;
  some = h;
  rising = tt;
  below = tt;
  dense = inr (λ j l. absurd (omega (arith, l)));
  few = omega arith;
}

none_even : (i : ℕ) → 1 ≤ i → IsEven (begun i)
none_even i h = record { count = 0; within = omega arith; dense = begun_dense i h }

upto_is : (x v : ℕ) → nat_le x v ≡ true → x ≤ v
upto_is x v e = grind (arith, nat_tests)

is_upto : (x v : ℕ) → x ≤ v → nat_le x v ≡ true
is_upto x v l = grind (arith, nat_tests)

below_cut : (k n v : ℕ) (xs : List ℕ) → (n ≤ k) ⊎ (suc v ≤ k) → Below n xs → Below k (filter (λ x. nat_le x v) xs)
below_cut k n v [] l b = tt
below_cut k n v (x ∷ xs) l b = by (nat_le x v) refl (below_cut k n v xs l b.1)
  where
    less : (n ≤ k) ⊎ (suc v ≤ k) → x ≤ v → x < k
    less (inl g) h = let m = b.0 in omega (arith, g, m)
    less (inr g) h = omega (arith, g, h)

    by : (c : Bool) → nat_le x v ≡ c → Below k (filter (λ x. nat_le x v) xs) → Below k (cond c (x ∷ filter (λ x. nat_le x v) xs) (filter (λ x. nat_le x v) xs))
    by true e rest = (less l (upto_is x v e), rest)
    by false e rest = rest

-- those up to an event
cut_dense : (k n v : ℕ) (t : Timeline ℕ) → IsDense n t → k ≤ n → k ≤ suc v → (n ≤ k) ⊎ (suc v ≤ k) → IsDense k (record { first = t.first; interval = t.interval; stored = filter (λ x. nat_le x v) t.stored })
cut_dense k n v t h to upto all = record {
  first = h.first;
  some = h.some;
  rising = rises_filter (λ x. nat_le x v) 0 t.stored h.rising;
  below = below_cut k n v t.stored all h.below;
  dense = ⊎_elim inl (λ (d : (j : ℕ) → j * t.interval < n → Has (j * t.interval) t.stored). inr (λ j l. has_filter (λ x. nat_le x v) (j * t.interval) t.stored (is_upto (j * t.interval) v (omega (arith, l, upto))) (d j (omega (arith, l, to))))) h.dense;
  few = let l = fewer (λ x. nat_le x v) t.stored in let g = h.few in omega (arith, l, g);
}

left_some : (k : ℕ) (t : Timeline ℕ) (xs : List ℕ) (s : ℕ) → Has s xs → IsDense k (record { first = t.first; interval = t.interval; stored = xs }) → IsDense k (left t xs)
left_some k t [] s has h = absurd has
left_some k t (x ∷ xs) s has h = h

left_few : (k : ℕ) (t : Timeline ℕ) (xs : List ℕ) → k ≤ 2 ^ 64 → IsDense k (record { first = t.first; interval = t.interval; stored = xs }) → IsEven (left t xs)
left_few k t [] l h = none_even t.first h.first
left_few k t (x ∷ xs) l h = record { count = k; within = l; dense = h }

cut_even : (event : Option ℕ) (t : Timeline ℕ) → IsEven t → IsEven (cut event t)
cut_even None t h = none_even t.first h.dense.first
cut_even (Some v) t h =
    let n : ℕ = h.count in
    let l : n ≤ 2 ^ 64 = h.within in
    ⊎_elim
    (λ (g : suc v < n). left_few (suc v) t (filter (λ x. nat_le x v) t.stored) (omega (arith, l, g)) (cut_dense (suc v) n v t h.dense (omega (arith, g)) (omega arith) (inr (omega arith))))
    (λ (g : n ≤ suc v). left_few n t (filter (λ x. nat_le x v) t.stored) l (cut_dense n n v t h.dense (omega arith) g (inl (omega arith))))
    (less_or_not (suc v) n)

-- ---- where a run begins

last_from_has : (x : ℕ) (xs : List ℕ) → Has (last_from x xs) (x ∷ xs)
last_from_has x [] = inl refl
last_from_has x (y ∷ ys) = inr (last_from_has y ys)

last_has : (xs : List ℕ) (s : ℕ) → last_count xs ≡ Some s → Has s xs
last_has [] s e = cc
last_has (x ∷ xs) s e = let same : last_from x xs ≡ s = cc in subst (λ k. Has k (x ∷ xs)) same (last_from_has x xs)

record Begins (o : Option ℕ) (t : Timeline ℕ) : Type 0 where
  within : first_behind o ≤ 2 ^ 64
  dense : IsDense (first_behind o) (cut o t)

begins_dense : (limit : ℕ) (t : Timeline ℕ) (o : Option ℕ) → start_of limit t.stored ≡ o → IsEven t → Begins o t
begins_dense limit t None e h = record { within = omega arith; dense = begun_dense t.first h.dense.first }
begins_dense limit t (Some s) e h =
    let has : Has s t.stored = of_filter (λ x. nat_le x limit) s t.stored (last_has (filter (λ x. nat_le x limit) t.stored) s e) in
    let less : s < h.count = below_has h.count s t.stored h.dense.below has in
    let l = h.within in
    record {
      within = omega (arith, less, l);
      dense = left_some (suc s) t (filter (λ x. nat_le x s) t.stored) s (has_filter (λ x. nat_le x s) s t.stored (is_upto s s (omega arith)) has)
          (cut_dense (suc s) h.count s t h.dense (omega (arith, less)) (omega arith) (inr (omega arith)));
    }

-- ---- whatever came before

-- a run that is done
done_even : (b : Behaviour) (m : Answers) (limit : ℕ) (t : Timeline ℕ) → limit < 2 ^ 64 → IsEven t → IsEven (positions_after b m limit None t)
done_even b m limit t less h =
    let ran : Ran = run_to b m limit in
    let few : ran.world.count < 2 ^ 64 = omega (arith, run_within b m limit, less) in
    let start = begins_dense limit t (start_of limit t.stored) refl h in
    left_even (first_behind (start_of limit t.stored)) ran.world.count (is_fault ran.outcome) (cut (start_of limit t.stored) t) start.within few start.dense

-- of one that was given up so many events
begun_even : (limit k more : ℕ) (t : Timeline ℕ) → k < 2 ^ 64 → more ≤ suc k - first_behind (start_of limit t.stored) → IsEven t → IsEven (positions_begun t (start_of limit t.stored) more)
begun_even limit k more t less few h =
    let first : ℕ = first_behind (start_of limit t.stored) in
    let start = begins_dense limit t (start_of limit t.stored) refl h in
    let within : first ≤ 2 ^ 64 = start.within in
    let upto : first + more ≤ 2 ^ 64 = omega (arith, within, less, few) in
    record { count = first + more; within = upto; dense = behind_dense first more (cut (start_of limit t.stored) t) upto start.dense }

given_up_even : (b : Behaviour) (m : Answers) (limit : ℕ) (at : Stood) (t new : Timeline ℕ) → limit < 2 ^ 64 → HasStoredAnew b m limit t at new → IsEven t → IsEven new
given_up_even b m limit stood.Before t new less h e = subst IsEven (sym h.1) (cut_even None t e)
given_up_even b m limit (stood.After k) t new less h e =
    let few = h.limited in
    subst IsEven (sym h.positions) (begun_even limit k (suc k - first_behind (start_of limit t.stored)) t (omega (arith, few, less)) (omega arith) e)
given_up_even b m limit (stood.Untaken k) t new less h e =
    let few = h.limited in
    subst IsEven (sym h.positions) (begun_even limit k (k - first_behind (start_of limit t.stored)) t (omega (arith, few, less)) (omega arith) e)
given_up_even b m limit stood.Ending t new less h e = subst IsEven (sym h) (done_even b m limit t less e)

even : (t : Timeline ℕ) → CanBeStored t → IsEven t
even t (begins i h) = none_even i h
even t (is_cut event u h) = cut_even event u (even u h)
even t (is_done b m limit u less h) = done_even b m limit u less (even u h)
even t (is_given_up b m limit at u new less stored h) = given_up_even b m limit at u new less stored (even u h)

pub few_stored : (t : Timeline ℕ) → CanBeStored t → length t.stored ≤ most_stored
few_stored t h = (even t h).dense.few
