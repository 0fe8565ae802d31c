-- Which positions a run leaves.
use Rattle.std.proofs.Common.{◌≡◌, ⊎_elim, eq-or-lt_of_le, ℕ, zero, suc, ◌+◌, ◌-◌, ◌≤◌, ◌<◌, ◌==◌, ◌&&◌, ◌||◌, nat_le, nat_lt, not, Bool, true, false, cond, List, [], ◌∷◌, ◌++◌, Option, Some, None, option_map, length, Result, Ok, Err, IfOk, OnErr, OnOk, refl, sym, ap, ◌∙◌, arith, subst, if◌then◌else◌}
use Rattle.std.specs.List.{filter}
use Rattle.std.proofs.Math.Nat.{zero-mod}
use Rattle.std.proofs.lemmas.Bool.Decides.{nat_tests}
use Rattle.std.proofs.lemmas.List.Elements.{filter-append}
use Rattle.checkpoints.specs.Stored.{begun, counts_in, counts_of, doubled, ends_at, is_multiple, left, most_stored, stays, thinned, up_to, last_of, last_from as last_position_from, with_count, with_position, AreBelow, IsBegun, Timeline}
use Rattle.checkpoints.proofs.Keeping.{counts_stay}
use Rattle.kernel_actions.specs.declared.position.Position.{Position}
use Rattle.kernel_actions.specs.Positions.{position_of}
use Rattle.module_api.specs.Behaviour.{Behaviour}
use Rattle.model_questions.specs.Answers.{Answers}
use Rattle.run_semantics.specs.declared.outcome.Outcome.{Outcome}
use Rattle.run_semantics.specs.Run.{Ran, run_to, is_fault}
use Rattle.run_semantics.specs.World.{World}
use Rattle.checkpoint_runs.specs.Kept.{kept_up_to, taken_if}
use Rattle.checkpoint_runs.specs.declared.phases.Stood.{Stood}
use Rattle.checkpoint_runs.specs.declared.phases.Stood.TheVariants as stood
use Rattle.checkpoint_runs.specs.Positions.{behind, cut, numbers_from, passed, last_from, last_count, up_to_event, first_behind, starts_within, start_of, is_left, lasting, with_last, positions_left, positions_begun, positions_onwards, positions_after, CanGoOn, HasBegun, HasLeft, HasStoredAnew}

-- what holds anyway holds where it is asked for
pub on_err : {A E P : Type 0} (r : Result A E) → P → OnErr r P
on_err (Ok x) p = tt
on_err (Err e) p = p

pub on_ok : {A E P : Type 0} (r : Result A E) → P → OnOk r P
on_ok (Ok x) p = p
on_ok (Err e) p = tt

pub on_ok_map : {A E P Q : Type 0} (r : Result A E) → (P → Q) → OnOk r P → OnOk r Q
on_ok_map (Ok x) f p = f p
on_ok_map (Err e) f p = tt

-- two equations, where there is an answer
pub if_ok_from : {A E R : Type 0} (r : Result A E) (f : A → R) (x y : R) → x ≡ y → IfOk r (λ a. f a ≡ y) → IfOk r (λ a. x ≡ f a)
if_ok_from (Ok a) f x y e h = e ∙ sym h
if_ok_from (Err error) f x y e h = tt

-- ---- numbers in a row

numbers_more : (first k : ℕ) → numbers_from first (suc k) ≡ numbers_from first k ++ (first + k) ∷ []
numbers_more first zero = let e : first ≡ first + 0 = omega arith in ap (λ n. n ∷ []) e
numbers_more first (suc k) =
    let e : suc first + k ≡ first + suc k = omega arith in
    ap (λ ns. first ∷ ns) (numbers_more (suc first) k ∙ ap (λ n. numbers_from (suc first) k ++ n ∷ []) e)

behind_more : (due : ℕ → ℕ → Bool) (t : Timeline ℕ) (ns : List ℕ) (n : ℕ) → behind due t (ns ++ n ∷ []) ≡ passed due (behind due t ns) n
behind_more due t [] n = refl
behind_more due t (k ∷ ns) n = behind_more due (passed due t k) ns n

-- one event more
pub behind_next : (due : ℕ → ℕ → Bool) (t : Timeline ℕ) (first k : ℕ) → behind due t (numbers_from first (suc k)) ≡ passed due (behind due t (numbers_from first k)) (first + k)
behind_next due t first k = ap (behind due t) (numbers_more first k) ∙ behind_more due t (numbers_from first k) (first + k)

-- ---- counts below

abbrev pub Below : ℕ → List ℕ → Type 0
Below n [] = Unit {0}
Below n (x ∷ xs) = (x < n) × Below n xs

pub to_counts : (n : ℕ) (ps : List Position) → AreBelow n ps → Below n (counts_of ps)
to_counts n [] h = tt
to_counts n (p ∷ ps) h = (h.0, to_counts n ps h.1)

pub of_counts : (n : ℕ) (ps : List Position) → Below n (counts_of ps) → AreBelow n ps
of_counts n [] h = tt
of_counts n (p ∷ ps) h = (h.0, of_counts n ps h.1)

pub below_both : (n : ℕ) (xs ys : List ℕ) → Below n xs → Below n ys → Below n (xs ++ ys)
below_both n [] ys h g = g
below_both n (x ∷ xs) ys h g = (h.0, below_both n xs ys h.1 g)

pub below_more : (n k : ℕ) (xs : List ℕ) → n ≤ k → Below n xs → Below k xs
below_more n k [] l h = tt
below_more n k (x ∷ xs) l h = (omega (arith, l, h.0), below_more n k xs l h.1)

pub below_filter : (n : ℕ) (test : ℕ → Bool) (xs : List ℕ) → Below n xs → Below n (filter test xs)
below_filter n test [] h = tt
below_filter n test (x ∷ xs) h = by (test x) (below_filter n test xs h.1)
  where
    by : (t : Bool) → Below n (filter test xs) → Below n (cond t (x ∷ filter test xs) (filter test xs))
    by true rest = (h.0, rest)
    by false rest = rest

pub below_numbers : (n first k : ℕ) → first + k ≤ n → Below n (numbers_from first k)
below_numbers n first zero h = tt
below_numbers n first (suc k) h = (omega (arith, h), below_numbers n (suc first) k (omega (arith, h)))

below_thinned : (n newest : ℕ) (t : Timeline ℕ) → Below n t.stored → Below n (thinned (λ k. k) newest t).stored
below_thinned n newest t h = by (nat_lt most_stored (length t.stored))
  where
    by : (test : Bool) → Below n (Timeline.stored (if test then record { first = t.first; interval = doubled t.interval; stored = filter (λ k. stays (doubled t.interval) newest k) t.stored } else t))
    by true = below_filter n (λ k. stays (doubled t.interval) newest k) t.stored h
    by false = h

below_taken : (n k : ℕ) (t : Timeline ℕ) → k < n → Below n t.stored → Below n (with_count k t).stored
below_taken n k t l h = below_thinned n k (record { first = t.first; interval = t.interval; stored = t.stored ++ k ∷ [] }) (below_both n t.stored (k ∷ []) h (l, tt))

below_passed : (due : ℕ → ℕ → Bool) (n k : ℕ) (t : Timeline ℕ) → k < n → Below n t.stored → Below n (passed due t k).stored
below_passed due n k t l h = by (due t.interval k)
  where
    by : (test : Bool) → Below n (Timeline.stored (if test then with_count k t else t))
    by true = below_taken n k t l h
    by false = h

pub below_behind : (due : ℕ → ℕ → Bool) (n : ℕ) (t : Timeline ℕ) (ns : List ℕ) → Below n t.stored → Below n ns → Below n (behind due t ns).stored
below_behind due n t [] h g = h
below_behind due n t (k ∷ ns) h g = below_behind due n (passed due t k) ns (below_passed due n k t g.0 h) g.1

-- ---- the last event

other : (m n : ℕ) → m < n → (m == n) ≡ false
other m n h = grind (arith, nat_tests)

equal : (n : ℕ) → (n == n) ≡ true
equal n = grind (arith, nat_tests)

or_true : (s t : Bool) → t ≡ true → s || t ≡ true
or_true true t e = refl
or_true false t e = e

-- before its last event a run takes those of the multiples
passed_before : (m : ℕ) (f : Bool) (t : Timeline ℕ) (n : ℕ) → n < m → passed (is_left m f) t n ≡ passed is_multiple t n
passed_before m f t n h = ap (λ c. if (if c then not f else is_multiple t.interval n) then with_count n t else t) (other n m h)

before_last : (m : ℕ) (f : Bool) (t : Timeline ℕ) (first k : ℕ) → first + k ≤ m → behind (is_left m f) t (numbers_from first k) ≡ behind is_multiple t (numbers_from first k)
before_last m f t first zero h = refl
before_last m f t first (suc k) h =
    before_last m f (passed (is_left m f) t first) (suc first) k (omega (arith, h))
    ∙ ap (λ u. behind is_multiple u (numbers_from (suc first) k)) (passed_before m f t first (omega (arith, h)))

-- after its last one it takes one, unless that ended in a fault
passed_last : (m : ℕ) (f : Bool) (t : Timeline ℕ) → passed (is_left m f) t m ≡ (if not f then with_count m t else t)
passed_last m f t = ap (λ c. if (if c then not f else is_multiple t.interval m) then with_count m t else t) (equal m)

-- of events of which the last is this one
pub left_behind : (first k m : ℕ) (f : Bool) (t : Timeline ℕ) → m ≡ first + k
    → behind (is_left m f) t (numbers_from first (suc k)) ≡ (if not f then with_count m (behind is_multiple t (numbers_from first k)) else behind is_multiple t (numbers_from first k))
left_behind first k m f t e =
    behind_next (is_left m f) t first k
    ∙ ap (λ n. passed (is_left m f) (behind (is_left m f) t (numbers_from first k)) n) (sym e)
    ∙ ap (λ u. passed (is_left m f) u m) (before_last m f t first k (omega (arith, e)))
    ∙ passed_last m f (behind is_multiple t (numbers_from first k))

ends_more : (n : ℕ) (ns : List ℕ) → ends_at n (ns ++ n ∷ []) ≡ true
ends_more n [] = equal n
ends_more n (k ∷ []) = equal n
ends_more n (k ∷ l ∷ ns) = ends_more n (l ∷ ns)

-- the one just taken is the last
ends_taken : (n : ℕ) (t : Timeline ℕ) → ends_at n (with_count n t).stored ≡ true
ends_taken n t = by (nat_lt most_stored (length (t.stored ++ n ∷ [])))
  where
    wide : ℕ
    wide = doubled t.interval

    stay : ℕ → Bool
    stay k = stays wide n k

    one : filter stay (n ∷ []) ≡ n ∷ []
    one = ap (λ c. cond c (n ∷ []) []) (or_true (is_multiple wide n) (n == n) (equal n))

    by : (test : Bool) → ends_at n (Timeline.stored (if test then record { first = t.first; interval = wide; stored = filter stay (t.stored ++ n ∷ []) } else record { first = t.first; interval = t.interval; stored = t.stored ++ n ∷ [] })) ≡ true
    by true = ap (ends_at n) (filter-append stay t.stored (n ∷ []) ∙ ap (λ ns. filter stay t.stored ++ ns) one) ∙ ends_more n (filter stay t.stored)
    by false = ends_more n t.stored

pub ends_below : (n : ℕ) (ns : List ℕ) → Below n ns → ends_at n ns ≡ false
ends_below n [] h = refl
ends_below n (k ∷ []) h = other k n h.0
ends_below n (k ∷ l ∷ ns) h = ends_below n (l ∷ ns) h.1

less_is : (m n : ℕ) → m < n → nat_lt m n ≡ true
less_is m n h = grind (arith, nat_tests)

less_not : (n : ℕ) → nat_lt n n ≡ false
less_not n = grind (arith, nat_tests)

not_true : (f : Bool) → (f ≡ true → ⊥) → f ≡ false
not_true true h = absurd (h refl)
not_true false h = refl

-- it takes one more where that is owed: after an event where it went on, and where none is taken
abbrev paid : ℕ → Bool → ℕ → Timeline ℕ → Timeline ℕ
paid from f m t = if not f && (nat_lt from m && not (ends_at m t.stored)) then with_count m t else t

-- where none is taken after an event, one is owed there
paid_last : (from m : ℕ) (t : Timeline ℕ) → from < m → Below m t.stored → with_count m t ≡ paid from false m (passed is_multiple t m)
paid_last from m t l h = by (is_multiple t.interval m)
  where
    behind_it : nat_lt from m ≡ true
    behind_it = less_is from m l

    by : (test : Bool) → with_count m t ≡ paid from false m (if test then with_count m t else t)
    by true = sym (ap (λ c. if (c && not (ends_at m (with_count m t).stored)) then with_count m (with_count m t) else with_count m t) behind_it
        ∙ ap (λ c. if not c then with_count m (with_count m t) else with_count m t) (ends_taken m t))
    by false = sym (ap (λ c. if (c && not (ends_at m t.stored)) then with_count m t else t) behind_it ∙ ap (λ c. if not c then with_count m t else t) (ends_below m t.stored h))

abbrev without_fault : Bool → ℕ → ℕ
without_fault true k = k
without_fault false k = suc k

lasting_is : (f : Bool) (from k m : ℕ) → m ≡ suc from + k → lasting f m - from ≡ without_fault f k
lasting_is true from k m e = omega (arith, e)
lasting_is false from k m e = omega (arith, e)

pub stored_below : (from k m : ℕ) (t : Timeline ℕ) → suc from + k ≤ m → Below (suc from) t.stored → Below m (behind is_multiple t (numbers_from (suc from) k)).stored
stored_below from k m t l h = below_behind is_multiple m t (numbers_from (suc from) k) (below_more (suc from) m t.stored (omega (arith, l)) h) (below_numbers m (suc from) k l)

left_after : (from k m : ℕ) (f : Bool) (t : Timeline ℕ) → m ≡ suc from + k → Below (suc from) t.stored
    → behind (is_left m f) t (numbers_from (suc from) (m - from)) ≡ paid from f m (behind is_multiple t (numbers_from (suc from) (lasting f m - from)))
left_after from k m f t e h =
    let d : m - from ≡ suc k = omega (arith, e) in
    ap (λ n. behind (is_left m f) t (numbers_from (suc from) n)) d ∙ left_behind (suc from) k m f t e
    ∙ by f
    ∙ ap (λ n. paid from f m (behind is_multiple t (numbers_from (suc from) n))) (sym (lasting_is f from k m e))
  where
    before : Timeline ℕ
    before = behind is_multiple t (numbers_from (suc from) k)

    by : (f : Bool) → (if not f then with_count m before else before) ≡ paid from f m (behind is_multiple t (numbers_from (suc from) (without_fault f k)))
    by true = refl
    by false =
        paid_last from m before (omega (arith, e)) (stored_below from k m t (omega (arith, e)) h)
        ∙ ap (λ n. paid from false m (passed is_multiple before n)) e
        ∙ ap (paid from false m) (sym (behind_next is_multiple t (suc from) k))

left_at : (m : ℕ) (f : Bool) (t : Timeline ℕ) → f ≡ false → behind (is_left m f) t (numbers_from (suc m) (m - m)) ≡ paid m f m (behind is_multiple t (numbers_from (suc m) (lasting f m - m)))
left_at m f t e = let z : m - m ≡ 0 = omega arith in rw e (rw (z, less_not m) refl)

-- WHAT A RUN LEAVES after where it went on: those of the multiples up to its last event that did
-- not end in a fault, and the last one, where it is owed
left_is : (from m : ℕ) (f : Bool) (t : Timeline ℕ) → from ≤ m → (f ≡ true → from < m) → Below (suc from) t.stored
    → behind (is_left m f) t (numbers_from (suc from) (m - from)) ≡ paid from f m (behind is_multiple t (numbers_from (suc from) (lasting f m - from)))
left_is from m f t h g below =
    ⊎_elim
    (λ (e : from ≡ m). subst (λ k. behind (is_left m f) t (numbers_from (suc k) (m - k)) ≡ paid k f m (behind is_multiple t (numbers_from (suc k) (lasting f m - k)))) (sym e)
    (left_at m f t (not_true f (λ t. let l = g t in omega (arith, l, e)))))
    (λ (l : from < m). left_after from (m - suc from) m f t (omega (arith, l)) below)
    (eq-or-lt_of_le h)

paid_equal : (m : ℕ) (f : Bool) (t : Timeline ℕ) → ends_at m t.stored ≡ true → paid m f m t ≡ with_last m f t
paid_equal m true t e = refl
paid_equal m false t e = ap (λ c. if (c && not (ends_at m t.stored)) then with_count m t else t) (less_not m) ∙ sym (ap (λ c. if not c then with_count m t else t) e)

paid_less : (from m : ℕ) (f : Bool) (t : Timeline ℕ) → from < m → paid from f m t ≡ with_last m f t
paid_less from m f t l = ap (λ c. if not f && (c && not (ends_at m t.stored)) then with_count m t else t) (less_is from m l)

none_since : (m : ℕ) (f : Bool) (t : Timeline ℕ) → f ≡ false → t ≡ behind is_multiple t (numbers_from (suc m) (lasting f m - m))
none_since m f t e = let z : m - m ≡ 0 = omega arith in rw e (rw z refl)

paid_is : (from m : ℕ) (f : Bool) (t : Timeline ℕ) → from ≤ m → (f ≡ true → from < m) → ends_at from t.stored ≡ true
    → paid from f m (behind is_multiple t (numbers_from (suc from) (lasting f m - from))) ≡ with_last m f (behind is_multiple t (numbers_from (suc from) (lasting f m - from)))
paid_is from m f t h g ends =
    ⊎_elim
    (λ (e : from ≡ m). subst (λ k. paid k f m (behind is_multiple t (numbers_from (suc k) (lasting f m - k))) ≡ with_last m f (behind is_multiple t (numbers_from (suc k) (lasting f m - k)))) (sym e)
    (paid_equal m f (behind is_multiple t (numbers_from (suc m) (lasting f m - m)))
    (subst (λ (u : Timeline ℕ). ends_at m u.stored ≡ true) (none_since m f t (not_true f (λ t. let l = g t in omega (arith, l, e)))) (subst (λ k. ends_at k t.stored ≡ true) e ends))))
    (λ (l : from < m). paid_less from m f (behind is_multiple t (numbers_from (suc from) (lasting f m - from))) l)
    (eq-or-lt_of_le h)

-- where one is stored where it went on
pub left_onwards : (from m : ℕ) (f : Bool) (t : Timeline ℕ) → from ≤ m → (f ≡ true → from < m) → Below (suc from) t.stored → ends_at from t.stored ≡ true
    → behind (is_left m f) t (numbers_from (suc from) (m - from)) ≡ positions_onwards t from m f
left_onwards from m f t h g below ends = left_is from m f t h g below ∙ paid_is from m f t h g ends

-- where the last event has none, none was taken there
pub passed_not : (m : ℕ) (t : Timeline ℕ) → ends_at m (passed is_multiple t m).stored ≡ false → passed is_multiple t m ≡ t
passed_not m t = by (is_multiple t.interval m)
  where
    true_false : true ≡ false → ⊥
    true_false e = cc

    by : (test : Bool) → ends_at m (Timeline.stored (if test then with_count m t else t)) ≡ false → (if test then with_count m t else t) ≡ t
    by true e = absurd (true_false (sym (ends_taken m t) ∙ e))
    by false e = refl

-- ---- from setup

zero_left : (i m : ℕ) (f : Bool) → (f ≡ true → 0 < m) → is_left m f i 0 ≡ true
zero_left i zero f g = rw (not_true f (λ t. let l = g t in omega (arith, l))) refl
zero_left i (suc m) f g = rw (zero-mod i) (rw (other 0 (suc m) (omega arith)) refl)

-- with the position of event zero
pub setup_left : (i m : ℕ) (f : Bool) → (f ≡ true → 0 < m) → behind (is_left m f) (with_count 0 (begun i)) (numbers_from 1 (m - 0)) ≡ behind (is_left m f) (begun i) (numbers_from 0 (suc m - 0))
setup_left i m f g =
    let a : suc m ≡ suc m - 0 = omega arith in
    let c : m - 0 ≡ m = omega arith in
    ap (λ n. behind (is_left m f) (with_count 0 (begun i)) (numbers_from 1 n)) c
    ∙ ap (λ d. behind (is_left m f) (if d then with_count 0 (begun i) else begun i) (numbers_from 1 m)) (sym (zero_left i m f g))
    ∙ ap (λ n. behind (is_left m f) (begun i) (numbers_from 0 n)) a

pub setup_begins : (i more : ℕ) → behind is_multiple (with_count 0 (begun i)) (numbers_from 1 more) ≡ behind is_multiple (begun i) (numbers_from 0 (suc more))
setup_begins i more = ap (λ n. behind is_multiple (if n == 0 then with_count 0 (begun i) else begun i) (numbers_from 1 more)) (sym (zero-mod i))

-- of a fault in event zero
fault_leaves : (i : ℕ) → positions_left (begun i) None 0 true ≡ begun i
fault_leaves i = refl

-- ---- positions and their counts

counts_more : (ps qs : List Position) → counts_of (ps ++ qs) ≡ counts_of ps ++ counts_of qs
counts_more [] qs = refl
counts_more (p ∷ ps) qs = ap (λ ns. p.count ∷ ns) (counts_more ps qs)

counts_length : (ps : List Position) → length (counts_of ps) ≡ length ps
counts_length [] = refl
counts_length (p ∷ ps) = ap suc (counts_length ps)

counts_thinned : (newest : ℕ) (t : Timeline Position) → counts_in (thinned (λ (p : Position). p.count) newest t) ≡ thinned (λ k. k) newest (counts_in t)
counts_thinned newest t =
    by (nat_lt most_stored (length t.stored))
    ∙ ap (λ n. if nat_lt most_stored n then record { first = t.first; interval = doubled t.interval; stored = filter (λ k. stays (doubled t.interval) newest k) (counts_of t.stored) } else counts_in t) (sym (counts_length t.stored))
  where
    by : (test : Bool) → counts_in (if test then record { first = t.first; interval = doubled t.interval; stored = filter (λ (p : Position). stays (doubled t.interval) newest p.count) t.stored } else t)
        ≡ (if test then record { first = t.first; interval = doubled t.interval; stored = filter (λ k. stays (doubled t.interval) newest k) (counts_of t.stored) } else counts_in t)
    by true = ap (λ (ns : List ℕ). record { first = t.first; interval = doubled t.interval; stored = ns }) (sym (counts_stay (λ k. stays (doubled t.interval) newest k) t.stored))
    by false = refl

counts_taken : (p : Position) (t : Timeline Position) → counts_in (with_position p t) ≡ with_count p.count (counts_in t)
counts_taken p t =
    counts_thinned p.count (record { first = t.first; interval = t.interval; stored = t.stored ++ p ∷ [] })
    ∙ ap (λ (ns : List ℕ). thinned (λ k. k) p.count (record { first = t.first; interval = t.interval; stored = ns })) (counts_more t.stored (p ∷ []))

-- one more, where it is due
pub one_stored : (due : Bool) (p : Position) (old new : Timeline Position) → new ≡ taken_if due p old → counts_in new ≡ (if due then with_count p.count (counts_in old) else counts_in old)
one_stored due p old new e = ap counts_in e ∙ by due
  where
    by : (due : Bool) → counts_in (taken_if due p old) ≡ (if due then with_count p.count (counts_in old) else counts_in old)
    by true = counts_taken p old
    by false = refl

counts_up_to : (v : ℕ) (ps : List Position) → counts_of (up_to v ps) ≡ filter (λ n. nat_le n v) (counts_of ps)
counts_up_to v [] = refl
counts_up_to v (p ∷ ps) = by (nat_le p.count v) (counts_up_to v ps)
  where
    by : (t : Bool) → counts_of (up_to v ps) ≡ filter (λ n. nat_le n v) (counts_of ps)
        → counts_of (cond t (p ∷ up_to v ps) (up_to v ps)) ≡ cond t (p.count ∷ filter (λ n. nat_le n v) (counts_of ps)) (filter (λ n. nat_le n v) (counts_of ps))
    by true e = ap (λ ns. p.count ∷ ns) e
    by false e = e

counts_left : (t : Timeline Position) (ps : List Position) → counts_in (left t ps) ≡ left (counts_in t) (counts_of ps)
counts_left t [] = refl
counts_left t (p ∷ ps) = refl

pub kept_counts : (event : Option ℕ) (t : Timeline Position) → counts_in (kept_up_to event t) ≡ cut event (counts_in t)
kept_counts None t = refl
kept_counts (Some v) t = counts_left t (up_to v t.stored) ∙ ap (left (counts_in t)) (counts_up_to v t.stored)

pub left_stored : {A : Type 0} (t : Timeline A) (xs : List A) → (left t xs).stored ≡ xs
left_stored t [] = refl
left_stored t (x ∷ xs) = refl

-- a run that finds nothing stored begins with setup
pub begun_start : (limit : ℕ) (t : Timeline Position) → IsBegun t → None ≡ start_of limit (counts_of t.stored)
begun_start limit t none = sym (ap (λ (u : Timeline Position). start_of limit (counts_of u.stored)) none)

pub begun_is : {A : Type 0} (t : Timeline A) (i : ℕ) → t ≡ begun i → IsBegun t
begun_is {A = A} t i e = e ∙ ap begun (sym (ap (λ (u : Timeline A). u.first) e))

last_counts : (p : Position) (ps : List Position) → last_from p.count (counts_of ps) ≡ (last_position_from p ps).count
last_counts p [] = refl
last_counts p (q ∷ qs) = last_counts q qs

pub last_count_is : (ps : List Position) → last_count (counts_of ps) ≡ option_map (λ (p : Position). p.count) (last_of ps)
last_count_is [] = refl
last_count_is (p ∷ ps) = ap Some (last_counts p ps)

-- where a run begins
pub start_is : (limit : ℕ) (ps : List Position) → start_of limit (counts_of ps) ≡ option_map (λ (p : Position). p.count) (last_of (up_to limit ps))
start_is limit ps = ap last_count (sym (counts_up_to limit ps)) ∙ last_count_is (up_to limit ps)

-- ---- of smaller counts

up_to_is : (n v : ℕ) → nat_le n v ≡ true → n ≤ v
up_to_is n v h = grind (arith, nat_tests)

pub below_up_to : (v n : ℕ) (ps : List Position) → v < n → AreBelow n (up_to v ps)
below_up_to v n [] l = tt
below_up_to v n (p ∷ ps) l = by (nat_le p.count v) refl (below_up_to v n ps l)
  where
    by : (t : Bool) → nat_le p.count v ≡ t → AreBelow n (up_to v ps) → AreBelow n (cond t (p ∷ up_to v ps) (up_to v ps))
    by true e rest = (let k = up_to_is p.count v e in omega (arith, k, l), rest)
    by false e rest = rest

below_last_from : (n : ℕ) (p : Position) (ps : List Position) → p.count < n → AreBelow n ps → (last_position_from p ps).count < n
below_last_from n p [] l h = l
below_last_from n p (q ∷ qs) l h = below_last_from n q qs h.0 h.1

below_last : (n : ℕ) (ps : List Position) (p : Position) → AreBelow n ps → last_of ps ≡ Some p → p.count < n
below_last n [] p h e = cc
below_last n (q ∷ qs) p h e =
    let same : last_position_from q qs ≡ p = cc in
    let l = below_last_from n q qs h.0 h.1 in
    subst (λ (r : Position). r.count < n) same l

pub last_within : (limit : ℕ) (ps : List Position) (p : Position) → last_of (up_to limit ps) ≡ Some p → p.count ≤ limit
last_within limit ps p e =
    let l = below_last (suc limit) (up_to limit ps) p (below_up_to limit (suc limit) ps (omega arith)) e in
    omega (arith, l)

-- a run begins up to its limit
below_up_to_limit : (limit : ℕ) (ns : List ℕ) → Below (suc limit) (filter (λ n. nat_le n limit) ns)
below_up_to_limit limit [] = tt
below_up_to_limit limit (k ∷ ks) = by (nat_le k limit) refl (below_up_to_limit limit ks)
  where
    by : (t : Bool) → nat_le k limit ≡ t → Below (suc limit) (filter (λ n. nat_le n limit) ks) → Below (suc limit) (cond t (k ∷ filter (λ n. nat_le n limit) ks) (filter (λ n. nat_le n limit) ks))
    by true e rest = (let l = up_to_is k limit e in omega (arith, l), rest)
    by false e rest = rest

last_from_below : (n k : ℕ) (ks : List ℕ) → k < n → Below n ks → last_from k ks < n
last_from_below n k [] l h = l
last_from_below n k (j ∷ js) l h = last_from_below n j js h.0 h.1

last_below_limit : (n : ℕ) (ns : List ℕ) (s : ℕ) → Below n ns → last_count ns ≡ Some s → s < n
last_below_limit n [] s h e = cc
last_below_limit n (k ∷ ks) s h e =
    let same : last_from k ks ≡ s = cc in
    subst (λ j. j < n) same (last_from_below n k ks h.0 h.1)

pub start_within : (limit : ℕ) (counts : List ℕ) (s : ℕ) → start_of limit counts ≡ Some s → s ≤ limit
start_within limit counts s e =
    let l = last_below_limit (suc limit) (filter (λ n. nat_le n limit) counts) s (below_up_to_limit limit counts) e in
    omega (arith, l)

-- ---- it is the last one there

last_more : (n s : ℕ) (xs : List ℕ) → last_count xs ≡ Some s → last_count (n ∷ xs) ≡ Some s
last_more n s [] e = cc
last_more n s (x ∷ xs) e = e

not_less : (n s limit : ℕ) → s ≤ limit → nat_le n limit ≡ false → nat_le n s ≡ false
not_less n s limit l e = grind (arith, nat_tests)

is_least : (n s : ℕ) → n ≡ s → nat_le n s ≡ true
is_least n s e = grind (arith, nat_tests, e)

none_up_to : (s limit : ℕ) (ns : List ℕ) → s ≤ limit → up_to_event (Some limit) ns ≡ [] → up_to_event (Some s) ns ≡ []
none_up_to s limit [] l e = refl
none_up_to s limit (n ∷ ns) l e = by (nat_le n limit) refl e (λ f. none_up_to s limit ns l f)
  where
    by : (t : Bool) → nat_le n limit ≡ t → cond t (n ∷ up_to_event (Some limit) ns) (up_to_event (Some limit) ns) ≡ [] → (up_to_event (Some limit) ns ≡ [] → up_to_event (Some s) ns ≡ []) → up_to_event (Some s) (n ∷ ns) ≡ []
    by true t f later = cc
    by false t f later = rw (not_less n s limit l t) (later f)

pub again : (limit s : ℕ) (cs : List ℕ) → s ≤ limit → start_of limit cs ≡ Some s → last_count (up_to_event (Some s) cs) ≡ Some s
again limit s [] l e = cc
again limit s (n ∷ ns) l e = by (nat_le n limit) (again limit s ns l) e
  where
    rest : List ℕ
    rest = up_to_event (Some s) ns

    either : (t : Bool) → last_count rest ≡ Some s → last_count (cond t (n ∷ rest) rest) ≡ Some s
    either true h = last_more n s rest h
    either false h = h

    first : (xs : List ℕ) → up_to_event (Some limit) ns ≡ xs → (last_count xs ≡ Some s → last_count rest ≡ Some s) → last_count (n ∷ xs) ≡ Some s → last_count (cond (nat_le n s) (n ∷ rest) rest) ≡ Some s
    first [] f later e =
        let same : n ≡ s = cc in
        ap (λ t. last_count (cond t (n ∷ rest) rest)) (is_least n s same) ∙ ap (λ xs. last_count (n ∷ xs)) (none_up_to s limit ns l f) ∙ ap Some same
    first (x ∷ xs) f later e = either (nat_le n s) (later e)

    by : (t : Bool) → (start_of limit ns ≡ Some s → last_count rest ≡ Some s) → last_count (cond t (n ∷ up_to_event (Some limit) ns) (up_to_event (Some limit) ns)) ≡ Some s → last_count (cond (nat_le n s) (n ∷ rest) rest) ≡ Some s
    by true later e = first (up_to_event (Some limit) ns) refl later e
    by false later e = either (nat_le n s) (later e)

-- where the others are cut
pub last_again : (limit : ℕ) (old : Timeline ℕ) (start : Option ℕ) → start_of limit old.stored ≡ start → last_count (cut start old).stored ≡ start
last_again limit old None e = refl
last_again limit old (Some s) e = ap last_count (left_stored old (up_to_event (Some s) old.stored)) ∙ again limit s old.stored (start_within limit old.stored s e) e

last_ends : (xs : List ℕ) (s : ℕ) → last_count xs ≡ Some s → ends_at s xs ≡ true
last_ends [] s e = cc
last_ends (k ∷ []) s e = let same : k ≡ s = cc in subst (λ j. (k == j) ≡ true) same (equal k)
last_ends (k ∷ l ∷ ks) s e = last_ends (l ∷ ks) s e

-- what stands up to a start
pub cut_below : (s : ℕ) (old : Timeline ℕ) → Below (suc s) (cut (Some s) old).stored
cut_below s old = subst (Below (suc s)) (sym (left_stored old (up_to_event (Some s) old.stored))) (below_up_to_limit s old.stored)

pub cut_ends : (limit s : ℕ) (old : Timeline ℕ) → start_of limit old.stored ≡ Some s → ends_at s (cut (Some s) old).stored ≡ true
cut_ends limit s old e = last_ends (cut (Some s) old).stored s (last_again limit old (Some s) e)

-- ---- what is stored after a start

pub left_after_start : (b : Behaviour) (m : Answers) (limit s : ℕ) (old before new : Timeline ℕ) → start_of limit old.stored ≡ Some s → before ≡ cut (Some s) old
    → HasLeft s before new (run_to b m limit) → new ≡ positions_after b m limit None old
left_after_start b m limit s old before new e c h =
    let ran : Ran = run_to b m limit in
    let last : ℕ = ran.world.count in
    let f : Bool = is_fault ran.outcome in
    let d : suc last - suc s ≡ last - s = omega arith in
    subst (λ o. new ≡ positions_left old o last f) (sym e)
    (h.counts ∙ ap (λ t. positions_onwards t s last f) c
    ∙ sym (left_onwards s last f (cut (Some s) old) h.grew h.faulted (cut_below s old) (cut_ends limit s old e))
    ∙ ap (λ k. behind (is_left last f) (cut (Some s) old) (numbers_from (suc s) k)) (sym d))

pub start_stored : (b : Behaviour) (m : Answers) (limit s : ℕ) (old before : Timeline ℕ) (at : Stood) (new : Timeline ℕ) → start_of limit old.stored ≡ Some s → before ≡ cut (Some s) old
    → HasBegun b m limit s before at new → HasStoredAnew b m limit old at new
start_stored b m limit s old before stood.Before new e c h = absurd h
start_stored b m limit s old before (stood.After k) new e c h =
    let d : k - s ≡ suc k - suc s = omega arith in
    record {
      going = h.going;
      limited = h.limited;
      within = subst (λ (o : Option ℕ). starts_within o k) (sym e) h.grew;
      positions = subst (λ (o : Option ℕ). new ≡ positions_begun old o (suc k - first_behind o)) (sym e)
          (h.counts ∙ ap (λ t. behind is_multiple t (numbers_from (suc s) (k - s))) c ∙ ap (λ n. behind is_multiple (cut (Some s) old) (numbers_from (suc s) n)) d);
    }
start_stored b m limit s old before (stood.Untaken k) new e c h =
    record {
      going = h.0.going;
      limited = h.0.limited;
      within = subst (λ (o : Option ℕ). starts_within o k) (sym e) h.0.grew;
      positions = subst (λ (o : Option ℕ). new ≡ positions_begun old o (k - first_behind o)) (sym e) (h.0.counts ∙ ap (λ t. behind is_multiple t (numbers_from (suc s) (k - suc s))) c);
    }
start_stored b m limit s old before stood.Ending new e c h = left_after_start b m limit s old before new e c h

-- where a run can't go back to its start, none is stored after it
pub back_stored : (b : Behaviour) (m : Answers) (limit s : ℕ) (old new : Timeline ℕ) → start_of limit old.stored ≡ Some s → CanGoOn b m s → new ≡ cut (Some s) old → HasStoredAnew b m limit old (stood.After s) new
back_stored b m limit s old new e going c =
    let z : suc s - suc s ≡ 0 = omega arith in
    record {
      going = going;
      limited = start_within limit old.stored s e;
      within = subst (λ (o : Option ℕ). starts_within o s) (sym e) (omega arith);
      positions = subst (λ (o : Option ℕ). new ≡ positions_begun old o (suc s - first_behind o)) (sym e)
          (c ∙ ap (λ n. behind is_multiple (cut (Some s) old) (numbers_from (suc s) n)) (sym z));
    }

-- where a run begins with setup, it doesn't matter which positions there were
setup_begun : (b : Behaviour) (m : Answers) (limit : ℕ) (old : Timeline ℕ) (at : Stood) (new : Timeline ℕ) → start_of limit old.stored ≡ None → HasStoredAnew b m limit (begun old.first) at new → HasStoredAnew b m limit old at new
setup_begun b m limit old stood.Before new e h = (e, h.1)
setup_begun b m limit old (stood.After k) new e h = record {
  going = h.going;
  limited = h.limited;
  within = subst (λ (o : Option ℕ). starts_within o k) (sym e) tt;
  positions = subst (λ (o : Option ℕ). new ≡ positions_begun old o (suc k - first_behind o)) (sym e) h.positions;
}
setup_begun b m limit old (stood.Untaken k) new e h = record {
  going = h.going;
  limited = h.limited;
  within = subst (λ (o : Option ℕ). starts_within o k) (sym e) tt;
  positions = subst (λ (o : Option ℕ). new ≡ positions_begun old o (k - first_behind o)) (sym e) h.positions;
}
setup_begun b m limit old stood.Ending new e h =
    let ran : Ran = run_to b m limit in
    subst (λ o. new ≡ positions_left old o ran.world.count (is_fault ran.outcome)) (sym e) h

pub setup_stored : (b : Behaviour) (m : Answers) (limit : ℕ) (old begins : Timeline ℕ) (at : Stood) (new : Timeline ℕ) → start_of limit old.stored ≡ None → begins ≡ begun old.first → HasStoredAnew b m limit begins at new → HasStoredAnew b m limit old at new
setup_stored b m limit old begins at new e is h = setup_begun b m limit old at new e (subst (λ (t : Timeline ℕ). HasStoredAnew b m limit t at new) is h)

pub setup_after : (b : Behaviour) (m : Answers) (limit : ℕ) (old begins new : Timeline ℕ) → start_of limit old.stored ≡ None → begins ≡ begun old.first → new ≡ positions_after b m limit None begins → new ≡ positions_after b m limit None old
setup_after b m limit old begins new e is h = setup_stored b m limit old begins stood.Ending new e is h

-- ---- a run from setup

-- with the position of event zero before it
pub setup_onwards : (i m : ℕ) (f : Bool) → (f ≡ true → 0 < m) → positions_onwards (with_count 0 (begun i)) 0 m f ≡ behind (is_left m f) (begun i) (numbers_from 0 (suc m - 0))
setup_onwards i m f g = sym (left_onwards 0 m f (with_count 0 (begun i)) (omega arith) g (omega arith, tt) refl) ∙ setup_left i m f g

begun_left : (b : Behaviour) (m : Answers) (limit i : ℕ) (before new : Timeline ℕ) → before ≡ with_count 0 (begun i) → HasLeft 0 before new (run_to b m limit) → new ≡ positions_after b m limit None (begun i)
begun_left b m limit i before new c h =
    let ran : Ran = run_to b m limit in
    let last : ℕ = ran.world.count in
    let f : Bool = is_fault ran.outcome in
    h.counts ∙ ap (λ t. positions_onwards t 0 last f) c ∙ setup_onwards i last f h.faulted

begun_stored : (b : Behaviour) (m : Answers) (limit i : ℕ) (before : Timeline ℕ) (at : Stood) (new : Timeline ℕ) → before ≡ with_count 0 (begun i) → HasBegun b m limit 0 before at new → HasStoredAnew b m limit (begun i) at new
begun_stored b m limit i before stood.Before new c h = absurd h
begun_stored b m limit i before (stood.After k) new c h =
    let a : suc k - 0 ≡ suc k = omega arith in
    let z : k - 0 ≡ k = omega arith in
    record {
      going = h.going;
      limited = h.limited;
      within = tt;
      positions = h.counts ∙ ap (λ t. behind is_multiple t (numbers_from 1 (k - 0))) c ∙ ap (λ n. behind is_multiple (with_count 0 (begun i)) (numbers_from 1 n)) z ∙ setup_begins i k
          ∙ ap (λ n. behind is_multiple (begun i) (numbers_from 0 n)) (sym a);
    }
begun_stored b m limit i before (stood.Untaken zero) new c h =
    let z : 0 - 1 ≡ 0 = omega arith in
    let is : new ≡ with_count 0 (begun i) = h.0.counts ∙ ap (λ n. behind is_multiple before (numbers_from 1 n)) z ∙ c in
    let none : true ≡ false = subst (λ (t : Timeline ℕ). ends_at 0 t.stored ≡ false) is h.1 in
    cc
begun_stored b m limit i before (stood.Untaken (suc k)) new c h =
    let a : suc k - 0 ≡ suc k = omega arith in
    let z : suc k - suc 0 ≡ k = omega arith in
    record {
      going = h.0.going;
      limited = h.0.limited;
      within = tt;
      positions = h.0.counts ∙ ap (λ t. behind is_multiple t (numbers_from 1 (suc k - suc 0))) c ∙ ap (λ n. behind is_multiple (with_count 0 (begun i)) (numbers_from 1 n)) z ∙ setup_begins i k
          ∙ ap (λ n. behind is_multiple (begun i) (numbers_from 0 n)) (sym a);
    }
begun_stored b m limit i before stood.Ending new c h = begun_left b m limit i before new c h

pub setup_left_all : (b : Behaviour) (m : Answers) (limit : ℕ) (old before : Timeline Position) (new : Timeline ℕ) → IsBegun old → counts_in before ≡ with_count 0 (begun old.first) → HasLeft 0 (counts_in before) new (run_to b m limit)
    → new ≡ positions_after b m limit None (counts_in old)
setup_left_all b m limit old before new none c h = begun_left b m limit old.first (counts_in before) new c h ∙ ap (positions_after b m limit None) (sym (ap counts_in none))

pub setup_stored_all : (b : Behaviour) (m : Answers) (limit : ℕ) (at : Stood) (old before : Timeline Position) (new : Timeline ℕ) → IsBegun old → counts_in before ≡ with_count 0 (begun old.first) → HasBegun b m limit 0 (counts_in before) at new
    → HasStoredAnew b m limit (counts_in old) at new
setup_stored_all b m limit at old before new none c h = subst (λ (t : Timeline ℕ). HasStoredAnew b m limit t at new) (sym (ap counts_in none)) (begun_stored b m limit old.first (counts_in before) at new c h)

-- the position of event zero alone
pub first_counts : (w : World) (old new : Timeline Position) → IsBegun old → new ≡ taken_if true (position_of w) old → w.count ≡ 0 → counts_in new ≡ with_count 0 (begun old.first)
first_counts w old new none e count = one_stored true (position_of w) old new e ∙ ap (with_count w.count) (ap counts_in none) ∙ ap (λ n. with_count n (begun old.first)) count

pub first_below : (n i : ℕ) (new : Timeline Position) → 0 < n → counts_in new ≡ with_count 0 (begun i) → AreBelow n new.stored
first_below n i new l e = of_counts n new.stored (subst (λ (t : Timeline ℕ). Below n t.stored) (sym e) (l, tt))

-- nothing is stored yet
pub none_stored : (b : Behaviour) (m : Answers) (limit : ℕ) (at : Stood) (old new : Timeline Position) → at ≡ stood.Before → IsBegun old → new ≡ old → HasStoredAnew b m limit (counts_in old) at (counts_in new)
none_stored b m limit at old new e none same =
    let is : counts_in old ≡ begun old.first = ap counts_in none in
    subst (λ (t : Timeline ℕ). HasStoredAnew b m limit t at (counts_in new)) (sym is) (subst (λ (x : Stood). HasStoredAnew b m limit (begun old.first) x (counts_in new)) (sym e) (refl, ap counts_in same ∙ is))

-- the first position could not be taken
pub first_untaken : (b : Behaviour) (m : Answers) (limit : ℕ) (at : Stood) (old new : Timeline Position) → at ≡ stood.Untaken 0 → CanGoOn b m 0 → IsBegun old → new ≡ old → HasStoredAnew b m limit (counts_in old) at (counts_in new)
first_untaken b m limit at old new e going none same =
    let z : 0 - 0 ≡ 0 = omega arith in
    let is : counts_in old ≡ begun old.first = ap counts_in none in
    subst (λ (t : Timeline ℕ). HasStoredAnew b m limit t at (counts_in new)) (sym is) (subst (λ (x : Stood). HasStoredAnew b m limit (begun old.first) x (counts_in new)) (sym e) (record {
      going = going;
      limited = omega arith;
      within = tt;
      positions = ap counts_in same ∙ is ∙ ap (λ n. behind is_multiple (begun old.first) (numbers_from 0 n)) (sym z);
    }))

-- a fault in event zero leaves none
pub fault_left : (b : Behaviour) (m : Answers) (limit : ℕ) (w : World) (outcome : Outcome) (old new : Timeline Position) → IsBegun old → new ≡ old → run_to b m limit ≡ record { world = w; outcome = outcome } → w.count ≡ 0 → is_fault outcome ≡ true
    → counts_in new ≡ positions_after b m limit None (counts_in old)
fault_left b m limit w outcome old new none same ran c f =
    let is : counts_in old ≡ begun old.first = ap counts_in none in
    subst (λ (r : Ran). counts_in new ≡ positions_left (counts_in old) (start_of limit (counts_in old).stored) r.world.count (is_fault r.outcome)) (sym ran)
    (subst (λ (t : Timeline ℕ). counts_in new ≡ positions_left t (start_of limit t.stored) w.count (is_fault outcome)) (sym is)
    (rw (c, f) (ap counts_in same ∙ is ∙ sym (fault_leaves old.first))))
