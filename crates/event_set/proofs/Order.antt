-- The order of events to come, and the list with one more.
use Rattle.std.proofs.Common.{◌≡◌, ◌≢◌, ◌⊎◌, inl, inr, ⊎_elim, ℕ, ℤ, suc, ◌≤◌, ◌<◌, ◌≤ℤ◌, ◌<ℤ◌, ◌==◌, nat_lt, int_lt, Bool, true, false, true≢false, List, [], ◌∷◌, ◌++◌, IsTrue, refl, sym, ◌∙◌, arith, if◌then◌else◌, ltb-true, lt-ltb, eq-eqb, eqb-true, eq-or-lt_of_le, le_of_suc-le-suc}
use Rattle.std.proofs.lemmas.Int.{ints}
use Rattle.std.proofs.lemmas.Bool.Decides.{leb_tells}
use Rattle.event_set.specs.declared.pending.Pending.{Pending}
use Rattle.event_set.specs.Timers.{is_timer, without_timer}
use Rattle.event_set.specs.Order.{comes_before, inserted, Each, AreInOrder, HaveOwnNumbers}

-- ---- the order

-- by the words of the order: the least time; of these the least priority; of these the least number
abbrev Earlier : Pending → Pending → Type 0
Earlier a b = (a.time < b.time) ⊎ ((a.time ≡ b.time) × ((a.priority <ℤ b.priority) ⊎ ((a.priority ≤ℤ b.priority) × (a.number < b.number))))

-- three ways
three_ways : (m n : ℕ) → (m < n) ⊎ ((m ≡ n) ⊎ (n < m))
three_ways m n = ⊎_elim (λ (h : (nat_lt m n ≡ true) × (m < n)). inl h.1) (λ (h : (nat_lt m n ≡ false) × (n < suc m)). inr (⊎_elim (λ e. inl (sym e)) inr (eq-or-lt_of_le (le_of_suc-le-suc h.1)))) (leb_tells (suc m) n)

-- what the test of priorities and numbers tells
by_priority : (p q : Bool) (m n : ℕ) (a b : ℤ) → int_lt a b ≡ p → int_lt b a ≡ q → (if p then true else (if q then false else nat_lt m n)) ≡ true → (a <ℤ b) ⊎ ((a ≤ℤ b) × (m < n))
by_priority true q m n a b e f h = inl (omega (arith, ints))
by_priority false true m n a b e f h = cc
by_priority false false m n a b e f h = inr (omega (arith, ints), ltb-true m n h)

-- what the test tells, by whether the times are the same
earlier_by : (same : Bool) (a b : Pending) → (a.time == b.time) ≡ same → (if same then (if int_lt a.priority b.priority then true else (if int_lt b.priority a.priority then false else nat_lt a.number b.number)) else nat_lt a.time b.time) ≡ true → Earlier a b
earlier_by true a b e h = inr (eqb-true a.time b.time e, by_priority (int_lt a.priority b.priority) (int_lt b.priority a.priority) a.number b.number a.priority b.priority refl refl h)
earlier_by false a b e h = inl (ltb-true a.time b.time h)

-- what the test tells
earlier_if : (a b : Pending) → comes_before a b ≡ true → Earlier a b
earlier_if a b h = earlier_by (a.time == b.time) a b refl h

-- a test of numbers answers as they are
lt_test : (m n : ℕ) → m < n → nat_lt m n ≡ true
lt_test m n h = lt-ltb m n h

-- a lesser number decides, where no priority does
number_before : (p q : Bool) (m n : ℕ) (a b : ℤ) → int_lt a b ≡ p → int_lt b a ≡ q → a ≤ℤ b → m < n → (if p then true else (if q then false else nat_lt m n)) ≡ true
number_before true q m n a b e f h l = refl
number_before false true m n a b e f h l = absurd (omega (arith, ints))
number_before false false m n a b e f h l = lt_test m n l

-- a lesser priority decides
priority_before : (p q : Bool) (m n : ℕ) (a b : ℤ) → int_lt a b ≡ p → a <ℤ b → (if p then true else (if q then false else nat_lt m n)) ≡ true
priority_before true q m n a b e h = refl
priority_before false q m n a b e h = absurd (omega (arith, ints))

-- the test answers so, by whether the times are the same
before_by : (same : Bool) (a b : Pending) → (a.time == b.time) ≡ same → Earlier a b → (if same then (if int_lt a.priority b.priority then true else (if int_lt b.priority a.priority then false else nat_lt a.number b.number)) else nat_lt a.time b.time) ≡ true
before_by true a b e (inl h) = let same = eqb-true a.time b.time e in absurd (omega (arith, same, h))
before_by true a b e (inr (t, inl h)) = priority_before (int_lt a.priority b.priority) (int_lt b.priority a.priority) a.number b.number a.priority b.priority refl h
before_by true a b e (inr (t, inr h)) = number_before (int_lt a.priority b.priority) (int_lt b.priority a.priority) a.number b.number a.priority b.priority refl refl h.0 h.1
before_by false a b e (inl h) = lt_test a.time b.time h
before_by false a b e (inr h) = absurd (true≢false (sym (eq-eqb a.time b.time h.0) ∙ e))

-- the test answers so
before_if : (a b : Pending) → Earlier a b → comes_before a b ≡ true
before_if a b h = before_by (a.time == b.time) a b refl h

-- the order goes on from one event to the next
earlier_trans : (a b c : Pending) → Earlier a b → Earlier b c → Earlier a c
earlier_trans a b c (inl h) (inl k) = inl (omega (arith, h, k))
earlier_trans a b c (inl h) (inr k) = inl (omega (arith, h, k.0))
earlier_trans a b c (inr h) (inl k) = inl (omega (arith, h.0, k))
earlier_trans a b c (inr (t, inl h)) (inr (u, inl k)) = inr (t ∙ u, inl (omega (arith, ints, h, k)))
earlier_trans a b c (inr (t, inl h)) (inr (u, inr k)) = inr (t ∙ u, inl (omega (arith, ints, h, k.0)))
earlier_trans a b c (inr (t, inr h)) (inr (u, inl k)) = inr (t ∙ u, inl (omega (arith, ints, h.0, k)))
earlier_trans a b c (inr (t, inr h)) (inr (u, inr k)) = inr (t ∙ u, inr (omega (arith, ints, h.0, k.0), omega (arith, h.1, k.1)))

-- what comes before what comes before a third comes before it
pub before_trans : (a b c : Pending) → IsTrue (comes_before a b) → IsTrue (comes_before b c) → IsTrue (comes_before a c)
before_trans a b c h k = before_if a c (earlier_trans a b c (earlier_if a b h) (earlier_if b c k))

-- of two numbers the one or the other is less
number_after : (a b : Pending) → a.number ≢ b.number → (a.number < b.number) ⊎ ((a.number ≡ b.number) ⊎ (b.number < a.number)) → a.priority ≤ℤ b.priority → b.priority ≤ℤ a.priority → a.time ≡ b.time → Earlier a b ⊎ Earlier b a
number_after a b ne (inl h) p q t = inl (inr (t, inr (p, h)))
number_after a b ne (inr (inl h)) p q t = absurd (ne h)
number_after a b ne (inr (inr h)) p q t = inr (inr (sym t, inr (q, h)))

-- the same, of priorities and then numbers
priority_after : (x y : Bool) (a b : Pending) → a.number ≢ b.number → int_lt a.priority b.priority ≡ x → int_lt b.priority a.priority ≡ y → a.time ≡ b.time → Earlier a b ⊎ Earlier b a
priority_after true y a b ne e f t = inl (inr (t, inl (omega (arith, ints))))
priority_after false true a b ne e f t = inr (inr (sym t, inl (omega (arith, ints))))
priority_after false false a b ne e f t = number_after a b ne (three_ways a.number b.number) (omega (arith, ints)) (omega (arith, ints)) t

-- the same, of events
one_way : (a b : Pending) → a.number ≢ b.number → (a.time < b.time) ⊎ ((a.time ≡ b.time) ⊎ (b.time < a.time)) → Earlier a b ⊎ Earlier b a
one_way a b ne (inl h) = inl (inl h)
one_way a b ne (inr (inl h)) = priority_after (int_lt a.priority b.priority) (int_lt b.priority a.priority) a b ne refl refl h
one_way a b ne (inr (inr h)) = inr (inl h)

-- of two events of different numbers the one or the other comes first
pub other_before : (a b : Pending) → a.number ≢ b.number → comes_before a b ≡ false → IsTrue (comes_before b a)
other_before a b ne h = ⊎_elim (λ e. absurd (true≢false (sym (before_if a b e) ∙ h))) (before_if b a) (one_way a b ne (three_ways a.time b.time))

-- no event is earlier than one that it comes before
pub before_time : (a b : Pending) → IsTrue (comes_before a b) → a.time ≤ b.time
before_time a b h = ⊎_elim (λ l. omega (arith, l)) (λ k. let e = k.0 in omega (arith, e)) (earlier_if a b h)

-- ---- lists

-- what follows of each
pub each_map : {X : Type 0} (P Q : X → Type 0) (xs : List X) → ((x : X) → P x → Q x) → Each P xs → Each Q xs
each_map P Q [] f h = tt
each_map P Q (x ∷ xs) f h = (f x h.0, each_map P Q xs f h.1)

-- two lists
pub each_append : {X : Type 0} (P : X → Type 0) (xs ys : List X) → Each P xs → Each P ys → Each P (xs ++ ys)
each_append P [] ys h k = k
each_append P (x ∷ xs) ys h k = (h.0, each_append P xs ys h.1 k)

-- of two lists, whichever is taken
either_list : (P : List Pending → Type 0) (c : Bool) (xs ys : List Pending) → P xs → P ys → P (if c then xs else ys)
either_list P true xs ys h k = h
either_list P false xs ys h k = k

-- ---- one more event

-- the new one and the others
pub each_inserted : (P : Pending → Type 0) (e : Pending) (es : List Pending) → P e → Each P es → Each P (inserted e es)
each_inserted P e [] p h = (p, tt)
each_inserted P e (f ∷ fs) p h = either_list (Each P) (comes_before e f) (e ∷ f ∷ fs) (f ∷ inserted e fs) (p, h) (h.0, each_inserted P e fs p h.1)

-- by whether the new one comes first
order_by : (c : Bool) (e f : Pending) (fs : List Pending) → comes_before e f ≡ c → f.number ≢ e.number → AreInOrder (f ∷ fs) → AreInOrder (inserted e fs) → AreInOrder (if c then e ∷ f ∷ fs else f ∷ inserted e fs)
order_by true e f fs t ne h k = ((t, each_map (λ g. IsTrue (comes_before f g)) (λ g. IsTrue (comes_before e g)) fs (λ g b. before_trans e f g t b) h.0), h)
order_by false e f fs t ne h k = (each_inserted (λ g. IsTrue (comes_before f g)) e fs (other_before e f (λ x. ne (sym x)) t) h.0, k)

-- the events stay in order
pub ordered_inserted : (e : Pending) (es : List Pending) → Each (λ f. f.number ≢ e.number) es → AreInOrder es → AreInOrder (inserted e es)
ordered_inserted e [] ne h = (tt, tt)
ordered_inserted e (f ∷ fs) ne h = order_by (comes_before e f) e f fs refl ne.0 h (ordered_inserted e fs ne.1 h.1)

-- by whether the new one comes first
own_by : (c : Bool) (e f : Pending) (fs : List Pending) → Each (λ g. g.number ≢ e.number) (f ∷ fs) → HaveOwnNumbers (f ∷ fs) → HaveOwnNumbers (inserted e fs) → HaveOwnNumbers (if c then e ∷ f ∷ fs else f ∷ inserted e fs)
own_by true e f fs ne h k = (ne, h)
own_by false e f fs ne h k = (each_inserted (λ g. g.number ≢ f.number) e fs (λ x. ne.0 (sym x)) h.0, k)

-- and keep numbers of their own
pub own_inserted : (e : Pending) (es : List Pending) → Each (λ f. f.number ≢ e.number) es → HaveOwnNumbers es → HaveOwnNumbers (inserted e es)
own_inserted e [] ne h = (tt, tt)
own_inserted e (f ∷ fs) ne h = own_by (comes_before e f) e f fs ne h (own_inserted e fs ne.1 h.1)

-- ---- without a timer

-- of a list without its first, or with what is left of its tail
left_of : (P : List Pending → Type 0) (c : Bool) (p : Pending) (ps rest : List Pending) → P ps → P (p ∷ rest) → P (if c then ps else p ∷ rest)
left_of P true p ps rest h k = h
left_of P false p ps rest h k = k

pub each_without : (P : Pending → Type 0) (id timer : ℕ) (es : List Pending) → Each P es → Each P (without_timer id timer es)
each_without P id timer [] h = tt
each_without P id timer (e ∷ es) h = left_of (Each P) (is_timer id timer e) e es (without_timer id timer es) h.1 (h.0, each_without P id timer es h.1)

pub ordered_without : (id timer : ℕ) (es : List Pending) → AreInOrder es → AreInOrder (without_timer id timer es)
ordered_without id timer [] h = tt
ordered_without id timer (e ∷ es) h =
    left_of AreInOrder (is_timer id timer e) e es (without_timer id timer es) h.1
    (each_without (λ f. IsTrue (comes_before e f)) id timer es h.0, ordered_without id timer es h.1)

pub own_without : (id timer : ℕ) (es : List Pending) → HaveOwnNumbers es → HaveOwnNumbers (without_timer id timer es)
own_without id timer [] h = tt
own_without id timer (e ∷ es) h =
    left_of HaveOwnNumbers (is_timer id timer e) e es (without_timer id timer es) h.1
    (each_without (λ f. f.number ≢ e.number) id timer es h.0, own_without id timer es h.1)
