-- The order of turns is one line: of two that differ the one goes before the other.
use Rattle.std.proofs.Common.{◌≡◌, ◌⊎◌, inl, inr, ℕ, ℤ, ◌≤◌, ◌<◌, ◌≤ℤ◌, ◌<ℤ◌, ◌==◌, nat_lt, int_lt, Bool, true, false, true≢false, refl, sym, ap, ◌∙◌, arith, if◌then◌else◌, ltb-true, eqb-true}
use Rattle.std.proofs.lemmas.Int.{ints}
use Rattle.std.proofs.lemmas.Bool.Decides.{nat_tests}
use Rattle.model_injections.specs.declared.injection.Due.{Due}
use Rattle.model_injections.specs.declared.injection.InjectionTurn.{InjectionTurn}
use Rattle.model_injections.specs.Injections.{due_before, goes_before}

-- ---- when two are due

abbrev IsSooner : Due → Due → Type 0
IsSooner a b = (a.time < b.time) ⊎ ((a.time ≡ b.time) × (a.priority <ℤ b.priority))

abbrev IsNoLater : Due → Due → Type 0
IsNoLater a b = (a.time < b.time) ⊎ ((a.time ≡ b.time) × (a.priority ≤ℤ b.priority))

lt_told : (a b : ℤ) → int_lt a b ≡ true → a <ℤ b
lt_told a b e = omega (arith, ints)

le_told : (a b : ℤ) → int_lt a b ≡ false → b ≤ℤ a
le_told a b e = omega (arith, ints)

less_told : (m n : ℕ) → (m == n) ≡ false → nat_lt m n ≡ false → n < m
less_told m n e h = grind (arith, nat_tests)

least_told : (m n : ℕ) → nat_lt m n ≡ false → n ≤ m
least_told m n h = grind (arith, nat_tests)

not_less : (m n : ℕ) → n ≤ m → nat_lt m n ≡ false
not_less m n h = grind (arith, nat_tests)

sooner_by : (same : Bool) (a b : Due) → (a.time == b.time) ≡ same → (if same then int_lt a.priority b.priority else nat_lt a.time b.time) ≡ true → IsSooner a b
sooner_by true a b e h = inr (eqb-true a.time b.time e, lt_told a.priority b.priority h)
sooner_by false a b e h = inl (ltb-true a.time b.time h)

sooner_told : (a b : Due) → due_before a b ≡ true → IsSooner a b
sooner_told a b h = sooner_by (a.time == b.time) a b refl h

later_by : (same : Bool) (a b : Due) → (a.time == b.time) ≡ same → (if same then int_lt a.priority b.priority else nat_lt a.time b.time) ≡ false → IsNoLater b a
later_by true a b e h = inr (sym (eqb-true a.time b.time e), le_told a.priority b.priority h)
later_by false a b e h = inl (less_told a.time b.time e h)

later_told : (a b : Due) → due_before a b ≡ false → IsNoLater b a
later_told a b h = later_by (a.time == b.time) a b refl h

-- what is no later is not due after
apart : (a b : Due) → IsSooner a b → IsNoLater b a → ⊥
apart a b (inl h) (inl k) = omega (arith, h, k)
apart a b (inl h) (inr k) = let t = k.0 in omega (arith, h, t)
apart a b (inr h) (inl k) = let t = h.0 in omega (arith, t, k)
apart a b (inr h) (inr k) = let p = h.1 in let q = k.1 in omega (arith, ints, p, q)

not_true : (t : Bool) → (t ≡ true → ⊥) → t ≡ false
not_true true h = absurd (h refl)
not_true false h = refl

not_false : (t : Bool) → (t ≡ false → ⊥) → t ≡ true
not_false true h = refl
not_false false h = absurd (h refl)

-- ---- turns

-- of the one it is the turn before the other's, or both are one
abbrev pub IsAtMost : InjectionTurn → InjectionTurn → Type 0
IsAtMost a b = (a.due.time < b.due.time) ⊎ ((a.due.time ≡ b.due.time) × ((a.due.priority <ℤ b.due.priority) ⊎ ((a.due.priority ≤ℤ b.due.priority) × (a.number ≤ b.number))))

of_sooner : (a b : InjectionTurn) → IsSooner a.due b.due → IsAtMost a b
of_sooner a b (inl h) = inl h
of_sooner a b (inr h) = inr (h.0, inl h.1)

of_no_later : (a b : InjectionTurn) → IsNoLater a.due b.due → a.number ≤ b.number → IsAtMost a b
of_no_later a b (inl h) n = inl h
of_no_later a b (inr h) n = inr (h.0, inr (h.1, n))

to_no_later : (a b : InjectionTurn) → IsAtMost a b → IsNoLater a.due b.due
to_no_later a b (inl h) = inl h
to_no_later a b (inr (t, inl p)) = inr (t, omega (arith, ints, p))
to_no_later a b (inr (t, inr p)) = inr (t, p.0)

before_by : (x y : Bool) (a b : InjectionTurn) → due_before a.due b.due ≡ x → due_before b.due a.due ≡ y → (if x then true else (if y then false else nat_lt a.number b.number)) ≡ true → IsAtMost a b
before_by true y a b e f h = of_sooner a b (sooner_told a.due b.due e)
before_by false true a b e f h = absurd (true≢false (sym h))
before_by false false a b e f h = let l = ltb-true a.number b.number h in of_no_later a b (later_told b.due a.due f) (omega (arith, l))

-- what goes before is no later in its turn
pub before_told : (a b : InjectionTurn) → goes_before a b ≡ true → IsAtMost a b
before_told a b h = before_by (due_before a.due b.due) (due_before b.due a.due) a b refl refl h

behind_by : (x y : Bool) (a b : InjectionTurn) → due_before a.due b.due ≡ x → due_before b.due a.due ≡ y → (if x then true else (if y then false else nat_lt a.number b.number)) ≡ false → IsAtMost b a
behind_by true y a b e f h = absurd (true≢false h)
behind_by false true a b e f h = of_sooner b a (sooner_told b.due a.due f)
behind_by false false a b e f h = of_no_later b a (later_told a.due b.due e) (least_told a.number b.number h)

-- and so is what another does not go before
pub behind_told : (a b : InjectionTurn) → goes_before a b ≡ false → IsAtMost b a
behind_told a b h = behind_by (due_before a.due b.due) (due_before b.due a.due) a b refl refl h

number_of : (a b : InjectionTurn) → due_before b.due a.due ≡ false → IsAtMost b a → b.number ≤ a.number
number_of a b f (inl h) = let k = later_told b.due a.due f in absurd (apart b.due a.due (inl h) k)
number_of a b f (inr (t, inl p)) = let k = later_told b.due a.due f in absurd (apart b.due a.due (inr (t, p)) k)
number_of a b f (inr (t, inr p)) = p.1

stays_by : (x y : Bool) (a b : InjectionTurn) → due_before a.due b.due ≡ x → due_before b.due a.due ≡ y → IsAtMost b a → (if x then true else (if y then false else nat_lt a.number b.number)) ≡ false
stays_by true y a b e f h = absurd (apart a.due b.due (sooner_told a.due b.due e) (to_no_later b a h))
stays_by false true a b e f h = refl
stays_by false false a b e f h = not_less a.number b.number (number_of a b f h)

-- it doesn't go before what is no later
pub stays_behind : (a b : InjectionTurn) → IsAtMost b a → goes_before a b ≡ false
stays_behind a b h = stays_by (due_before a.due b.due) (due_before b.due a.due) a b refl refl h

at_most_trans : (a b c : InjectionTurn) → IsAtMost a b → IsAtMost b c → IsAtMost a c
at_most_trans a b c (inl h) (inl k) = inl (omega (arith, h, k))
at_most_trans a b c (inl h) (inr k) = let t = k.0 in inl (omega (arith, h, t))
at_most_trans a b c (inr h) (inl k) = let t = h.0 in inl (omega (arith, t, k))
at_most_trans a b c (inr (t, inl h)) (inr (u, inl k)) = inr (t ∙ u, inl (omega (arith, ints, h, k)))
at_most_trans a b c (inr (t, inl h)) (inr (u, inr k)) = let q = k.0 in inr (t ∙ u, inl (omega (arith, ints, h, q)))
at_most_trans a b c (inr (t, inr h)) (inr (u, inl k)) = let p = h.0 in inr (t ∙ u, inl (omega (arith, ints, p, k)))
at_most_trans a b c (inr (t, inr h)) (inr (u, inr k)) = let p = h.0 in let q = k.0 in let m = h.1 in let n = k.1 in inr (t ∙ u, inr (omega (arith, ints, p, q), omega (arith, m, n)))

at_most_refl : (a : InjectionTurn) → IsAtMost a a
at_most_refl a = inr (refl, inr (omega (arith, ints), omega arith))

same_priority : (a b : ℤ) → a ≤ℤ b → b ≤ℤ a → a ≡ b
same_priority a b h k = omega (arith, ints, h, k)

turn_made : (a b : InjectionTurn) → a.due.time ≡ b.due.time → a.due.priority ≡ b.due.priority → a.number ≡ b.number → a ≡ b
turn_made a b t p n =
    ap (λ (x : ℕ). record { due = record { time = x; priority = a.due.priority }; number = a.number }) t
    ∙ ap (λ (x : ℤ). record { due = record { time = b.due.time; priority = x }; number = a.number }) p
    ∙ ap (λ (x : ℕ). record { due = b.due; number = x }) n

-- two turns of which each is no later than the other are one
pub at_most_both : (a b : InjectionTurn) → IsAtMost a b → IsAtMost b a → a ≡ b
at_most_both a b (inl h) (inl k) = absurd (omega (arith, h, k))
at_most_both a b (inl h) (inr k) = let t = k.0 in absurd (omega (arith, h, t))
at_most_both a b (inr h) (inl k) = let t = h.0 in absurd (omega (arith, t, k))
at_most_both a b (inr (t, inl h)) (inr (u, inl k)) = absurd (omega (arith, ints, h, k))
at_most_both a b (inr (t, inl h)) (inr (u, inr k)) = let q = k.0 in absurd (omega (arith, ints, h, q))
at_most_both a b (inr (t, inr h)) (inr (u, inl k)) = let p = h.0 in absurd (omega (arith, ints, p, k))
at_most_both a b (inr (t, inr h)) (inr (u, inr k)) = let m = h.1 in let n = k.1 in turn_made a b t (same_priority a.due.priority b.due.priority h.0 k.0) (omega (arith, m, n))

-- none goes before itself
pub never_itself : (a : InjectionTurn) → goes_before a a ≡ false
never_itself a = stays_behind a a (at_most_refl a)

-- of two at most one goes before the other
pub one_way : (a b : InjectionTurn) → goes_before a b ≡ true → goes_before b a ≡ false
one_way a b h = stays_behind b a (before_told a b h)

-- the order goes on from one turn to the next
pub before_trans : (a b c : InjectionTurn) → goes_before a b ≡ true → goes_before b c ≡ true → goes_before a c ≡ true
before_trans a b c h k =
    not_false (goes_before a c) (λ e. true≢false (sym h ∙ stays_behind a b (at_most_trans b c a (before_told b c k) (behind_told a c e))))

-- what does not go before what does not go before a third does not go before it
pub behind_trans : (a b c : InjectionTurn) → goes_before a b ≡ false → goes_before b c ≡ false → goes_before a c ≡ false
behind_trans a b c h k = stays_behind a c (at_most_trans c b a (behind_told b c k) (behind_told a b h))

-- of two that differ the one goes before the other
pub other_way : (a b : InjectionTurn) → (a ≡ b → ⊥) → goes_before a b ≡ false → goes_before b a ≡ true
other_way a b ne h = not_false (goes_before b a) (λ e. ne (at_most_both a b (behind_told b a e) (behind_told a b h)))
