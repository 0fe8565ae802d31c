-- The order of injections: none that is not delivered is due before the clock, and none before what
-- comes next.
use Rattle.std.proofs.Common.{◌≡◌, ◌⊎◌, inl, inr, ℕ, zero, suc, ◌≤◌, ◌==◌, nat_lt, int_lt, Bool, true, false, true≢false, List, [], ◌∷◌, Option, Some, None, length, refl, sym, ◌∙◌, arith, subst, if◌then◌else◌, ltb-true, eqb-true}
use Rattle.std.proofs.lemmas.Bool.Decides.{nat_tests}
use Rattle.model_questions.specs.declared.answer.Answer.TheVariants as answer
use Rattle.model_questions.specs.declared.answer.Question.TheVariants.{InjectionBefore}
use Rattle.model_injections.specs.declared.injection.Due.{Due}
use Rattle.model_injections.specs.declared.injection.Injection.{Injection}
use Rattle.model_injections.specs.declared.injection.InjectionTurn.{InjectionTurn}
use Rattle.model_questions.specs.Answers.{Answers}
use Rattle.model_injections.specs.Injections.{due_before, goes_before, turn_of, is_undelivered, sooner, first_undelivered, goes_first, if_first}
use Rattle.event_set.specs.declared.pending.Pending.{Pending}
use Rattle.run_semantics.specs.Laws.{Each, AreInOrder}
use Rattle.run_semantics.specs.World.{World, asked_next}
use Rattle.run_semantics.specs.Upcoming.{first_due, delivered, target_of, Upcoming, Comes, Nothing, first_of, aimed, chosen, upcoming_in, upcoming}
use Rattle.event_set.proofs.Order.{before_time, each_map}

-- ---- times

-- what a test of numbers denies
not_less : (n k : ℕ) → nat_lt n k ≡ false → k ≤ n
not_less n k e = grind (arith, nat_tests)

-- by whether the times are the same
before_by : (same : Bool) (a b : Due) → (a.time == b.time) ≡ same → (if same then int_lt a.priority b.priority else nat_lt a.time b.time) ≡ true → a.time ≤ b.time
before_by true a b e h = let t = eqb-true a.time b.time e in omega (arith, t)
before_by false a b e h = let l = ltb-true a.time b.time h in omega (arith, l)

-- what is due before is no later
before_due : (a b : Due) → due_before a b ≡ true → a.time ≤ b.time
before_due a b h = before_by (a.time == b.time) a b refl h

-- by whether the times are the same
behind_by : (same : Bool) (a b : Due) → (a.time == b.time) ≡ same → (if same then int_lt a.priority b.priority else nat_lt a.time b.time) ≡ false → b.time ≤ a.time
behind_by true a b e h = let t = eqb-true a.time b.time e in omega (arith, t)
behind_by false a b e h = not_less a.time b.time h

-- what is not due before is no earlier
behind_due : (a b : Due) → due_before a b ≡ false → b.time ≤ a.time
behind_due a b h = behind_by (a.time == b.time) a b refl h

-- by what is due before what
goes_by : (x y : Bool) (a b : InjectionTurn) → due_before a.due b.due ≡ x → due_before b.due a.due ≡ y → (if x then true else (if y then false else nat_lt a.number b.number)) ≡ true → a.due.time ≤ b.due.time
goes_by true y a b e f h = before_due a.due b.due e
goes_by false true a b e f h = absurd (true≢false (sym h))
goes_by false false a b e f h = behind_due b.due a.due f

-- what goes before is no later
goes_time : (a b : InjectionTurn) → goes_before a b ≡ true → a.due.time ≤ b.due.time
goes_time a b h = goes_by (due_before a.due b.due) (due_before b.due a.due) a b refl refl h

-- by what is due before what
stays_by : (x y : Bool) (a b : InjectionTurn) → due_before a.due b.due ≡ x → (if x then true else (if y then false else nat_lt a.number b.number)) ≡ false → b.due.time ≤ a.due.time
stays_by true y a b e h = absurd (true≢false h)
stays_by false y a b e h = behind_due a.due b.due e

-- what does not go before is no earlier
stays_time : (a b : InjectionTurn) → goes_before a b ≡ false → b.due.time ≤ a.due.time
stays_time a b h = stays_by (due_before a.due b.due) (due_before b.due a.due) a b refl h

-- ---- injections that are left

-- of these injections none that is not delivered is due before that time, where this one was
-- delivered last
abbrev pub IsAhead : ℕ → Option InjectionTurn → List Injection → Type 0
IsAhead time last is = Each (λ i. is_undelivered last i ≡ true → time ≤ i.due.time) is

-- an injection is not due before that time, where there is one
abbrev NotSooner : ℕ → Option Injection → Type 0
NotSooner time None = Unit {0}
NotSooner time (Some i) = time ≤ i.due.time

-- by which of two goes first
sooner_by : (c : Bool) (time : ℕ) (i j : Injection) → goes_before (turn_of j) (turn_of i) ≡ c → NotSooner time (if c then Some j else Some i) → (time ≤ i.due.time) × (time ≤ j.due.time)
sooner_by true time i j e h = let l = goes_time (turn_of j) (turn_of i) e in (omega (arith, l, h), h)
sooner_by false time i j e h = let l = stays_time (turn_of j) (turn_of i) e in (h, omega (arith, l, h))

-- where the first of two is not due before that time, neither is
both_later : (time : ℕ) (i : Injection) (other : Option Injection) → NotSooner time (sooner i other) → (time ≤ i.due.time) × NotSooner time other
both_later time i None h = (h, tt)
both_later time i (Some j) h = sooner_by (goes_before (turn_of j) (turn_of i)) time i j refl h

-- of two that are not, whichever is taken
either_later : (c : Bool) (time : ℕ) (i j : Injection) → time ≤ i.due.time → time ≤ j.due.time → NotSooner time (if c then Some j else Some i)
either_later true time i j h k = k
either_later false time i j h k = h

-- where neither of two is, the first is not
sooner_later : (time : ℕ) (i : Injection) (other : Option Injection) → time ≤ i.due.time → NotSooner time other → NotSooner time (sooner i other)
sooner_later time i None h k = h
sooner_later time i (Some j) h k = either_later (goes_before (turn_of j) (turn_of i)) time i j h k

-- where the first that is left is not due before that time, none that is left is
ahead_of_first : (time : ℕ) (last : Option InjectionTurn) (is : List Injection) → NotSooner time (first_undelivered last is) → IsAhead time last is
ahead_of_first time last [] h = tt
ahead_of_first time last (i ∷ is) h = by (is_undelivered last i) refl (ahead_of_first time last is) h
  where
    by : (c : Bool) → is_undelivered last i ≡ c → (NotSooner time (first_undelivered last is) → IsAhead time last is) → NotSooner time (if c then sooner i (first_undelivered last is) else first_undelivered last is) → IsAhead time last (i ∷ is)
    by true e rest k = let both = both_later time i (first_undelivered last is) k in ((λ x. both.0), rest both.1)
    by false e rest k = ((λ x. absurd (true≢false (sym x ∙ e))), rest k)

-- where none that is left is due before that time, the first is not
first_ahead : (time : ℕ) (last : Option InjectionTurn) (is : List Injection) → IsAhead time last is → NotSooner time (first_undelivered last is)
first_ahead time last [] h = tt
first_ahead time last (i ∷ is) h = by (is_undelivered last i) refl (first_ahead time last is h.1)
  where
    by : (c : Bool) → is_undelivered last i ≡ c → NotSooner time (first_undelivered last is) → NotSooner time (if c then sooner i (first_undelivered last is) else first_undelivered last is)
    by true e k = sooner_later time i (first_undelivered last is) (h.0 e) k
    by false e k = k

-- what is left after one is not due before it
ahead_of_delivered : (time : ℕ) (i : Injection) (is : List Injection) → time ≤ i.due.time → IsAhead time (Some (turn_of i)) is
ahead_of_delivered time i [] h = tt
ahead_of_delivered time i (j ∷ is) h = ((λ x. let l = goes_time (turn_of i) (turn_of j) x in omega (arith, h, l)), ahead_of_delivered time i is h)

-- at the time zero nothing is late
pub ahead_at_zero : (last : Option InjectionTurn) (is : List Injection) → IsAhead 0 last is
ahead_at_zero last [] = tt
ahead_at_zero last (i ∷ is) = ((λ x. omega arith), ahead_at_zero last is)

-- ---- what comes next

-- An event may come next, where the clock is at that time and these events are to come: it is not
-- late, and neither the events that are left nor the injections are due before it; it is one of the
-- events to come, or none of them.
pub record MayCome (m : Answers) (time : ℕ) (ps : List Pending) (u : World) (p : Pending) (rest : List Pending) : Type 0 where
  pub due : time ≤ p.time
  pub later : Each (λ g. p.time ≤ g.time) rest
  pub ahead : IsAhead p.time u.delivered m.injections
  pub left : (rest ≡ ps) ⊎ (ps ≡ p ∷ rest)

-- where an event comes, it may
abbrev pub ComesWell : Answers → ℕ → List Pending → Upcoming → Type 0
ComesWell m time ps (Comes u p rest) = MayCome m time ps u p rest
ComesWell m time ps (Nothing u) = Unit {0}

-- the events that follow the first are no earlier
after_first : (p : Pending) (rest : List Pending) → AreInOrder (p ∷ rest) → Each (λ g. p.time ≤ g.time) rest
after_first p rest order = each_map _ (λ g. p.time ≤ g.time) rest (λ g b. before_time p g b) order.0

-- the first of the events to come, where no injection is due before it
first_well : (m : Answers) (time : ℕ) (ps : List Pending) (u : World) → AreInOrder ps → Each (λ g. time ≤ g.time) ps → ((p : Pending) (rest : List Pending) → ps ≡ p ∷ rest → IsAhead p.time u.delivered m.injections) → ComesWell m time ps (first_of u ps)
first_well m time [] u order due ahead = tt
first_well m time (p ∷ rest) u order due ahead = record { due = due.0; later = after_first p rest order; ahead = ahead p rest refl; left = inr refl }

-- the events to come are no earlier than an injection that goes first
goes_later : (i : Injection) (ps : List Pending) → AreInOrder ps → goes_first (first_due ps) i ≡ true → Each (λ g. i.due.time ≤ g.time) ps
goes_later i [] order h = tt
goes_later i (p ∷ rest) order h =
    let first = before_due i.due (record { time = p.time; priority = p.priority }) h in
    (first, each_map (λ g. p.time ≤ g.time) (λ g. i.due.time ≤ g.time) rest (λ g l. omega (arith, l, first)) (after_first p rest order))

-- an injection that does not go first is no earlier than the first of the events to come
stays_later : (i : Injection) (p : Pending) → goes_first (Some (record { time = p.time; priority = p.priority })) i ≡ false → p.time ≤ i.due.time
stays_later i p h = behind_due i.due (record { time = p.time; priority = p.priority }) h

-- an injection goes first
aimed_well : (m : Answers) (time : ℕ) (ps : List Pending) (u : World) (go_on : World → Upcoming) (i : Injection) (target : Option ℕ) → ComesWell m time ps (go_on (delivered i u)) → time ≤ i.due.time → Each (λ g. i.due.time ≤ g.time) ps → ComesWell m time ps (aimed go_on (delivered i u) ps i target)
aimed_well m time ps u go_on i None f h later = f
aimed_well m time ps u go_on i (Some id) f h later = record { due = h; later = later; ahead = ahead_of_delivered i.due.time i m.injections (omega arith); left = inl refl }

-- the first injection that is left, where there is one
chosen_well : (m : Answers) (time : ℕ) (ps : List Pending) (u : World) (go_on : World → Upcoming) (found : Option Injection) → AreInOrder ps → Each (λ g. time ≤ g.time) ps → first_undelivered u.delivered m.injections ≡ found → NotSooner time found → ((i : Injection) → time ≤ i.due.time → ComesWell m time ps (go_on (delivered i u))) → ComesWell m time ps (chosen go_on u ps (answer.Injection (if_first (first_due ps) found)))
chosen_well m time ps u go_on None order due e h f =
    first_well m time ps u order due (λ p rest s. ahead_of_first p.time u.delivered m.injections (subst (NotSooner p.time) (sym e) tt))
chosen_well m time ps u go_on (Some i) order due e h f = by (goes_first (first_due ps) i) refl
  where
    by : (c : Bool) → goes_first (first_due ps) i ≡ c → ComesWell m time ps (chosen go_on u ps (answer.Injection (if c then Some i else None)))
    by true g = aimed_well m time ps u go_on i (target_of i.path u) (f i h) h (goes_later i ps order g)
    by false g =
        first_well m time ps u order due (λ p rest s. ahead_of_first p.time u.delivered m.injections (subst (NotSooner p.time) (sym e) (stays_later i p (subst (λ (qs : List Pending). goes_first (first_due qs) i ≡ false) s g))))

-- where so many injections may be discarded
coming_well : (left : ℕ) (m : Answers) (time : ℕ) (ps : List Pending) (v : World) → AreInOrder ps → Each (λ g. time ≤ g.time) ps → IsAhead time v.delivered m.injections → ComesWell m time ps (upcoming_in left m ps v)
coming_well zero m time ps v order due ahead = tt
coming_well (suc left) m time ps v order due ahead =
    chosen_well m time ps (asked_next (InjectionBefore (first_due ps) v.delivered) v) (upcoming_in left m ps) (first_undelivered v.delivered m.injections) order due refl (first_ahead time v.delivered m.injections ahead)
    (λ i h. coming_well left m time ps _ order due (ahead_of_delivered time i m.injections h))

-- what comes next
pub upcoming_well : (m : Answers) (w : World) → AreInOrder w.pending → Each (λ g. w.clock ≤ g.time) w.pending → IsAhead w.clock w.delivered m.injections → ComesWell m w.clock w.pending (upcoming m w)
unfolding upcoming
upcoming_well m w order due ahead = coming_well (suc (length m.injections)) m w.clock w.pending w order due ahead
