-- Injections: messages from outside, and the order in which they go.
use Rattle.std.specs.Prelude.{◌≡◌, ◌↔◌, ◌==◌, nat_lt, int_lt, Bool, true, false, List, [], ◌∷◌}
use Rattle.std.specs.Prelude.{Option, Some, None, if◌then◌else◌}
use Rattle.model_injections.specs.declared.injection.Due.{Due}
use Rattle.model_injections.specs.declared.injection.Injection.{Injection}
use Rattle.model_injections.specs.declared.injection.InjectionTurn.{InjectionTurn}

-- by time, then priority
abbrev pub due_before : Due → Due → Bool
due_before a b = if a.time == b.time then int_lt a.priority b.priority else nat_lt a.time b.time

-- by when they are due, then by number
abbrev pub goes_before : InjectionTurn → InjectionTurn → Bool
goes_before a b = if due_before a.due b.due then true
    else (if due_before b.due a.due then false else nat_lt a.number b.number)

abbrev pub turn_of : Injection → InjectionTurn
turn_of i = record { due = i.due; number = i.number }

-- Injections are delivered in their order: those up to the last one that was.
abbrev pub is_undelivered : Option InjectionTurn → Injection → Bool
is_undelivered None i = true
is_undelivered (Some last) i = goes_before last (turn_of i)

-- the one that goes first of two
abbrev pub sooner : Injection → Option Injection → Option Injection
sooner i None = Some i
sooner i (Some j) = if goes_before (turn_of j) (turn_of i) then Some j else Some i

-- the same, where it is not delivered
abbrev pub sooner_undelivered : Option InjectionTurn → Injection → Option Injection
    → Option Injection
sooner_undelivered last i other = if is_undelivered last i then sooner i other else other

-- the first that is not delivered, where this one was delivered last
abbrev pub first_undelivered : Option InjectionTurn → List Injection → Option Injection
first_undelivered last [] = None
first_undelivered last (i ∷ is) = sooner_undelivered last i (first_undelivered last is)

-- It goes before an event that is due then, where it is due before; at equality it goes after.
-- Where no event is left it goes in any case.
abbrev pub goes_first : Option Due → Injection → Bool
goes_first None i = true
goes_first (Some due) i = due_before i.due due

abbrev pub if_first : Option Due → Option Injection → Option Injection
if_first due None = None
if_first due (Some i) = if goes_first due i then Some i else None

-- THE INJECTION that goes before an event that is due then, where this one was delivered last
abbrev pub injection_before : Option Due → Option InjectionTurn → List Injection → Option Injection
injection_before due last is = if_first due (first_undelivered last is)

-- ---- what a delivery changes

-- it holds of each
abbrev pub OfEach : (Injection → Type 0) → List Injection → Type 0
OfEach P [] = Unit {0}
OfEach P (i ∷ is) = P i × OfEach P is

-- Where the one is delivered after what was, exactly those others are left that were left before.
abbrev pub DeliversOne : Option InjectionTurn → Injection → Injection → Type 0
DeliversOne last one i = is_undelivered (Some (turn_of one)) i ≡ true
    ↔ (is_undelivered last i ≡ true) × (turn_of i ≡ turn_of one → ⊥)
