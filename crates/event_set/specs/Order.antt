-- The order of events to come.
use Rattle.std.specs.Prelude.{◌≢◌, nat_lt, int_lt, ◌==◌, Bool, true, false, IsTrue, List, [], ◌∷◌}
use Rattle.std.specs.Prelude.{if◌then◌else◌}
use Rattle.event_set.specs.declared.pending.Pending.{Pending}

-- by time, then priority, then insertion number (OMNeT++ Simulation Manual, "Message Scheduling and
-- Priority")
abbrev pub comes_before : Pending → Pending → Bool
comes_before a b =
    if a.time == b.time
    then (if int_lt a.priority b.priority then true
    else (if int_lt b.priority a.priority then false else nat_lt a.number b.number))
    else nat_lt a.time b.time

-- the list with one more, before the first that comes after it
abbrev pub inserted : Pending → List Pending → List Pending
inserted e [] = e ∷ []
inserted e (f ∷ fs) = if comes_before e f then e ∷ f ∷ fs else f ∷ inserted e fs

-- it holds of each
abbrev pub Each : {X : Type 0} → (X → Type 0) → List X → Type 0
Each P [] = Unit {0}
Each P (x ∷ xs) = P x × Each P xs

-- each event comes before all that follow it
abbrev pub AreInOrder : List Pending → Type 0
AreInOrder [] = Unit {0}
AreInOrder (e ∷ es) = Each (λ f. IsTrue (comes_before e f)) es × AreInOrder es

-- no two events have the same insertion number
abbrev pub HaveOwnNumbers : List Pending → Type 0
HaveOwnNumbers [] = Unit {0}
HaveOwnNumbers (e ∷ es) = Each (λ f. f.number ≢ e.number) es × HaveOwnNumbers es
