-- Loops that have begun.
use Rattle.std.proofs.Common.{◌≡◌, ℕ, suc, zero, ◌+◌, ◌<◌, ℤ, true, false, if◌then◌else◌, List, [], ◌∷◌, Option, Some, None, bytes_eq, drop, length, slice_get, ap, sym, ◌∙◌, arith}
use Rattle.inside_keys.specs.declared.place.Binding.{Binding}
use Rattle.inside_keys.specs.Places.{Scope, variable_in}
use Rattle.inside_run.specs.Runs.{or_else}
use Rattle.inside_walk.specs.Tasks.{scope_of}
use Rattle.inside_walk.specs.declared.task.Task.{Task}

-- from that depth on the stack begins with what stands there
pub dropped : {A : Type 0} (ts : List A) (n : ℕ) (t : A) → slice_get ts n ≡ Some t → drop n ts ≡ t ∷ drop (n + 1) ts
dropped [] n t e = cc
dropped (u ∷ us) zero t e = let same : u ≡ t = cc in ap (λ x. x ∷ us) same
dropped (u ∷ us) (suc n) t e = let more : suc (n + 1) ≡ suc n + 1 = omega arith in dropped us n t e ∙ ap (λ k. t ∷ drop k (u ∷ us)) more

-- the value of a variable under the tasks from that depth on
abbrev pub below : List Task → ℕ → List ℕ → Option ℤ
below ts n x = variable_in (scope_of (drop n ts)) x

at_head : (ts : List Task) (n : ℕ) (t : Task) (x : List ℕ) (r : Option ℤ) → slice_get ts n ≡ Some t
    → ((us : List Task) → variable_in (scope_of (t ∷ us)) x ≡ or_else r (variable_in (scope_of us) x)) → below ts n x ≡ or_else r (below ts (n + 1) x)
at_head ts n t x r e h = ap (λ l. variable_in (scope_of l) x) (dropped ts n t e) ∙ h (drop (n + 1) ts)

-- the task there binds it
pub found_at : (ts : List Task) (n : ℕ) (t : Task) (x : List ℕ) (r : Option ℤ) (z : ℤ) → slice_get ts n ≡ Some t
    → ((us : List Task) → variable_in (scope_of (t ∷ us)) x ≡ or_else r (variable_in (scope_of us) x)) → r ≡ Some z → below ts n x ≡ variable_in (scope_of ts) x
    → Some z ≡ variable_in (scope_of ts) x
found_at ts n t x r z e h is inv = sym (sym inv ∙ at_head ts n t x r e h ∙ ap (λ o. or_else o (below ts (n + 1) x)) is)

-- it doesn't
pub next_at : (ts : List Task) (n : ℕ) (t : Task) (x : List ℕ) (r : Option ℤ) → slice_get ts n ≡ Some t
    → ((us : List Task) → variable_in (scope_of (t ∷ us)) x ≡ or_else r (variable_in (scope_of us) x)) → r ≡ None → below ts n x ≡ variable_in (scope_of ts) x
    → below ts (n + 1) x ≡ variable_in (scope_of ts) x
next_at ts n t x r e h is inv = sym (ap (λ o. or_else o (below ts (n + 1) x)) is) ∙ sym (at_head ts n t x r e h) ∙ inv

-- something stands at each depth above the ground
pub there_is : {A : Type 0} (ts : List A) (n : ℕ) → n < length ts → slice_get ts n ≡ None → ⊥
there_is [] n h e = omega arith
there_is (u ∷ us) zero h e = cc
there_is (u ∷ us) (suc n) h e = there_is us n (omega arith) e

-- a binding there is of the variable
pub bound_at : (bs : Scope) (n : ℕ) (b : Binding) (x : List ℕ) → slice_get bs n ≡ Some b → bytes_eq b.variable x ≡ true → variable_in (drop n bs) x ≡ variable_in bs x
    → Some b.value ≡ variable_in bs x
bound_at bs n b x e is inv =
    sym (sym inv ∙ ap (λ l. variable_in l x) (dropped bs n b e) ∙ ap (λ t. if t then Some b.value else variable_in (drop (n + 1) bs) x) is)

-- it isn't
pub unbound_at : (bs : Scope) (n : ℕ) (b : Binding) (x : List ℕ) → slice_get bs n ≡ Some b → bytes_eq b.variable x ≡ false → variable_in (drop n bs) x ≡ variable_in bs x
    → variable_in (drop (n + 1) bs) x ≡ variable_in bs x
unbound_at bs n b x e is inv =
    sym (ap (λ t. if t then Some b.value else variable_in (drop (n + 1) bs) x) is) ∙ sym (ap (λ l. variable_in l x) (dropped bs n b e)) ∙ inv
