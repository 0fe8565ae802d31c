-- Where connections are written, and the loop variables around them.
use Rattle.std.proofs.Common.{◌≡◌, ℕ, suc, zero, ◌-◌, ◌<◌, ◌≤◌, ◌==◌, ℤ, pos, Bool, true, false, if◌then◌else◌, List, [], ◌∷◌, ◌++◌, length, reverse, take, get_or, slice_get, Some, None, refl, ap, sym, ◌∙◌, arith}
use Rattle.std.proofs.lemmas.Bool.{eqb-true, eqb-false}
use Rattle.std.proofs.lemmas.List.{append-nil, reverse-append}
use Rattle.std.proofs.Math.Seq.{take-length, take-suc}
use Rattle.ned_trees.specs.declared.connections.Clause.{Clause}
use Rattle.ned_trees.specs.declared.connections.Clause.TheVariants.{For}
use Rattle.ned_trees.specs.declared.connections.Loop.{Loop}
use Rattle.inside_keys.specs.Given.{behind, bound_by, scope_at}
use Rattle.inside_keys.specs.Places.{Scope, bind}

behind_by : {A : Type 0} (x : A) (xs : List A) (n : ℕ) (t : Bool) → (length xs == n) ≡ t → n < suc (length xs) → (n < length xs → slice_get xs (length xs - 1 - n) ≡ behind n xs)
    → slice_get (x ∷ xs) (suc (length xs) - 1 - n) ≡ (if t then Some x else behind n xs)
behind_by x xs n true e h f = let z : suc (length xs) - 1 - n ≡ 0 = omega (arith, eqb-true (length xs) n e) in ap (slice_get (x ∷ xs)) z
behind_by x xs n false e h f =
    let l : n < length xs = omega (arith, h, eqb-false (length xs) n e) in
    let z : suc (length xs) - 1 - n ≡ suc (length xs - 1 - n) = omega (arith, l) in
    ap (slice_get (x ∷ xs)) z ∙ f l

-- counted from the end, it is that one
pub behind_at : {A : Type 0} (xs : List A) (n : ℕ) → n < length xs → slice_get xs (length xs - 1 - n) ≡ behind n xs
behind_at [] n h = absurd (omega arith)
behind_at (x ∷ xs) n h = behind_by x xs n (length xs == n) refl h (behind_at xs n)

none_by : {A : Type 0} (x : A) (xs : List A) (n : ℕ) (t : Bool) → (length xs == n) ≡ t → suc (length xs) ≤ n → behind n xs ≡ None → None ≡ (if t then Some x else behind n xs)
none_by x xs n true e h f = absurd (omega (arith, h, eqb-true (length xs) n e))
none_by x xs n false e h f = sym f

-- no list has so many after one
pub behind_none : {A : Type 0} (xs : List A) (n : ℕ) → length xs ≤ n → None ≡ behind n xs
behind_none [] n h = refl
behind_none (x ∷ xs) n h = none_by x xs n (length xs == n) refl h (sym (behind_none xs n (omega arith)))

-- the last of the first numbers comes first, from the end
pub last_first : (zs : List ℤ) (n : ℕ) → 0 < n → n ≤ length zs → reverse (take n zs) ≡ get_or zs (n - 1) (pos 0) ∷ reverse (take (n - 1) zs)
last_first zs zero h k = absurd (omega arith)
last_first zs (suc n) h k =
    let same : n ≡ suc n - 1 = omega arith in
    ap reverse (take-suc zs n (pos 0) (omega arith)) ∙ reverse-append (take n zs) (get_or zs n (pos 0) ∷ []) ∙ ap (λ m. get_or zs m (pos 0) ∷ reverse (take m zs)) same

-- a loop binds its variable to it
pub bound_first : (f : Loop) (rest : List Clause) (scope : Scope) (zs : List ℤ) (n : ℕ) → 0 < n → n ≤ length zs
    → bound_by (For f ∷ rest) scope (reverse (take n zs)) ≡ bound_by rest (bind f.variable (get_or zs (n - 1) (pos 0)) scope) (reverse (take (n - 1) zs))
bound_first f rest scope zs n h k = ap (λ ys. bound_by (For f ∷ rest) scope ys) (last_first zs n h k)

-- the clauses of a group bind their variables, and then those of the connection do
pub bound_at_both : (around clauses : List Clause) (turn : List ℤ) (first middle last : Scope) (all n m : ℕ) → first ≡ [] → all ≡ length turn
    → ((more : List Clause) → bound_by (around ++ more) first (reverse (take all turn)) ≡ bound_by more middle (reverse (take n turn)))
    → ((more : List Clause) → bound_by (clauses ++ more) middle (reverse (take n turn)) ≡ bound_by more last (reverse (take m turn)))
    → last ≡ scope_at (around ++ clauses) turn
bound_at_both around clauses turn first middle last all n m e f h k =
    let whole : take all turn ≡ turn = ap (λ i. take i turn) f ∙ take-length turn in
    sym (
    ap (λ zs. bound_by (around ++ clauses) [] (reverse zs)) (sym whole)
    ∙ ap (λ (s : Scope). bound_by (around ++ clauses) s (reverse (take all turn))) (sym e)
    ∙ h clauses
    ∙ ap (λ cs. bound_by cs middle (reverse (take n turn))) (sym (append-nil clauses))
    ∙ k []
    )
