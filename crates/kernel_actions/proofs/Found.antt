-- The first module of a path that lives, by paths and by records.
use Rattle.std.proofs.Common.{◌≡◌, ℕ, suc, ◌+◌, ◌<◌, cond, Bool, true, false, List, [], ◌∷◌, Option, Some, None, refl, sym, ap, ◌∙◌, arith, length, map, if◌then◌else◌}
use Rattle.std.proofs.lemmas.Iterator.Adapters.{position_from-zero}
use Rattle.std.specs.List.{position, position_from}
use Rattle.model_questions.specs.declared.record.Record.{Record}
use Rattle.path_table.specs.declared.ModuleAt.{ModuleAt}
use Rattle.run_semantics.specs.Routes.{first_from}
use Rattle.run_semantics.specs.Subtree.{ids_from}

-- an id, by a place
abbrev later : Option ℕ → Option ℕ
later None = None
later (Some n) = Some (n + 1)

found_from : (test : ModuleAt → Bool) (f : ℕ → ModuleAt) (i : ℕ) (rs : List Record) → first_from (λ id. test (f id)) (suc i) rs ≡ later (position_from test i (map f (ids_from (suc i) rs)))
found_from test f i [] = refl
found_from test f i (r ∷ rs) = by (test (f (suc i))) (found_from test f (suc i) rs)
  where
    next : suc i ≡ i + 1
    next = omega arith

    by : (t : Bool) → first_from (λ id. test (f id)) (suc (suc i)) rs ≡ later (position_from test (suc i) (map f (ids_from (suc (suc i)) rs)))
        → (if t then Some (suc i) else first_from (λ id. test (f id)) (suc (suc i)) rs) ≡ later (cond t (Some i) (position_from test (i + 1) (map f (ids_from (suc (suc i)) rs))))
    by true h = ap Some next
    by false h = h ∙ ap (λ n. later (position_from test n (map f (ids_from (suc (suc i)) rs)))) next

found_at : (test : ModuleAt → Bool) (f : ℕ → ModuleAt) (rs : List Record) → later (position test (map f (ids_from 1 rs))) ≡ first_from (λ id. test (f id)) 1 rs
found_at test f rs = ap later (position_from-zero test (map f (ids_from 1 rs))) ∙ sym (found_from test f 0 rs)

pub found_some : (test : ModuleAt → Bool) (f : ℕ → ModuleAt) (rs : List Record) (n : ℕ) → Some n ≡ position test (map f (ids_from 1 rs)) → Some (n + 1) ≡ first_from (λ id. test (f id)) 1 rs
found_some test f rs n e = ap later e ∙ found_at test f rs

pub found_none : (test : ModuleAt → Bool) (f : ℕ → ModuleAt) (rs : List Record) → None ≡ position test (map f (ids_from 1 rs)) → None ≡ first_from (λ id. test (f id)) 1 rs
found_none test f rs e = ap later e ∙ found_at test f rs

-- a place in a list
within_from : {X : Type 0} (test : X → Bool) (i : ℕ) (xs : List X) (n : ℕ) → position_from test i xs ≡ Some n → n < i + length xs
within_from test i [] n e = cc
within_from test i (x ∷ xs) n e = by (test x) e (within_from test (i + 1) xs n)
  where
    by : (t : Bool) → cond t (Some i) (position_from test (i + 1) xs) ≡ Some n → (position_from test (i + 1) xs ≡ Some n → n < (i + 1) + length xs) → n < i + suc (length xs)
    by true e more = let same : i ≡ n = cc in omega (arith, same)
    by false e more = let less = more e in omega (arith, less)

pub place_within : {X : Type 0} (test : X → Bool) (xs : List X) (n : ℕ) → position test xs ≡ Some n → n < length xs
place_within test xs n e = let less = within_from test 0 xs n (sym (position_from-zero test xs) ∙ e) in omega (arith, less)
