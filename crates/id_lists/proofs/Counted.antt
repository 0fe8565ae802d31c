-- How often ids stand in a list.
use Rattle.std.proofs.Common.{◌≡◌, ℕ, ◌+◌, ◌==◌, nat_lt, cond, Bool, true, false, ◌||◌, List, [], ◌∷◌, refl, sym, ap, ◌∙◌, arith}
use Rattle.std.proofs.lemmas.Bool.{lt-ltb}
use Rattle.std.proofs.lemmas.List.Recursion.{is_count_by}
use Rattle.std.specs.List.{list_any}
use Rattle.id_lists.specs.Counts.{count_of}

-- how often, id by id
abbrev times : ℕ → List ℕ → ℕ
times id [] = 0
times id (x ∷ xs) = cond (x == id) (1 + times id xs) (times id xs)

times_any : (id : ℕ) (ids : List ℕ) → nat_lt 0 (times id ids) ≡ list_any (λ n. n == id) ids
times_any id [] = refl
times_any id (x ∷ xs) = by (x == id) (times_any id xs)
  where
    by : (t : Bool) → nat_lt 0 (times id xs) ≡ list_any (λ n. n == id) xs → nat_lt 0 (cond t (1 + times id xs) (times id xs)) ≡ (t || list_any (λ n. n == id) xs)
    by true h = lt-ltb 0 (1 + times id xs) (omega arith)
    by false h = h

-- it stands there where it stands there more often than never
pub counted_any : (id : ℕ) (ids : List ℕ) → nat_lt 0 (count_of id ids) ≡ list_any (λ n. n == id) ids
counted_any id ids = ap (nat_lt 0) (sym (is_count_by (times id) (λ n. n == id) refl (λ x xs. refl) ids)) ∙ times_any id ids
