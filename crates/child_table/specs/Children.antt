-- Modules by the one around them.
use Rattle.std.specs.Prelude.{◌≡◌, ◌≢◌, ℕ, suc, ◌==◌, List, [], ◌∷◌, ◌++◌, Option, Some, None}
use Rattle.std.specs.Prelude.{if◌then◌else◌, slice_get}

-- those modules that stand in that one, by their ids, where each of these is around one module, and
-- the first of these modules has that id
abbrev pub children_from : ℕ → ℕ → List ℕ → List ℕ
children_from parent id [] = []
children_from parent id (p ∷ ps) = if p == parent then id ∷ children_from parent (suc id) ps
    else children_from parent (suc id) ps

-- THE SUBMODULES of a module, by their ids, where each of these is the one around a module. Ids count
-- from 1.
abbrev pub children_of : ℕ → List ℕ → List ℕ
children_of parent parents = children_from parent 1 parents

-- ---- lists of them

abbrev pub or_none : Option (List ℕ) → List ℕ
or_none None = []
or_none (Some ids) = ids

-- the list at that place; one that is not there is empty
abbrev pub list_at : List (List ℕ) → ℕ → List ℕ
list_at lists place = or_none (slice_get lists place)

-- the list at each place has the submodules of the module of that id
abbrev pub AreChildren : List ℕ → List (List ℕ) → Type 0
AreChildren parents lists = (p : ℕ) → list_at lists p ≡ children_of p parents

-- one more stands in the list at that place, and all others are as they were
abbrev pub HasOneMore : ℕ → ℕ → List (List ℕ) → List (List ℕ) → Type 0
HasOneMore place id old new = (list_at new place ≡ list_at old place ++ id ∷ [])
    × ((p : ℕ) → p ≢ place → list_at new p ≡ list_at old p)

-- the last one of the list at that place is gone, and all others are as they were
abbrev pub HasOneLess : ℕ → List (List ℕ) → List (List ℕ) → Type 0
HasOneLess place old new = (last : ℕ) (front : List ℕ) → list_at old place ≡ front ++ last ∷ []
    → (list_at new place ≡ front) × ((p : ℕ) → p ≢ place → list_at new p ≡ list_at old p)
