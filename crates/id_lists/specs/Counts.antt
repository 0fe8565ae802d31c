-- How often ids stand in a list.
use Rattle.std.specs.Prelude.{◌≡◌, ℕ, ◌<◌, ◌^◌, ◌==◌, List, get_or, length}
use Rattle.std.specs.List.{count_by}

-- how often an id stands among these
abbrev pub count_of : ℕ → List ℕ → ℕ
count_of id ids = count_by (λ n. n == id) ids

-- where an id may have a slot it has one
abbrev pub has_slot : ℕ → List ℕ → Type 0
has_slot id counts = id < 2 ^ 20 → id < length counts

-- the slot of each id that may have one says how often it stands in the list: one that is not
-- there says that it stands nowhere
abbrev pub AreCounted : List ℕ → List ℕ → Type 0
AreCounted ids counts = (id : ℕ) → id < 2 ^ 20 → get_or counts id 0 ≡ count_of id ids
