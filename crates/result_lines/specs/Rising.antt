-- Ids of modules that rise.
use Rattle.std.specs.Prelude.{◌≡◌, ℕ, ◌<◌, ◌≤◌, Bool, true, false, List, Option, Some, None}
use Rattle.std.specs.List.Sorted.{IsNonDecreasingBy}
use Rattle.recorders.specs.declared.vector_line.VectorLine.{VectorLine}

-- the least number, from that one on, that passes a test; none where none of them does
abbrev pub IsLeastFrom : ℕ → (ℕ → Bool) → Option ℕ → Type 0
IsLeastFrom from is_meant None = (n : ℕ) → from ≤ n → is_meant n ≡ false
IsLeastFrom from is_meant (Some least) =
    (from ≤ least) × (is_meant least ≡ true) × ((n : ℕ) → from ≤ n → n < least → is_meant n ≡ false)

-- the vectors stand by rising id of the module
abbrev pub AreByModule : List VectorLine → Type 0
AreByModule vectors = IsNonDecreasingBy (λ (v : VectorLine). v.id) vectors
