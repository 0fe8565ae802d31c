-- How often numbers stand in lists that are merged, as the code counts them.
use Rattle.std.specs.Prelude.{◌≡◌, ℕ, ◌+◌, ◌<◌, ◌==◌, Bool, true, false, List, [], ◌∷◌, length}
use Rattle.std.specs.Prelude.{slice_index, Option, Some, None, Result, Ok, Err}
use Rattle.std.specs.List.{All}
use Rattle.ini_trees.specs.Merge.{tail, IsMerge}

abbrev pub one_where : Bool → ℕ
one_where true = 1
one_where false = 0

-- the two numbers are one
abbrev pub same_number : ℕ → ℕ → Bool
same_number a b = a == b

-- how often the list has the number
abbrev pub held : ℕ → List ℕ → ℕ
held k [] = 0
held k (x ∷ xs) = one_where (x == k) + held k xs

-- how often it stands in the tails of the lists
abbrev pub behind : ℕ → List (List ℕ) → ℕ
behind k [] = 0
behind k (l ∷ ls) = held k (tail l) + behind k ls

-- the numbers of the list are below that one
abbrev pub AreBelow : ℕ → List ℕ → Type 0
AreBelow n xs = All (λ x. x < n) xs

abbrev pub AreAllBelow : ℕ → List (List ℕ) → Type 0
AreAllBelow n ls = All (λ l. AreBelow n l) ls

-- for each number how often it stands in the tails
abbrev pub Counts : List ℕ → List (List ℕ) → Type 0
Counts waiting ls = (k : ℕ) → k < length waiting → slice_index waiting k ≡ behind k ls

-- the merge of the lists, or that there is none, or lack of memory
abbrev pub SettlesMerge : {E : Type 0} → List (List ℕ) → Result (Option (List ℕ)) E → Type 0
SettlesMerge ls (Ok (Some line)) = IsMerge same_number ls line
SettlesMerge ls (Ok None) = (line : List ℕ) → IsMerge same_number ls line → ⊥
SettlesMerge ls (Err e) = Unit {0}

-- nothing is counted
abbrev pub HoldsZeros : List ℕ → Type 0
HoldsZeros waiting = (k : ℕ) → k < length waiting → slice_index waiting k ≡ 0

-- nothing is counted after a merge
abbrev pub ZerosBehind : {E : Type 0} → List ℕ → Result (Option (List ℕ)) E → Type 0
ZerosBehind waiting (Ok (Some line)) = HoldsZeros waiting
ZerosBehind waiting (Ok None) = Unit {0}
ZerosBehind waiting (Err e) = Unit {0}
