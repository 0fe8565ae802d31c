-- Lists that stand in another one, in its order.
use Rattle.std.specs.Prelude.{◌≡◌, ℕ, ◌<◌, ◌==◌, ◌&&◌, Bool, true, false, List, [], ◌∷◌, length}
use Rattle.std.specs.Prelude.{slice_index}
use Rattle.ini_trees.specs.Counts.{same_number}
use Rattle.ini_trees.specs.Merge.{stands_in, without_head}
use Rattle.ini_trees.specs.Numbered.{line_at}

abbrev pub is_nil : List ℕ → Bool
is_nil [] = true
is_nil (x ∷ xs) = false

-- the numbers of the first list stand in the other one, in the same order
abbrev pub is_part : List ℕ → List ℕ → Bool
is_part part [] = is_nil part
is_part part (x ∷ xs) = is_part (without_head same_number x part) xs

-- each number stands once in the list
abbrev pub StandOnce : List ℕ → Type 0
StandOnce [] = Unit {0}
StandOnce (x ∷ xs) = (stands_in same_number x xs ≡ false) × StandOnce xs

-- each number stands once in the line of the first of these sections
abbrev pub IsFirstOnce : List (List ℕ) → List ℕ → Type 0
IsFirstOnce lines [] = Unit {0}
IsFirstOnce lines (first ∷ others) = StandOnce (line_at lines first)

-- the list has that number alone
abbrev pub is_alone : ℕ → List ℕ → Bool
is_alone number [] = false
is_alone number (x ∷ xs) = (x == number) && is_nil xs

-- what does not stand in the list is not counted
abbrev pub CountsOnly : List ℕ → List ℕ → Type 0
CountsOnly waiting row = (k : ℕ) → k < length waiting → stands_in same_number k row ≡ false
    → slice_index waiting k ≡ 0
