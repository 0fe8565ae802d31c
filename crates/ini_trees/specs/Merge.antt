-- Lists that are merged into one: again and again the first head of a list that stands in no tail
-- of a list. OMNeT++ Simulation Manual, "Section Inheritance": the order of sections is that of the
-- C3 linearization.
use Rattle.std.specs.Prelude.{◌≡◌, Bool, List, [], ◌∷◌, map, Option, Some, None, if◌then◌else◌}
use Rattle.std.specs.List.{All, list_any}

-- what stands after the head
abbrev pub tail : {X : Type 0} → List X → List X
tail [] = []
tail (x ∷ xs) = xs

-- the list has it, by that test
abbrev pub stands_in : {X : Type 0} → (X → X → Bool) → X → List X → Bool
stands_in same x l = list_any (λ y. same y x) l

-- it stands in the tail of one of the lists
abbrev pub stands_behind : {X : Type 0} → (X → X → Bool) → X → List (List X) → Bool
stands_behind same x ls = list_any (λ l. stands_in same x (tail l)) ls

-- the first head of these lists that stands in no tail of all of them
abbrev pub first_free : {X : Type 0} → (X → X → Bool) → List (List X) → List (List X) → Option X
first_free same all [] = None
first_free same all ([] ∷ ls) = first_free same all ls
first_free same all ((x ∷ xs) ∷ ls) =
    if stands_behind same x all then first_free same all ls else Some x

-- the list without that head
abbrev pub without_head : {X : Type 0} → (X → X → Bool) → X → List X → List X
without_head same x [] = []
without_head same x (y ∷ ys) = if same y x then ys else y ∷ ys

-- the lists, each without that head
abbrev pub without : {X : Type 0} → (X → X → Bool) → X → List (List X) → List (List X)
without same x ls = map (λ l. without_head same x l) ls

-- THE MERGE of lists: the first head that stands in no tail, and then the merge of what is left of
-- the lists. Where there is no such head and something is left, there is no merge.
abbrev pub IsMerge : {X : Type 0} → (X → X → Bool) → List (List X) → List X → Type 0
IsMerge same ls [] = All (λ l. l ≡ []) ls
IsMerge same ls (x ∷ more) =
    (first_free same ls ls ≡ Some x) × IsMerge same (without same x ls) more
