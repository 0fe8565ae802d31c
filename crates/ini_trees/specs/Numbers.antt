-- Sections by numbers, and what each extends.
use Rattle.std.specs.Prelude.{◌≡◌, ◌⊎◌, ℕ, zero, suc, ◌+◌, ◌-◌, ◌<◌, ◌≤◌, Bool, true, false, not}
use Rattle.std.specs.Prelude.{List, [], ◌∷◌, ◌++◌, length, map, slice_index_or, take, Option, Some}
use Rattle.std.specs.Prelude.{None, Result, Ok, Err, if◌then◌else◌}
use Rattle.std.specs.List.{Contains, filter, list_any}
use Rattle.std.specs.Str.{bytes_eq}
use Rattle.ini_trees.specs.declared.order.Walk.{Walk}
use Rattle.ini_trees.specs.declared.order.Next.{Next}
use Rattle.ini_trees.specs.declared.order.Next.TheVariants as next
use Rattle.ini_trees.specs.declared.lines.IniLine.{IniLine}
use Rattle.ini_trees.specs.declared.lines.LineMeaning.{LineMeaning}
use Rattle.ini_trees.specs.declared.lines.LineMeaning.TheVariants as line
use Rattle.ini_trees.specs.Counts.{AreBelow}
use Rattle.ini_trees.specs.Sections.{general, bases_named}
use Rattle.ini_trees.specs.Words.{Bytes}

-- the name is one of those
abbrev pub holds : List Bytes → Bytes → Bool
holds names name = list_any (λ n. bytes_eq n name) names

-- the names, and that of the section that the line begins
abbrev pub with_section : List Bytes → LineMeaning → List Bytes
with_section names (line.Section name) = if holds names name then names else names ++ name ∷ []
with_section names _ = names

-- the names of the sections that lines begin, each once, after those
abbrev pub names_behind : List Bytes → List IniLine → List Bytes
names_behind names [] = names
names_behind names (l ∷ ls) = names_behind (with_section names l.meaning) ls

-- the name of that number
abbrev pub name_at : List Bytes → ℕ → Bytes
name_at names k = slice_index_or names k []

-- different numbers below that one have different names
abbrev pub AreApart : (ℕ → Bytes) → ℕ → Type 0
AreApart f n = (i j : ℕ) → i < n → j < n → f i ≡ f j → i ≡ j

-- a number of the name, or that it has none
abbrev pub IsNumber : List Bytes → Bytes → Option ℕ → Type 0
IsNumber names name (Some k) = (k < length names) × (name_at names k ≡ name)
IsNumber names name None = holds names name ≡ false

-- these names without General
abbrev pub others : List Bytes → List Bytes
others names = filter (λ base. not (bytes_eq base general)) names

-- the numbers of these names, or that one of the names has none
abbrev pub AreNumbers : List Bytes → List Bytes → Option (List ℕ) → Type 0
AreNumbers names bases (Some row) = (map (name_at names) row ≡ bases) × AreBelow (length names) row
AreNumbers names bases None = (base : Bytes) × Contains bases base × (holds names base ≡ false)

-- for each section the numbers of those that it extends, if they are all there
abbrev pub FitRows : List IniLine → List Bytes → List (Option (List ℕ)) → Type 0
FitRows lines names rows =
    (length rows ≡ length names)
    × ((k : ℕ) → k < length names
    → AreNumbers names (bases_named (name_at names k) lines) (slice_index_or rows k None))

-- ---- what sections extend, by their numbers

abbrev pub row_list : Option (List ℕ) → List ℕ
row_list (Some row) = row
row_list None = []

-- the numbers of those that a section extends; none where they are not all there
abbrev pub bases_at : List (Option (List ℕ)) → ℕ → List ℕ
bases_at rows k = row_list (slice_index_or rows k None)

-- what a section extends is all there, and what that extends, and so on, that deep and not deeper
abbrev pub IsWithin : ℕ → List (Option (List ℕ)) → ℕ → Type 0
IsWithin zero rows k = ⊥
IsWithin (suc depth) rows k =
    (row : List ℕ) × (slice_index_or rows k None ≡ Some row)
    × ((base : ℕ) → Contains (bases_at rows k) base → IsWithin depth rows base)

-- the section is the root, or is extended by it in so many steps
abbrev pub ReachedIn : ℕ → List (Option (List ℕ)) → ℕ → ℕ → Type 0
ReachedIn zero rows root k = k ≡ root
ReachedIn (suc steps) rows root k =
    (above : ℕ) × ReachedIn steps rows root above × Contains (bases_at rows above) k

abbrev pub IsReached : List (Option (List ℕ)) → ℕ → ℕ → Type 0
IsReached rows root k = (k < length rows) × (steps : ℕ) × ReachedIn steps rows root k

-- each section stands after those that it extends
abbrev pub IsOrdered : List (Option (List ℕ)) → List ℕ → Type 0
IsOrdered rows order =
    (i : ℕ) → i < length order → (base : ℕ)
    → Contains (bases_at rows (slice_index_or order i 0)) base → Contains (take i order) base

-- for each section a place of an order after which no section stands that extends it
abbrev pub AreLast : List (Option (List ℕ)) → List ℕ → List ℕ → Type 0
AreLast rows order last =
    (j : ℕ) → j < length order → (b : ℕ) → Contains (bases_at rows (slice_index_or order j 0)) b
    → j ≤ slice_index_or last b 0

-- ---- a walk

abbrev pub passed_at : List ℕ → ℕ → ℕ
passed_at passed k = slice_index_or passed k 0

abbrev pub is_done_at : List Bool → ℕ → Bool
is_done_at done k = slice_index_or done k false

-- how many bases a walk has still to pass, with one more for each section that was not begun
abbrev pub left_to_pass : List ℕ → List (Option (List ℕ)) → ℕ
left_to_pass [] rows = 0
left_to_pass (p ∷ ps) [] = 0
left_to_pass (p ∷ ps) (row ∷ rows) = (length (row_list row) + 1 - p) + left_to_pass ps rows

-- where a walk is
pub record IsWalk (rows : List (Option (List ℕ))) (root : ℕ) (path passed : List ℕ)
    (done : List Bool) (order : List ℕ) : Type 0 where
  pub passed_size : length passed ≡ length rows
  pub done_size : length done ≡ length rows
  pub open_held : (k : ℕ) → 0 < passed_at passed k → is_done_at done k ≡ false → Contains path k
  pub extends : (i : ℕ) → i + 1 < length path
      → Contains (bases_at rows (slice_index_or path i 0)) (slice_index_or path (i + 1) 0)
  pub path_reached : (k : ℕ) → Contains path k → IsReached rows root k
  pub order_reached : (k : ℕ) → Contains order k → IsReached rows root k
  pub ordered : IsOrdered rows order
  pub done_held : (k : ℕ) → is_done_at done k ≡ true → Contains order k
  pub root_held : Contains path root ⊎ Contains order root

-- one of these is not done, or all are
abbrev pub IsWaiting : List ℕ → List Bool → Option ℕ → Type 0
IsWaiting row done (Some base) = Contains row base × (is_done_at done base ≡ false)
IsWaiting row done None = (base : ℕ) → Contains row base → is_done_at done base ≡ true

-- what a walk does next where it is
abbrev pub IsNext : List (Option (List ℕ)) → List ℕ → List Bool → ℕ → Next → Type 0
IsNext rows passed done top (next.Begin base) =
    Contains (bases_at rows top) base × (passed_at passed base ≡ 0)
IsNext rows passed done top (next.Pass place) =
    (place ≡ passed_at passed top + 1) × (passed_at passed top < length (bases_at rows top))
IsNext rows passed done top next.Finish = (base : ℕ) → Contains (bases_at rows top) base
    → is_done_at done base ≡ true
IsNext rows passed done top next.Fault =
    (slice_index_or rows top None ≡ None)
    ⊎ ((base : ℕ) × Contains (bases_at rows top) base × (is_done_at done base ≡ false)
    × (0 < passed_at passed base))

-- the numbers of what each section extends are below how many there are
abbrev pub AreRows : List (Option (List ℕ)) → Type 0
AreRows rows = (k : ℕ) → AreBelow (length rows) (bases_at rows k)

-- how many steps are left of a walk, at most
abbrev pub steps_left : List (Option (List ℕ)) → Walk → ℕ
steps_left rows w = left_to_pass w.passed rows + left_to_pass w.passed rows + length w.path

-- the walk goes on, or the root goes to no depth
abbrev pub SettlesStep : {E : Type 0} → List (Option (List ℕ)) → ℕ → Walk → Walk
    → Result Bool E → Type 0
SettlesStep rows root old new (Ok true) =
    IsWalk rows root new.path new.passed new.done new.order
    × (steps_left rows new < steps_left rows old)
SettlesStep rows root old new (Ok false) = (depth : ℕ) → IsWithin depth rows root → ⊥
SettlesStep rows root old new (Err e) = Unit {0}

-- an order of all that the root extends, and so on, or that it goes to no depth
abbrev pub SettlesOrder : {E : Type 0} → List (Option (List ℕ)) → ℕ
    → Result (Option (List ℕ)) E → Type 0
SettlesOrder rows root (Ok (Some order)) =
    IsOrdered rows order × Contains order root
    × ((k : ℕ) → Contains order k → IsReached rows root k)
SettlesOrder rows root (Ok None) = (depth : ℕ) → IsWithin depth rows root → ⊥
SettlesOrder rows root (Err e) = Unit {0}

-- what a walk does at a base, with the next place after it
abbrev pub IsAtBase : List ℕ → ℕ → ℕ → Next → Type 0
IsAtBase passed base place (next.Begin other) = (other ≡ base) × (passed_at passed base ≡ 0)
IsAtBase passed base place (next.Pass other) = other ≡ place
IsAtBase passed base place next.Finish = ⊥
IsAtBase passed base place next.Fault = ⊥

-- what a walk does after all bases
abbrev pub IsBehindBases : List ℕ → List ℕ → List Bool → Next → Type 0
IsBehindBases row passed done (next.Begin base) = Contains row base × (passed_at passed base ≡ 0)
IsBehindBases row passed done (next.Pass place) = ⊥
IsBehindBases row passed done next.Finish = (base : ℕ) → Contains row base
    → is_done_at done base ≡ true
IsBehindBases row passed done next.Fault =
    (base : ℕ) × Contains row base × (is_done_at done base ≡ false) × (0 < passed_at passed base)
