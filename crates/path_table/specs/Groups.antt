-- The modules of one path each, as groups.
use Rattle.std.specs.Prelude.{◌≡◌, ◌≤◌, ◌<◌, ℕ, zero, suc, ◌+◌, ◌-◌, nat_le, Bool, true, false, ◌&&◌}
use Rattle.std.specs.Prelude.{List, [], ◌∷◌, Option, Some, None, if◌then◌else◌, slice_get}
use Rattle.std.specs.Str.{bytes_eq}
use Rattle.path_table.specs.declared.ModuleAt.{ModuleAt}
use Rattle.path_table.specs.declared.groups.Group.{Group}

-- whether that module is dead; one that is not there is not
abbrev pub dead_in : Option ModuleAt → Bool
dead_in None = false
dead_in (Some m) = m.is_dead

-- whether the module of that number is
abbrev pub dead_number : List ModuleAt → Option ℕ → Bool
dead_number modules None = false
dead_number modules (Some number) = dead_in (slice_get modules number)

-- the numbers of the modules of a path, which rise, where the first module has that number
abbrev pub numbers_of : List ℕ → ℕ → List ModuleAt → List ℕ
numbers_of path first [] = []
numbers_of path first (m ∷ ms) = if bytes_eq m.path path
    then first ∷ numbers_of path (first + 1) ms else numbers_of path (first + 1) ms

-- there are so many modules of that path at least, and so many of them are dead from the first on
abbrev pub begins_dead : List ℕ → ℕ → List ModuleAt → Bool
begins_dead path zero ms = true
begins_dead path (suc count) [] = false
begins_dead path (suc count) (m ∷ ms) = if bytes_eq m.path path
    then m.is_dead && begins_dead path count ms else begins_dead path (suc count) ms

-- whether a number is there that is no less than the other
abbrev pub is_from : ℕ → Option ℕ → Bool
is_from number None = false
is_from number (Some found) = nat_le number found

-- a front that goes back, so far that what stands just before it is less than that number
abbrev pub IsFrontBefore : ℕ → List ℕ → ℕ → ℕ → Type 0
IsFrontBefore number numbers before front =
    (front ≤ before) × (0 < front → is_from number (slice_get numbers (front - 1)) ≡ false)

-- A GROUP IS THAT OF A PATH: it has the numbers of its modules, and all before its front are dead.
pub record IsGroupOf (path : List ℕ) (modules : List ModuleAt) (group : Group) : Type 0 where
  pub all : group.numbers ≡ numbers_of path 0 modules
  pub dead : begins_dead path group.front modules ≡ true

-- MODULES ARE IN GROUPS, of which those of some paths have these numbers:
pub record AreGrouped (modules : List ModuleAt) (groups : List ℕ → Option ℕ)
    (members : List Group) : Type 0 where
  -- a path that has no group has no module;
  pub absent : (path : List ℕ) → groups path ≡ None → numbers_of path 0 modules ≡ []
  -- the group of a path is there;
  pub present : (path : List ℕ) (place : ℕ) → groups path ≡ Some place
      → (group : Group) × ((slice_get members place ≡ Some group) × IsGroupOf path modules group)
  -- and two paths of one group are one.
  pub apart : (one other : List ℕ) (place : ℕ) → groups one ≡ Some place
      → groups other ≡ Some place → one ≡ other
