-- Entries by the numbers of their lines, and by the sections in which they stand.
use Rattle.std.specs.Prelude.{◌≡◌, ◌≢◌, ℕ, ◌<◌, true, List, [], ◌∷◌, ◌++◌, Option, Some, None}
use Rattle.std.specs.Prelude.{length, map, slice_get}
use Rattle.std.specs.List.{filter_map}
use Rattle.std.specs.Option.{option_and_then}
use Rattle.ini_trees.specs.declared.lines.IniEntry.{IniEntry}
use Rattle.ini_trees.specs.declared.lines.IniLine.{IniLine}
use Rattle.ini_trees.specs.Numbers.{name_at, names_behind}
use Rattle.ini_trees.specs.Sections.{entries_under, entry_here}
use Rattle.ini_trees.specs.Words.{Bytes}

-- the entry that a line is, where it is one
abbrev pub entry_of : IniLine → Option IniEntry
entry_of l = entry_here true l.meaning

-- the entry that the line of that number is, where there is one
abbrev pub entry_on : List IniLine → ℕ → Option IniEntry
entry_on lines n = option_and_then entry_of (slice_get lines n)

-- what the lines of these numbers are, of each the entry
abbrev pub told : List IniLine → List ℕ → List (Option IniEntry)
told lines numbers = map (entry_on lines) numbers

-- THE NUMBERS OF ENTRIES: the lines of these numbers are the entries, one by one
abbrev pub AreNumbersOf : List IniLine → List IniEntry → List ℕ → Type 0
AreNumbersOf lines es numbers = told lines numbers ≡ map Some es

-- the entries among the lines of these numbers
abbrev pub entries_on : List IniLine → List ℕ → List IniEntry
entries_on lines numbers = filter_map (entry_on lines) numbers

-- the number, where there is an entry
abbrev pub number_where : ℕ → Option IniEntry → List ℕ
number_where n None = []
number_where n (Some e) = n ∷ []

abbrev pub or_none : Option (List ℕ) → List ℕ
or_none None = []
or_none (Some ns) = ns

-- the list of the section of that number
abbrev pub numbers_at : List (List ℕ) → ℕ → List ℕ
numbers_at lists k = or_none (slice_get lists k)

-- the number of a line was added to the list of that number, and to no other
abbrev pub AddsTo : ℕ → ℕ → List (List ℕ) → List (List ℕ) → Type 0
AddsTo section number old new =
    (numbers_at new section ≡ numbers_at old section ++ number ∷ [])
    × ((k : ℕ) → k < length old → k ≢ section → numbers_at new k ≡ numbers_at old k)

-- the names are those of the sections of these lines, and for each there are the numbers of its
-- entries
pub record HaveNumbers (lines : List IniLine) (names : List Bytes) (lists : List (List ℕ)) : Type 0
  where
    pub named : names ≡ names_behind [] lines
    pub size : length lists ≡ length names
    pub entries : (k : ℕ) → k < length names
        → AreNumbersOf lines (entries_under (name_at names k) lines) (numbers_at lists k)
