-- The entries of a text by the sections in which they stand.
use Rattle.std.specs.Prelude.{◌≡◌, ◌≢◌, ℕ, ◌<◌, List, [], ◌∷◌, ◌++◌, Option, Some, None, Vec}
use Rattle.std.specs.Prelude.{length, map, slice_get}
use Rattle.std.specs.Borrow.{Bor}
use Rattle.std.specs.declared.alloc.Global.{Global}
use Rattle.ini_trees.specs.declared.lines.IniEntry.{IniEntry}
use Rattle.ini_trees.specs.declared.lines.IniLine.{IniLine}
use Rattle.ini_trees.specs.Numbers.{name_at}
use Rattle.ini_trees.specs.Sections.{entries_under}
use Rattle.ini_trees.specs.Words.{Bytes}

-- the entries that references lead to
abbrev pub entries_in : List (Bor IniEntry) → List IniEntry
entries_in refs = map (λ (r : Bor IniEntry). r.now) refs

-- lists of entries, one for each section
abbrev pub EntryLists : Type 0
EntryLists = List (Vec (Bor IniEntry) Global)

abbrev pub entries_of : Option (Vec (Bor IniEntry) Global) → List IniEntry
entries_of None = []
entries_of (Some list) = entries_in list.items

-- the list of the section of that number
abbrev pub entries_at : EntryLists → ℕ → List IniEntry
entries_at lists k = entries_of (slice_get lists k)

-- the entry, where there is one
abbrev pub one_of : Option IniEntry → List IniEntry
one_of None = []
one_of (Some e) = e ∷ []

-- an entry was added to the list of that number, and to no other
abbrev pub AddsTo : ℕ → IniEntry → EntryLists → EntryLists → Type 0
AddsTo number e old new =
    (entries_at new number ≡ entries_at old number ++ e ∷ [])
    × ((k : ℕ) → k < length old → k ≢ number → entries_at new k ≡ entries_at old k)

-- for each section the entries that stand in it
abbrev pub HaveEntries : List IniLine → List Bytes → EntryLists → Type 0
HaveEntries lines names lists =
    (length lists ≡ length names)
    × ((k : ℕ) → k < length names → entries_at lists k ≡ entries_under (name_at names k) lines)
