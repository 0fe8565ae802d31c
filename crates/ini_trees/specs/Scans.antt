-- Which entries are looked for.
use Rattle.std.specs.Prelude.{◌≡◌, ◌≢◌, ℕ, ◌<◌, Bool, true, [], Option, Some, None, is_some, length}
use Rattle.std.specs.Prelude.{slice_index_or, List, if◌then◌else◌}
use Rattle.std.specs.Borrow.{Bor}
use Rattle.std.specs.List.{find, flat_map}
use Rattle.std.specs.Option.{option_and_then}
use Rattle.ini_trees.specs.declared.entry.EntryMeaning.{EntryMeaning}
use Rattle.ini_trees.specs.declared.lines.IniEntry.{IniEntry}
use Rattle.ini_trees.specs.declared.lines.IniLine.{IniLine}
use Rattle.ini_trees.specs.declared.lines.LineMeaning.{LineMeaning}
use Rattle.ini_trees.specs.declared.lines.LineMeaning.TheVariants as line
use Rattle.ini_trees.specs.declared.scan.Wanted.{Wanted}
use Rattle.ini_trees.specs.declared.scan.Wanted.TheVariants as want
use Rattle.ini_trees.specs.Entries.{network_said, limit_said, speaks}
use Rattle.ini_trees.specs.Sections.{bases_said, entries_from, entry_here, is_in}
use Rattle.ini_trees.specs.Words.{Bytes}

-- an entry that says this is looked for
abbrev pub is_wanted : Wanted → EntryMeaning → Bool
is_wanted want.Bases m = is_some (bases_said m)
is_wanted want.Network m = is_some (network_said m)
is_wanted want.TimeLimit m = is_some (limit_said m)
is_wanted (want.Path path) m = speaks path.now m

-- the entry itself, where it is looked for
abbrev pub wanted_of : Wanted → IniEntry → Option IniEntry
wanted_of wanted e = if is_wanted wanted e.meaning then Some e else None

-- the first entry that is looked for
abbrev pub first_wanted : Wanted → List IniEntry → Option IniEntry
first_wanted wanted entries = find (λ (e : IniEntry). is_wanted wanted e.meaning) entries

-- ---- along many sections

-- the place of the first of these names that is that one, or that none is
abbrev pub IsPlace : List Bytes → Bytes → Option ℕ → Type 0
IsPlace names name (Some at) =
    (at < length names) × (slice_index_or names at [] ≡ name)
    × ((k : ℕ) → k < at → slice_index_or names k [] ≢ name)
IsPlace names name None = (k : ℕ) → k < length names → slice_index_or names k [] ≢ name

-- the entry of the line in that section is looked for, and the section is the first of these that
-- has its name; or it is not looked for, or stands in none of these
abbrev pub IsWantedAmong : Wanted → List Bytes → Option Bytes → LineMeaning
    → Option (ℕ × Bor IniEntry) → Type 0
IsWantedAmong wanted names section m (Some (at, entry)) =
    (name : Bytes) × IsPlace names name (Some at) × (section ≡ Some name)
    × (m ≡ line.Entry entry.now) × (is_wanted wanted entry.now.meaning ≡ true)
IsWantedAmong wanted names section m None = (k : ℕ) → k < length names
    → option_and_then (wanted_of wanted) (entry_here (is_in (slice_index_or names k []) section) m)
    ≡ None

-- the first that is looked for in these sections, of lines of which the first stands in this
-- section
abbrev pub first_among : Wanted → List Bytes → Option Bytes → List IniLine → Option IniEntry
first_among wanted names section lines =
    first_wanted wanted (flat_map (λ name. entries_from name section lines) names)
