-- Entries on which values of modules may rest.
use Rattle.std.specs.Prelude.{◌≡◌, ◌==◌, ◌<◌, ℕ, Bool, true, false, not, List, [], ◌∷◌, Option, Some}
use Rattle.std.specs.Prelude.{None, length}
use Rattle.std.specs.List.{filter, list_any}
use Rattle.std.specs.Option.{option_copied}
use Rattle.ini_entries.specs.Meaning.{IsEntryMeaning}
use Rattle.ini_trees.specs.declared.entry.EntryMeaning.{EntryMeaning}
use Rattle.ini_trees.specs.declared.entry.EntryMeaning.TheVariants as meaning
use Rattle.ini_trees.specs.declared.lines.IniEntry.{IniEntry}
use Rattle.ini_trees.specs.declared.lines.IniLine.{IniLine}
use Rattle.ini_trees.specs.declared.lines.LineMeaning.{LineMeaning}
use Rattle.ini_trees.specs.declared.lines.LineMeaning.TheVariants as line
use Rattle.ini_trees.specs.Sections.{entries_from}
use Rattle.same_entries.specs.declared.entries.Next.{Next}

-- whether a value of a module may rest on an entry that says this: on those of parameters and of
-- types. A per-object option is none of them, by the hyphen in its name.
abbrev pub counts : EntryMeaning → Bool
counts (meaning.Parameter p) = true
counts (meaning.Type p) = true
counts (meaning.Object o) = not (list_any (λ b. b == 45) o.option)
counts _ = false

-- those of these entries, in their order
abbrev pub counted : List IniEntry → List IniEntry
counted es = filter (λ (e : IniEntry). counts e.meaning) es

-- an entry says what its key and its value say
abbrev pub IsSaid : LineMeaning → Type 0
IsSaid (line.Entry e) = IsEntryMeaning e.key e.value e.meaning
IsSaid line.Blank = Unit {0}
IsSaid line.Comment = Unit {0}
IsSaid (line.Section name) = Unit {0}

-- EACH ENTRY of these lines says what its key and its value say: so it is where they were read of a
-- text.
abbrev pub AreSaid : List IniLine → Type 0
AreSaid [] = Unit {0}
AreSaid (l ∷ ls) = IsSaid l.meaning × AreSaid ls

-- The next entry that counts in the section of that name, among lines of which the first stands in
-- this section: those that count are it and the ones after it. Or there is none.
abbrev pub IsNext : List ℕ → Option (List ℕ) → List IniLine → Option Next → Type 0
IsNext name section lines None = counted (entries_from name section lines) ≡ []
IsNext name section lines (Some n) =
    (counted (entries_from name section lines)
    ≡ n.entry.now ∷ counted (entries_from name (option_copied n.section) n.rest.now))
    × (AreSaid lines → IsSaid (line.Entry n.entry.now) × AreSaid n.rest.now)
    × (length n.rest.now < length lines)
