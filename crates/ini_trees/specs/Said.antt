-- What sections say that they extend.
use Rattle.std.specs.Prelude.{◌≡◌, ℕ, ◌<◌, List, [], ◌∷◌, length, slice_index_or, Option, None}
use Rattle.std.specs.Borrow.{Bor}
use Rattle.std.specs.Option.{option_and_then, option_copied, option_or}
use Rattle.ini_trees.specs.declared.lines.IniEntry.{IniEntry}
use Rattle.ini_trees.specs.declared.lines.IniLine.{IniLine}
use Rattle.ini_trees.specs.declared.lines.LineMeaning.{LineMeaning}
use Rattle.ini_trees.specs.declared.lines.LineMeaning.TheVariants as line
use Rattle.ini_trees.specs.Numbers.{name_at}
use Rattle.ini_trees.specs.Sections.{bases_said, entries_under, entry_here, is_in}
use Rattle.ini_trees.specs.Words.{Bytes}

-- what the first of these entries says that says what its section extends
abbrev pub said_in : List IniEntry → Option (List Bytes)
said_in [] = None
said_in (e ∷ es) = option_or (bases_said e.meaning) (said_in es)

-- what a line says, wherever it stands
abbrev pub bases_in : LineMeaning → Option (List Bytes)
bases_in (line.Entry e) = bases_said e.meaning
bases_in _ = None

-- what a line says that the section of that name extends, where it stands in this one
abbrev pub line_says : Bytes → Option Bytes → LineMeaning → Option (List Bytes)
line_says name section m =
    option_and_then (λ (e : IniEntry). bases_said e.meaning) (entry_here (is_in name section) m)

-- what was said of the section of that number
abbrev pub said_at : List (Option (Bor (List Bytes))) → ℕ → Option (List Bytes)
said_at said k = option_copied (slice_index_or said k None)

-- for each section what the first entry says that it extends
abbrev pub HaveSaid : List IniLine → List Bytes → List (Option (Bor (List Bytes))) → Type 0
HaveSaid lines names said =
    (length said ≡ length names) × ((k : ℕ) → k < length names
    → said_at said k ≡ said_in (entries_under (name_at names k) lines))

-- what a line says of the section in which it stands was added, unless one before has said so
abbrev pub Notes : List Bytes → Option Bytes → LineMeaning → List (Option (Bor (List Bytes)))
    → List (Option (Bor (List Bytes))) → Type 0
Notes names section m old new =
    (length new ≡ length old)
    × ((k : ℕ) → k < length names
    → said_at new k ≡ option_or (said_at old k) (line_says (name_at names k) section m))
