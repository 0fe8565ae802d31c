-- Sections, and which of them make a configuration.
-- OMNeT++ Simulation Manual, "Sections", "Section Inheritance".
use Rattle.std.specs.Prelude.{◌≡◌, ◌≢◌, ◌⊎◌, ℕ, zero, suc, Bool, true, false, not, ◌||◌, List, []}
use Rattle.std.specs.Prelude.{◌∷◌, ◌++◌, Option, Some, None, is_some, codes, Result, Ok, Err}
use Rattle.std.specs.List.{AllZip, cons_option, filter, find, flat_map, list_any}
use Rattle.std.specs.Option.{option_and_then}
use Rattle.std.specs.Str.{bytes_eq}
use Rattle.ini_trees.specs.declared.error.ChainError.{ChainError}
use Rattle.ini_trees.specs.declared.error.ChainError.TheVariants as errors
use Rattle.ini_trees.specs.declared.lines.IniEntry.{IniEntry}
use Rattle.ini_trees.specs.declared.entry.EntryMeaning.{EntryMeaning}
use Rattle.ini_trees.specs.declared.entry.EntryMeaning.TheVariants as meaning
use Rattle.ini_trees.specs.declared.lines.IniLine.{IniLine}
use Rattle.ini_trees.specs.declared.lines.LineMeaning.{LineMeaning}
use Rattle.ini_trees.specs.declared.lines.LineMeaning.TheVariants as line
use Rattle.ini_trees.specs.Merge.{IsMerge}
use Rattle.ini_trees.specs.Words.{Bytes}

abbrev pub general : Bytes
general = codes "General"

-- ---- entries by sections

-- the section that the lines after a line stand in
abbrev pub section_behind : Option Bytes → LineMeaning → Option Bytes
section_behind section (line.Section name) = Some name
section_behind section _ = section

-- it is the section of that name
abbrev pub is_in : Bytes → Option Bytes → Bool
is_in name None = false
is_in name (Some section) = bytes_eq section name

-- the entry of a line, where it stands in the section
abbrev pub entry_here : Bool → LineMeaning → Option IniEntry
entry_here true (line.Entry entry) = Some entry
entry_here true _ = None
entry_here false _ = None

-- the entries that lines have in the section of that name, where the first line stands in this
-- section
abbrev pub entries_from : Bytes → Option Bytes → List IniLine → List IniEntry
entries_from name section [] = []
entries_from name section (l ∷ ls) =
    cons_option (entry_here (is_in name section) l.meaning)
    (entries_from name (section_behind section l.meaning) ls)

-- the entries of the section of that name, in the order of lines: all sections of one name are one
abbrev pub entries_under : Bytes → List IniLine → List IniEntry
entries_under name lines = entries_from name None lines

abbrev pub is_section_line : Bytes → LineMeaning → Bool
is_section_line name (line.Section other) = bytes_eq other name
is_section_line name _ = false

-- there is a section of that name; General is always there
abbrev pub is_section : Bytes → List IniLine → Bool
is_section name lines =
    bytes_eq name general || list_any (λ (l : IniLine). is_section_line name l.meaning) lines

-- ---- what a configuration extends

-- an entry says what a configuration extends
abbrev pub is_extends : EntryMeaning → Bool
is_extends (meaning.Extends names) = true
is_extends _ = false

abbrev pub bases_said : EntryMeaning → Option (List Bytes)
bases_said (meaning.Extends names) = Some names
bases_said _ = None

-- these bases, or else the others
abbrev pub or_bases : Option (List Bytes) → List Bytes → List Bytes
or_bases (Some names) others = names
or_bases None others = others

abbrev pub names_bases : IniEntry → Bool
names_bases e = is_some (bases_said e.meaning)

-- the bases that the first entry of the option `extends` names, none where there is no such entry
abbrev pub first_bases : List IniEntry → List Bytes
first_bases entries = or_bases
    (option_and_then (λ (e : IniEntry). bases_said e.meaning) (find names_bases entries)) []

-- the bases of a section
abbrev pub bases_of : Bytes → List IniLine → List Bytes
bases_of name lines = first_bases (entries_under name lines)

-- the configurations that a section extends. General is none of them, since it ends each chain
-- anyway.
abbrev pub bases_named : Bytes → List IniLine → List Bytes
bases_named name lines = filter (λ base. not (bytes_eq base general)) (bases_of name lines)

-- A line of a configuration, where those that it extends, and what these extend, and so on, go that
-- deep: the configuration itself, and then the merge of the lines of its bases and the list of the
-- bases. Each base is there.
abbrev pub IsLineWithin : ℕ → List IniLine → Bytes → List Bytes → Type 0
IsLineWithin zero lines name line = ⊥
IsLineWithin (suc depth) lines name [] = ⊥
IsLineWithin (suc depth) lines name (first ∷ behind) =
    (first ≡ name)
    × (ls : List (List Bytes))
    × AllZip (λ base line. (is_section base lines ≡ true) × IsLineWithin depth lines base line)
    (bases_named name lines) ls
    × IsMerge bytes_eq (ls ++ bases_named name lines ∷ []) behind

-- THE LINE of a configuration: itself, and then the merge of the lines of its bases and the list of
-- the bases. Where names extend each other in a circle they go to no depth, and there is none.
abbrev pub IsLine : List IniLine → Bytes → List Bytes → Type 0
IsLine lines name line = (depth : ℕ) × IsLineWithin depth lines name line

-- THE CHAIN of a configuration: its line, and at last General.
abbrev pub IsChain : List IniLine → Bytes → List Bytes → Type 0
IsChain lines config chain =
    ((config ≡ general) × (chain ≡ general ∷ []))
    ⊎ ((config ≢ general) × (line : List Bytes) × (chain ≡ line ++ general ∷ [])
    × IsLine lines config line)

-- a configuration has at most one chain
abbrev pub HasOneChain : List IniLine → Bytes → Type 0
HasOneChain lines config = (first second : List Bytes) → IsChain lines config first
    → IsChain lines config second → first ≡ second

-- the entries of a configuration: section by section along its chain, each in the order of lines
abbrev pub entries_along : List Bytes → List IniLine → List IniEntry
entries_along chain lines = flat_map (λ name. entries_under name lines) chain

-- ---- refusals

-- Why a configuration has no chain: there is no section of that name; or it extends, itself or by
-- others, what is not there, names that can't be put in order, or itself.
abbrev pub RefusesChain : List IniLine → Bytes → ChainError → Type 0
RefusesChain lines config errors.NoSuchConfig = is_section config lines ≡ false
RefusesChain lines config errors.ChainFault =
    (is_section config lines ≡ true) × ((chain : List Bytes) → IsChain lines config chain → ⊥)
RefusesChain lines config (errors.NoMemory _) = Unit {0}

-- this chain, or lack of memory
abbrev pub AnswersChain : List Bytes → Result (List Bytes) ChainError → Type 0
AnswersChain chain (Ok found) = found ≡ chain
AnswersChain chain (Err (errors.NoMemory _)) = Unit {0}
AnswersChain chain (Err errors.NoSuchConfig) = ⊥
AnswersChain chain (Err errors.ChainFault) = ⊥
