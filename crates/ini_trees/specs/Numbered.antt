-- Lines of sections by their numbers.
use Rattle.std.specs.Prelude.{◌≡◌, ℕ, List, [], ◌∷◌, ◌++◌, length, map, slice_index_or, Option}
use Rattle.std.specs.Prelude.{Some, None, Result, Ok, Err}
use Rattle.ini_trees.specs.declared.error.ChainError.{ChainError}
use Rattle.ini_trees.specs.declared.error.ChainError.TheVariants as errors
use Rattle.ini_trees.specs.declared.lines.IniLine.{IniLine}
use Rattle.ini_trees.specs.Counts.{same_number, AreBelow}
use Rattle.ini_trees.specs.Merge.{IsMerge}
use Rattle.ini_trees.specs.Numbers.{name_at}
use Rattle.ini_trees.specs.Sections.{IsLineWithin, IsLine, IsChain}
use Rattle.ini_trees.specs.Words.{Bytes}

-- the line of that number
abbrev pub line_at : List (List ℕ) → ℕ → List ℕ
line_at lines k = slice_index_or lines k []

-- the number, and then the merge of the lists, or that they have none
abbrev pub SettlesLine : {E : Type 0} → ℕ → List (List ℕ) → Result (Option (List ℕ)) E → Type 0
SettlesLine number ls (Ok (Some line)) =
    (behind : List ℕ) × (line ≡ number ∷ behind) × IsMerge same_number ls behind
SettlesLine number ls (Ok None) = (behind : List ℕ) → IsMerge same_number ls behind → ⊥
SettlesLine number ls (Err e) = Unit {0}

-- the same for the section of that number, where it extends these and they have these lines
abbrev pub SettlesRow : {E : Type 0} → Option (List ℕ) → ℕ → List (List ℕ)
    → Result (Option (List ℕ)) E → Type 0
SettlesRow (Some row) number lines r = SettlesLine number (map (line_at lines) row ++ row ∷ []) r
SettlesRow None number lines (Ok (Some line)) = ⊥
SettlesRow None number lines (Ok None) = Unit {0}
SettlesRow None number lines (Err e) = Unit {0}

-- no line of a configuration has that name as its first
abbrev pub HasNoLine : List IniLine → Bytes → Type 0
HasNoLine lines name = (depth : ℕ) (line : List Bytes) → IsLineWithin depth lines name line → ⊥

-- these numbers are the line of the section of that number
abbrev pub IsNumberLine : List IniLine → List Bytes → ℕ → List ℕ → Type 0
IsNumberLine text names k line = IsLine text (name_at names k) (map (name_at names) line)
    × AreBelow (length names) line

-- the line of the section of that number, or that it has none
abbrev pub SettlesNumbered : {E : Type 0} → List IniLine → List Bytes → ℕ
    → Result (Option (List ℕ)) E → Type 0
SettlesNumbered text names root (Ok (Some line)) = IsNumberLine text names root line
SettlesNumbered text names root (Ok None) = HasNoLine text (name_at names root)
SettlesNumbered text names root (Err e) = Unit {0}

-- the chain of a configuration that is there, or why there is none
abbrev pub SettlesChain : List IniLine → Bytes → Result (List Bytes) ChainError → Type 0
SettlesChain lines config (Ok chain) = IsChain lines config chain
SettlesChain lines config (Err errors.ChainFault) = (chain : List Bytes)
    → IsChain lines config chain → ⊥
SettlesChain lines config (Err errors.NoSuchConfig) = ⊥
SettlesChain lines config (Err (errors.NoMemory _)) = Unit {0}
