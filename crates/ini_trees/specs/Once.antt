-- That a chain names each configuration once, and before those that it extends.
use Rattle.std.specs.Prelude.{◌≢◌, ℕ, ◌<◌, List, length}
use Rattle.std.specs.List.{Contains}
use Rattle.ini_trees.specs.declared.lines.IniLine.{IniLine}
use Rattle.ini_trees.specs.Numbers.{name_at, AreApart}
use Rattle.ini_trees.specs.Sections.{general, bases_named, IsChain}
use Rattle.ini_trees.specs.Words.{Bytes}

-- in different places of a chain stand different names
abbrev pub NamesOnce : List IniLine → Bytes → Type 0
NamesOnce lines config = (chain : List Bytes) → IsChain lines config chain
    → AreApart (name_at chain) (length chain)

-- each configuration of a chain but General stands before those that it extends
abbrev pub StandsBefore : List IniLine → Bytes → Type 0
StandsBefore lines config =
    (chain : List Bytes)
    → IsChain lines config chain
    → (i j : ℕ)
    → i < length chain
    → j < length chain
    → name_at chain i ≢ general
    → Contains (bases_named (name_at chain i) lines) (name_at chain j)
    → i < j
