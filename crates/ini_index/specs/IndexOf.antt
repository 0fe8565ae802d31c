-- What an index is the index of.
use Rattle.std.specs.Prelude.{List}
use Rattle.ini_trees.specs.declared.lines.IniLine.{IniLine}
use Rattle.ini_trees.specs.Sections.{entries_along}
use Rattle.ini_trees.specs.Words.{Bytes}
use Rattle.ini_index.specs.Entries.{AreNumbersOf}
use Rattle.ini_index.specs.Indexed.{AreNotedFrom}
use Rattle.ini_index.specs.declared.index.EntryIndex.{EntryIndex}

-- AN INDEX of the entries along a chain: it has the numbers of their lines, one by one; and each
-- key has its first entry, each entry the next one of its own key
pub record IsIndexOf (lines : List IniLine) (chain : List Bytes) (index : EntryIndex) : Type 0 where
  pub numbers_are : AreNumbersOf lines (entries_along chain lines) index.numbers
  pub noted : AreNotedFrom 0 (entries_along chain lines) index.heads index.nexts
