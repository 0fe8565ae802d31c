use Rattle.std.proofs.Common.{◌≡◌, ◌++◌, Some, map, drop}
use Rattle.ini_trees.specs.Sections.{entries_along}
use Rattle.ini_index.specs.Entries.{told}
use Rattle.ini_index.proofs.along.numbers_along.Given as goal

abbrev pub invariant-loop-name : goal.invariant-loop-name
invariant-loop-name l = told l.lines l.list ++ map Some (entries_along (drop l.name-index l.chain) l.lines) ≡ map Some (entries_along l.chain l.lines)
