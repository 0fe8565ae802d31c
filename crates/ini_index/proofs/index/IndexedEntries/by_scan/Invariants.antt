use Rattle.std.proofs.Common.{◌≡◌, drop}
use Rattle.ini_trees.specs.Entries.{speaks_of}
use Rattle.ini_index.specs.Indexed.{first_from}
use Rattle.ini_index.proofs.index.IndexedEntries.by_scan.Given as goal

abbrev pub invariant-loop-number : goal.invariant-loop-number
invariant-loop-number l = first_from (speaks_of l.path) l.number (drop l.number l.self) ≡ first_from (speaks_of l.path) 0 l.self
