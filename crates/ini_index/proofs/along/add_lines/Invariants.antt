use Rattle.std.proofs.Common.{◌≡◌, ◌++◌, ℕ, ◌<◌, Some, map, length, drop}
use Rattle.std.specs.Option.{option_copied}
use Rattle.ini_trees.specs.Numbers.{name_at}
use Rattle.ini_trees.specs.Sections.{entries_from, entries_under}
use Rattle.ini_index.specs.Entries.{numbers_at, told}
use Rattle.ini_index.proofs.along.add_lines.Given as goal

abbrev pub invariant-loop-number : goal.invariant-loop-number
invariant-loop-number l = record {
  size : length l.lists ≡ length l.names;
  found : (k : ℕ) → k < length l.names → told l.lines (numbers_at l.lists k) ++ map Some (entries_from (name_at l.names k) (option_copied l.section) (drop l.number l.lines)) ≡ map Some (entries_under (name_at l.names k) l.lines);
}
