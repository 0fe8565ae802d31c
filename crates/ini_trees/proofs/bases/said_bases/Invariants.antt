use Rattle.std.proofs.Common.{◌≡◌, ℕ, ◌<◌, length, drop}
use Rattle.std.specs.Option.{option_copied, option_or}
use Rattle.ini_trees.specs.Numbers.{name_at}
use Rattle.ini_trees.specs.Said.{said_at, said_in}
use Rattle.ini_trees.specs.Sections.{entries_from, entries_under}
use Rattle.ini_trees.proofs.bases.said_bases.Given as goal

abbrev pub invariant-loop-line : goal.invariant-loop-line
invariant-loop-line l = record {
  size : length l.said.items ≡ length l.names;
  found : (k : ℕ) → k < length l.names → option_or (said_at l.said.items k) (said_in (entries_from (name_at l.names k) (option_copied l.section) (drop l.line-index l.lines))) ≡ said_in (entries_under (name_at l.names k) l.lines);
}
