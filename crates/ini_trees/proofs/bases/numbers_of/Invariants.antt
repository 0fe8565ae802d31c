use Rattle.std.proofs.Common.{◌≡◌, ◌++◌, drop, map, length}
use Rattle.ini_trees.specs.Counts.{AreBelow}
use Rattle.ini_trees.specs.Numbers.{name_at, others}
use Rattle.ini_trees.proofs.bases.numbers_of.Given as goal

abbrev pub invariant-loop-base : goal.invariant-loop-base
invariant-loop-base l = record {
  named : map (name_at l.names) l.row ++ others (drop l.base-index l.bases) ≡ others l.bases;
  below : AreBelow (length l.names) l.row;
}
