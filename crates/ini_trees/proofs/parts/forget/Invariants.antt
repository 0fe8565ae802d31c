use Rattle.std.proofs.Common.{drop, length}
use Rattle.ini_trees.specs.Counts.{AreBelow}
use Rattle.ini_trees.specs.Parts.{CountsOnly}
use Rattle.ini_trees.proofs.parts.forget.Given as goal

abbrev pub invariant-loop-number : goal.invariant-loop-number
invariant-loop-number l = record {
  below : AreBelow (length l.waiting) l.row;
  counts : CountsOnly l.waiting (drop l.number-index l.row);
}
