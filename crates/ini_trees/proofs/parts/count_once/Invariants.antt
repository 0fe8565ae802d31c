use Rattle.std.proofs.Common.{take, length}
use Rattle.ini_trees.specs.Counts.{AreBelow}
use Rattle.ini_trees.specs.Parts.{StandOnce}
use Rattle.ini_trees.proofs.PartLaws.{Marks}
use Rattle.ini_trees.proofs.parts.count_once.Given as goal

abbrev pub invariant-loop-number : goal.invariant-loop-number
invariant-loop-number l = record {
  below : AreBelow (length l.waiting) l.row;
  marks : Marks l.waiting (take l.number-index l.row);
  once : StandOnce (take l.number-index l.row);
}
