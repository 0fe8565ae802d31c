use Rattle.std.proofs.Common.{◌≡◌, ◌++◌, drop, take, length}
use Rattle.ini_trees.specs.Counts.{same_number, AreAllBelow, Counts}
use Rattle.ini_trees.specs.Merge.{without}
use Rattle.ini_trees.proofs.merge.take.Given as goal

abbrev pub invariant-loop-rest : goal.invariant-loop-rest
invariant-loop-rest l = record {
  below : AreAllBelow (length l.waiting) l.rests;
  counted : Counts l.waiting l.rests;
  taken : l.rests ≡ without same_number l.number (take l.rest-index l.initial.rests) ++ drop l.rest-index l.initial.rests;
}
