use Rattle.std.proofs.Common.{length}
use Rattle.ini_trees.specs.Counts.{AreAllBelow, Counts}
use Rattle.ini_trees.proofs.MergeLaws.{IsMerging, all_lengths}
use Rattle.ini_trees.proofs.merge.merged.Given as goal

abbrev pub invariant-loop-number : goal.invariant-loop-number
invariant-loop-number l = record {
  below : AreAllBelow (length l.waiting) l.rests;
  counted : Counts l.waiting l.rests;
  merging : IsMerging l.initial.rests l.line l.rests;
}

abbrev pub decreases-loop-number : goal.decreases-loop-number
decreases-loop-number l = all_lengths l.rests
