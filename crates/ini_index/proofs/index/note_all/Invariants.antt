use Rattle.std.proofs.Common.{◌≤◌, length}
use Rattle.ini_index.specs.Indexed.{AreNotedFrom}
use Rattle.ini_index.proofs.index.note_all.Given as goal

abbrev pub invariant-loop-number : goal.invariant-loop-number
invariant-loop-number l = record {
  within : l.number ≤ length l.entries;
  noted : AreNotedFrom l.number l.entries l.heads l.nexts;
}

abbrev pub decreases-loop-number : goal.decreases-loop-number
decreases-loop-number l = l.number
