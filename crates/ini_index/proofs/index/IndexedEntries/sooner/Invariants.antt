use Rattle.ini_index.proofs.Firsts.{left_of, IsUnderWay}
use Rattle.ini_index.proofs.index.IndexedEntries.sooner.Given as goal

abbrev pub invariant-loop-at : goal.invariant-loop-at
invariant-loop-at l = IsUnderWay l.key l.path l.self l.at

abbrev pub decreases-loop-at : goal.decreases-loop-at
decreases-loop-at l = left_of l.self l.at
