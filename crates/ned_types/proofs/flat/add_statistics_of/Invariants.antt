use Rattle.std.proofs.Common.{◌≡◌, ◌++◌, take, drop}
use Rattle.ned_types.specs.Flat.{statistics_after, statistics_of}
use Rattle.ned_types.proofs.flat.add_statistics_of.Given as goal

abbrev pub invariant-loop-at : goal.invariant-loop-at
invariant-loop-at l = l.statistics ++ statistics_after (take l.at l.lines) (drop l.at l.lines) ≡ l.fn.statistics ++ statistics_of l.lines
