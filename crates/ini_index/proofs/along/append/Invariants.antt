use Rattle.std.proofs.Common.{◌≡◌, ◌++◌, take}
use Rattle.ini_index.proofs.along.append.Given as goal

abbrev pub invariant-loop-number : goal.invariant-loop-number
invariant-loop-number l = l.list ≡ l.fn.list ++ take l.number-index l.more
