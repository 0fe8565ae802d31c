use Rattle.std.proofs.Common.{◌≡◌, length}
use Rattle.ini_index.proofs.index.no_nexts.Given as goal

abbrev pub invariant-loop : goal.invariant-loop
invariant-loop l = length l.nexts ≡ l.counter
