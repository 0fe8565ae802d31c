use Rattle.std.proofs.Common.{◌≡◌, length}
use Rattle.ini_trees.proofs.chain.no_lines.Given as goal

abbrev pub invariant-loop : goal.invariant-loop
invariant-loop l = length l.lines ≡ l.counter
