use Rattle.std.proofs.Common.{◌≡◌, take, map}
use Rattle.ini_trees.specs.Numbers.{name_at}
use Rattle.ini_trees.proofs.chain.chain_named.Given as goal

abbrev pub invariant-loop-number : goal.invariant-loop-number
invariant-loop-number l = l.chain ≡ map (name_at l.names) (take l.number-index l.line)
