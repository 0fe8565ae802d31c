use Rattle.std.proofs.Common.{◌≡◌, take, map}
use Rattle.ini_trees.specs.Numbered.{line_at}
use Rattle.ini_trees.proofs.chain.rests_of.Given as goal

abbrev pub invariant-loop-base : goal.invariant-loop-base
invariant-loop-base l = l.rests.items ≡ map (line_at l.lines) (take l.base-index l.row)
