use Rattle.std.proofs.Common.{◌≡◌, drop}
use Rattle.ini_trees.specs.Counts.{same_number}
use Rattle.ini_trees.specs.Merge.{first_free}
use Rattle.ini_trees.proofs.merge.first_free.Given as goal

abbrev pub invariant-loop-rest : goal.invariant-loop-rest
invariant-loop-rest l = first_free same_number l.rests (drop l.rest-index l.rests) ≡ first_free same_number l.rests l.rests
