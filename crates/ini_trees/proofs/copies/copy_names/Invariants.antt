use Rattle.std.proofs.Common.{◌≡◌, ◌++◌, drop}
use Rattle.ini_trees.proofs.copies.copy_names.Given as goal

abbrev pub invariant-loop-name : goal.invariant-loop-name
invariant-loop-name l = l.copy ++ drop l.name-index l.names ≡ l.names
