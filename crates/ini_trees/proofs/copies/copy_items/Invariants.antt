use Rattle.std.proofs.Common.{◌≡◌, ◌++◌, drop}
use Rattle.ini_trees.proofs.copies.copy_items.Given as goal

abbrev pub invariant-loop-item : goal.invariant-loop-item
invariant-loop-item l = l.copy ++ drop l.item-index l.items ≡ l.items
