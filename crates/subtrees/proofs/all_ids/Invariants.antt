use Rattle.std.proofs.Common.{◌≡◌, suc, ◌++◌, drop}
use Rattle.run_semantics.specs.Subtree.{ids_from}
use Rattle.subtrees.proofs.all_ids.Given as goal

abbrev pub invariant-loop-index : goal.invariant-loop-index
invariant-loop-index l = l.ids ++ ids_from (suc l.index) (drop l.index l.records) ≡ ids_from 1 l.records
