use Rattle.std.proofs.Common.{◌≡◌, ◌++◌, drop}
use Rattle.run_semantics.specs.Subtree.{without}
use Rattle.subtrees.proofs.without.Given as goal

abbrev pub invariant-loop-id : goal.invariant-loop-id
invariant-loop-id l = l.found ++ without (drop l.id-index l.ids) l.others ≡ without l.ids l.others
