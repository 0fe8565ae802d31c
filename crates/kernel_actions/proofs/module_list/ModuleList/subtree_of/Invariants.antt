-- those that were found, and those that are left
use Rattle.std.proofs.Common.{◌≡◌, ◌++◌}
use Rattle.std.specs.List.{filter}
use Rattle.run_semantics.specs.Subtree.{stands_in}
use Rattle.kernel_actions.specs.Modules.{living}
use Rattle.kernel_actions.proofs.Below.{lives_in}
use Rattle.kernel_actions.proofs.Ranges.{passing}
use Rattle.kernel_actions.proofs.module_list.ModuleList.subtree_of.Given as goal

abbrev pub invariant-loop-index : goal.invariant-loop-index
invariant-loop-index l = l.found ++ passing (lives_in l.self.records l.self.dead l.id) l.index l.self.records ≡ filter (λ n. stands_in l.self.records l.id n) (living l.self)
