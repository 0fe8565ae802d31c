-- those that were found, and those that are left
use Rattle.std.proofs.Common.{◌≡◌, ◌++◌, suc, drop}
use Rattle.run_semantics.specs.Run.{starting}
use Rattle.run_semantics.specs.Subtree.{ids_from}
use Rattle.kernel_actions.proofs.Unstarted.{left_of}
use Rattle.kernel_actions.proofs.core_part.Core.starting.Given as goal

abbrev pub invariant-loop-index : goal.invariant-loop-index
invariant-loop-index l = l.found ++ left_of l.first l.last l.self.dead l.self.started (ids_from (suc l.index) (drop l.index l.self.records)) ≡ starting l.first l.last l.self
