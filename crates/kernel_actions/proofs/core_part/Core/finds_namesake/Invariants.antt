use Rattle.std.proofs.Common.{◌≡◌, suc, drop}
use Rattle.run_semantics.specs.Creating.{has_namesake}
use Rattle.kernel_actions.proofs.Namesakes.{named_from}
use Rattle.kernel_actions.proofs.core_part.Core.finds_namesake.Given as goal

abbrev pub invariant-loop-index : goal.invariant-loop-index
invariant-loop-index l = named_from l.parent l.creation l.self.dead (suc l.index) (drop l.index l.self.records) ≡ has_namesake l.parent l.creation l.self
