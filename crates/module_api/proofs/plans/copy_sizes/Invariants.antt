use Rattle.std.proofs.Common.{◌≡◌, ◌++◌, drop}
use Rattle.module_api.proofs.plans.copy_sizes.Given as goal

abbrev pub invariant-loop-size : goal.invariant-loop-size
invariant-loop-size l = l.copy ++ drop l.size-index l.sizes ≡ l.sizes
