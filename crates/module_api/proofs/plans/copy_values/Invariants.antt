use Rattle.std.proofs.Common.{◌≡◌, ◌++◌, drop}
use Rattle.module_api.proofs.plans.copy_values.Given as goal

abbrev pub invariant-loop-value : goal.invariant-loop-value
invariant-loop-value l = l.copy ++ drop l.value-index l.values ≡ l.values
