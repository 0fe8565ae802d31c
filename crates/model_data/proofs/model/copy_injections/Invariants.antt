use Rattle.std.proofs.Common.{◌≡◌, ◌++◌, drop}
use Rattle.model_data.proofs.model.copy_injections.Given as goal

abbrev pub invariant-loop-injection : goal.invariant-loop-injection
invariant-loop-injection l = l.copy ++ drop l.injection-index l.injections ≡ l.injections
