use Rattle.std.proofs.Common.{◌≡◌, drop}
use Rattle.model_injections.specs.Injections.{first_undelivered}
use Rattle.std.specs.Option.{option_copied}
use Rattle.model_injections.proofs.injection.first_undelivered.Given as goal

abbrev pub invariant-loop-place : goal.invariant-loop-place
invariant-loop-place l = option_copied l.first ≡ first_undelivered (option_copied l.last) (drop l.place l.injections)
