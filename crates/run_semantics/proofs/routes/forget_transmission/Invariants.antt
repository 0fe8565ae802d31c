use Rattle.std.proofs.Common.{◌≡◌, length}
use Rattle.run_semantics.specs.Routes.{without_transmission}
use Rattle.run_semantics.proofs.routes.forget_transmission.Given as goal

abbrev pub invariant-loop-place : goal.invariant-loop-place
invariant-loop-place l = without_transmission l.gate l.transmissions ≡ without_transmission l.gate l.fn.transmissions

abbrev pub decreases-loop-place : goal.decreases-loop-place
decreases-loop-place l = length l.transmissions
