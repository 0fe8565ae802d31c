use Rattle.std.proofs.Common.{◌≡◌, drop}
use Rattle.run_semantics.specs.Routes.{busy_at}
use Rattle.run_semantics.proofs.routes.busy_at.Given as goal

abbrev pub invariant-loop-transmission : goal.invariant-loop-transmission
invariant-loop-transmission l = busy_at l.gate (drop l.transmission-index l.transmissions) ≡ busy_at l.gate l.transmissions
