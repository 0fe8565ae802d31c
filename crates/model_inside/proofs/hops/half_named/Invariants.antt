use Rattle.std.proofs.Common.{◌≡◌, drop}
use Rattle.model_inside.specs.Hops.{half_named}
use Rattle.model_inside.proofs.hops.half_named.Given as goal

abbrev pub invariant-loop-gate : goal.invariant-loop-gate
invariant-loop-gate l = half_named l.name (drop l.gate-index l.gates) ≡ half_named l.name l.gates
