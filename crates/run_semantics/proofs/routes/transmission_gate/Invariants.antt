use Rattle.std.proofs.Common.{◌≡◌, drop}
use Rattle.run_semantics.specs.Routes.{transmission_gate}
use Rattle.run_semantics.proofs.routes.transmission_gate.Given as goal

abbrev pub invariant-loop-hop : goal.invariant-loop-hop
invariant-loop-hop l = transmission_gate (drop l.hop-index l.hops) ≡ transmission_gate l.hops
