use Rattle.std.proofs.Common.{◌≡◌, drop}
use Rattle.run_semantics.specs.Routes.{place_from, place_of}
use Rattle.run_semantics.proofs.routes.place_of.Given as goal

abbrev pub invariant-loop-position : goal.invariant-loop-position
invariant-loop-position l = place_from l.position l.gate (drop l.position l.transmissions) ≡ place_of l.gate l.transmissions
