use Rattle.std.proofs.Common.{◌≡◌, drop}
use Rattle.ned_inheritance.specs.Places.{place_from, unknown_in}
use Rattle.ned_inheritance.proofs.faults.unknown_place.Given as goal

abbrev pub invariant-loop-number : goal.invariant-loop-number
invariant-loop-number l = place_from (unknown_in l.named) l.number (drop l.number l.types) ≡ place_from (unknown_in l.named) 0 l.types
