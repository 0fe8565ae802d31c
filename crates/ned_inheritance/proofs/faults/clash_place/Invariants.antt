use Rattle.std.proofs.Common.{◌≡◌, drop}
use Rattle.ned_inheritance.specs.Places.{clash_in, place_from}
use Rattle.ned_inheritance.proofs.faults.clash_place.Given as goal

abbrev pub invariant-loop-number : goal.invariant-loop-number
invariant-loop-number l = place_from (clash_in l.named) l.number (drop l.number l.types) ≡ place_from (clash_in l.named) 0 l.types
