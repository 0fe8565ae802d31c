use Rattle.std.proofs.Common.{◌≡◌, [], drop, take}
use Rattle.ned_inheritance.specs.Places.{first_again}
use Rattle.ned_inheritance.specs.Seen.{names_in}
use Rattle.ned_types.specs.Types.{declares_gate, is_declared_again}
use Rattle.ned_inheritance.proofs.AgainLaws.{AreSeen}
use Rattle.ned_inheritance.proofs.gates.declares_seen.Given as goal

abbrev pub invariant-loop-at : goal.invariant-loop-at
invariant-loop-at l =
    AreSeen declares_gate (names_in l.seen.keys) (take l.at l.gates)
    × (first_again is_declared_again (take l.at l.gates) l.at (drop l.at l.gates) ≡ first_again is_declared_again [] 0 l.gates)
