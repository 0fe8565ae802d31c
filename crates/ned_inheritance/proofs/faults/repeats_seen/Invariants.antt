use Rattle.std.proofs.Common.{◌≡◌, [], drop, take, bytes_eq}
use Rattle.ned_inheritance.specs.Places.{first_again, is_name_before}
use Rattle.ned_inheritance.specs.Seen.{names_in}
use Rattle.ned_inheritance.proofs.AgainLaws.{AreSeen}
use Rattle.ned_inheritance.proofs.faults.repeats_seen.Given as goal

abbrev pub invariant-loop-at : goal.invariant-loop-at
invariant-loop-at l =
    AreSeen (λ m s. bytes_eq s.name m) (names_in l.seen.keys) (take l.at l.submodules)
    × (first_again is_name_before (take l.at l.submodules) l.at (drop l.at l.submodules) ≡ first_again is_name_before [] 0 l.submodules)
