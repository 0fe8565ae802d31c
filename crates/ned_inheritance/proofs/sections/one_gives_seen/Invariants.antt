use Rattle.std.proofs.Common.{◌≡◌, [], drop, take}
use Rattle.ned_inheritance.specs.Places.{first_again}
use Rattle.ned_inheritance.specs.Seen.{names_in}
use Rattle.ned_types.specs.Types.{gives_fixed, is_refixed}
use Rattle.ned_inheritance.proofs.AgainLaws.{AreSeen}
use Rattle.ned_inheritance.proofs.sections.one_gives_seen.Given as goal

abbrev pub invariant-loop-at : goal.invariant-loop-at
invariant-loop-at l =
    AreSeen gives_fixed (names_in l.seen.keys) (take l.at l.lines)
    × (first_again is_refixed (take l.at l.lines) l.at (drop l.at l.lines) ≡ first_again is_refixed [] 0 l.lines)
