use Rattle.std.proofs.Common.{◌≡◌, [], drop, take}
use Rattle.ned_inheritance.specs.Places.{first_again, is_declared_twice}
use Rattle.ned_inheritance.specs.Seen.{names_in}
use Rattle.ned_types.specs.Flat.{or_else}
use Rattle.ned_types.specs.Types.{declares}
use Rattle.ned_inheritance.proofs.AgainLaws.{AreSeen}
use Rattle.ned_inheritance.proofs.sections.see_declared.Given as goal

abbrev pub invariant-loop-at : goal.invariant-loop-at
invariant-loop-at l =
    AreSeen declares (names_in l.declared.keys) (take l.at l.lines)
    × (or_else l.again (first_again is_declared_twice (take l.at l.lines) l.at (drop l.at l.lines)) ≡ first_again is_declared_twice [] 0 l.lines)
