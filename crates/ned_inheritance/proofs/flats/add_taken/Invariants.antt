use Rattle.std.proofs.Common.{◌≡◌, ◌++◌, false, length}
use Rattle.ned_types.specs.Types.{has_duplicate}
use Rattle.ned_inheritance.specs.Flats.{changed_at}
use Rattle.ned_inheritance.proofs.flats.add_taken.Given as goal

-- those that are left have names of their own, and the table still has what is to be added
abbrev pub invariant-loop-rest : goal.invariant-loop-rest
invariant-loop-rest l =
    (has_duplicate l.rest ≡ false)
    × (l.changed ++ changed_at l.flats.entries l.rest ≡ l.fn.changed ++ changed_at l.fn.flats.entries l.types)

abbrev pub decreases-loop-rest : goal.decreases-loop-rest
decreases-loop-rest l = length l.rest
