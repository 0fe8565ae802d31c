use Rattle.std.proofs.Common.{◌≡◌, drop}
use Rattle.ned_inheritance.specs.Places.{first_from}
use Rattle.ned_inheritance.specs.Seen.{names_in, is_unfit_over}
use Rattle.ned_inheritance.proofs.bodies.first_unfit_by.Given as goal

abbrev pub invariant-loop-at : goal.invariant-loop-at
invariant-loop-at l =
    first_from (λ n. is_unfit_over (names_in l.declared.keys) (names_in l.fixed.keys) n) l.at (drop l.at l.body)
    ≡ first_from (λ n. is_unfit_over (names_in l.declared.keys) (names_in l.fixed.keys) n) 0 l.body
