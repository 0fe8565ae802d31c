use Rattle.std.proofs.Common.{◌≡◌, not, drop}
use Rattle.ned_inheritance.specs.Places.{first_from}
use Rattle.ned_types.specs.Types.{is_submodule_suited}
use Rattle.ned_inheritance.proofs.faults.first_of_other_kind.Given as goal

abbrev pub invariant-loop-at : goal.invariant-loop-at
invariant-loop-at l = first_from (λ s. not (is_submodule_suited l.named s)) l.at (drop l.at l.submodules) ≡ first_from (λ s. not (is_submodule_suited l.named s)) 0 l.submodules
