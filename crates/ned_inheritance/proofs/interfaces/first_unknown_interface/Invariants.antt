use Rattle.std.proofs.Common.{◌≡◌, not, drop}
use Rattle.ned_inheritance.specs.Places.{first_from, is_known}
use Rattle.ned_inheritance.proofs.interfaces.first_unknown_interface.Given as goal

abbrev pub invariant-loop-at : goal.invariant-loop-at
invariant-loop-at l = first_from (λ n. not (is_known n l.named)) l.at (drop l.at l.names) ≡ first_from (λ n. not (is_known n l.named)) 0 l.names
