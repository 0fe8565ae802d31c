use Rattle.std.proofs.Common.{◌≡◌, not, drop}
use Rattle.ned_inheritance.specs.Order.{is_name_ready}
use Rattle.ned_inheritance.specs.Places.{first_from}
use Rattle.ned_inheritance.proofs.rounds.first_unready.Given as goal

abbrev pub invariant-loop-at : goal.invariant-loop-at
invariant-loop-at l = first_from (λ n. not (is_name_ready l.named l.order n)) l.at (drop l.at l.names) ≡ first_from (λ n. not (is_name_ready l.named l.order n)) 0 l.names
