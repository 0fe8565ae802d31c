use Rattle.std.proofs.Common.{◌≡◌, not, drop}
use Rattle.ned_types.specs.Types.{is_type_named}
use Rattle.ned_inheritance.specs.Places.{first_from}
use Rattle.ned_inheritance.proofs.rounds.first_left.Given as goal

abbrev pub invariant-loop-number : goal.invariant-loop-number
invariant-loop-number l = first_from (λ t. not (is_type_named t.name l.order)) l.number (drop l.number l.types) ≡ first_from (λ t. not (is_type_named t.name l.order)) 0 l.types
