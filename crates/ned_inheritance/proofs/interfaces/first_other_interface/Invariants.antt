use Rattle.std.proofs.Common.{◌≡◌, not, drop}
use Rattle.ned_inheritance.specs.Places.{first_from}
use Rattle.ned_types.specs.Types.{type_named}
use Rattle.ned_inheritance.specs.Interfaces.{is_interface_for}
use Rattle.ned_inheritance.proofs.interfaces.first_other_interface.Given as goal

abbrev pub invariant-loop-at : goal.invariant-loop-at
invariant-loop-at l = first_from (λ n. not (is_interface_for l.kind (type_named n l.named))) l.at (drop l.at l.names) ≡ first_from (λ n. not (is_interface_for l.kind (type_named n l.named))) 0 l.names
