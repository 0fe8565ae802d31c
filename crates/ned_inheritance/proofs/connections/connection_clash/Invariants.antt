use Rattle.std.proofs.Common.{◌≡◌, drop}
use Rattle.ned_inheritance.specs.Places.{first_told, item_clash_in}
use Rattle.ned_inheritance.proofs.connections.connection_clash.Given as goal

abbrev pub invariant-loop-number : goal.invariant-loop-number
invariant-loop-number l = first_told (item_clash_in l.named) l.number (drop l.number l.items) ≡ first_told (item_clash_in l.named) 0 l.items
