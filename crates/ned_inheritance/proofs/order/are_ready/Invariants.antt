use Rattle.std.proofs.Common.{◌≡◌, drop}
use Rattle.ned_inheritance.specs.Order.{are_ready}
use Rattle.ned_inheritance.proofs.order.are_ready.Given as goal

abbrev pub invariant-loop-name : goal.invariant-loop-name
invariant-loop-name l = are_ready l.named l.seen (drop l.name-index l.names) ≡ are_ready l.named l.seen l.names
