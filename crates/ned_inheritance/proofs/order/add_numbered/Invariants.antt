use Rattle.ned_inheritance.specs.Inheritance.{types_in}
use Rattle.ned_inheritance.specs.Order.{AreAmong}
use Rattle.ned_inheritance.proofs.order.add_numbered.Given as goal

abbrev pub invariant-loop-number : goal.invariant-loop-number
invariant-loop-number l = AreAmong (types_in l.refs.items) l.types
