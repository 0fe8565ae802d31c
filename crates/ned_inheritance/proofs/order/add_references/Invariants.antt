use Rattle.std.proofs.Common.{◌≡◌, ◌++◌, drop}
use Rattle.ned_inheritance.specs.Inheritance.{types_in}
use Rattle.ned_inheritance.proofs.order.add_references.Given as goal

abbrev pub invariant-loop-declared : goal.invariant-loop-declared
invariant-loop-declared l = types_in l.refs.items ++ drop l.declared-index l.types ≡ types_in l.fn.refs.items ++ l.types
