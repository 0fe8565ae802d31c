use Rattle.std.proofs.Common.{◌≡◌, ◌++◌}
use Rattle.ned_inheritance.specs.Inheritance.{types_in}
use Rattle.ned_inheritance.proofs.named.NamedTypes.references.Given as goal

abbrev pub invariant-loop-declared : goal.invariant-loop-declared
invariant-loop-declared l = types_in l.refs.items ++ types_in l.declared-iterator ≡ l.self
