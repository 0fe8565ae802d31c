use Rattle.std.proofs.Common.{◌≡◌, ◌++◌, List, length}
use Rattle.ned_trees.specs.declared.declarations.TypeDeclaration.{TypeDeclaration}
use Rattle.ned_inheritance.specs.Inheritance.{types_in}
use Rattle.ned_inheritance.specs.Flats.{FlatsAlong}
use Rattle.ned_inheritance.proofs.flats.add_flats.Given as goal

abbrev pub invariant-loop-rest : goal.invariant-loop-rest
invariant-loop-rest l = (done : List TypeDeclaration) × FlatsAlong l.lines.entries l.flats.entries l.named done × (done ++ types_in l.rest ≡ types_in l.order)

abbrev pub decreases-loop-rest : goal.decreases-loop-rest
decreases-loop-rest l = length l.rest
