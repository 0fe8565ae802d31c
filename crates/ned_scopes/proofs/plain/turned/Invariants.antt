use Rattle.std.proofs.Common.{◌≡◌, ◌++◌, length, map, reverse}
use Rattle.ned_scopes.specs.Scopes.{declared_of}
use Rattle.ned_scopes.proofs.plain.turned.Given as goal

abbrev pub invariant-loop-one : goal.invariant-loop-one
invariant-loop-one l = map declared_of l.rest ++ reverse l.types ≡ map declared_of l.fn.nested

abbrev pub decreases-loop-one : goal.decreases-loop-one
decreases-loop-one l = length l.rest
