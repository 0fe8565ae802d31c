use Rattle.std.proofs.Common.{◌≡◌, ◌++◌, length, reverse}
use Rattle.ned_scopes.proofs.plain.turned_again.Given as goal

abbrev pub invariant-loop-one : goal.invariant-loop-one
invariant-loop-one l = l.turned ++ reverse l.rest ≡ reverse l.fn.types

abbrev pub decreases-loop-one : goal.decreases-loop-one
decreases-loop-one l = length l.rest
