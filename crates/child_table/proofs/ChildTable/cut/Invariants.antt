-- the first ones are the same
use Rattle.std.proofs.Common.{◌≡◌, take, length}
use Rattle.child_table.proofs.ChildTable.cut.Given as goal

abbrev pub invariant-loop-self : goal.invariant-loop-self
invariant-loop-self l = take l.left l.self ≡ take l.left l.fn.self

abbrev pub decreases-loop-self : goal.decreases-loop-self
decreases-loop-self l = length l.self
