-- the first ones are the same, and so are the records
use Rattle.std.proofs.Common.{◌≡◌, length, take}
use Rattle.kernel_actions.proofs.module_list.ModuleList.cut_dead.Given as goal

abbrev pub invariant-loop-self : goal.invariant-loop-self
invariant-loop-self l = record l.self { dead = take l.left l.self.dead } ≡ record l.fn.self { dead = take l.left l.fn.self.dead }

abbrev pub decreases-loop-self : goal.decreases-loop-self
decreases-loop-self l = length l.self.dead
