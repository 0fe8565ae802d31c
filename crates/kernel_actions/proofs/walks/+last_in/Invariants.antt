use Rattle.std.proofs.Common.{◌≡◌, ◌-◌, drop}
use Rattle.kernel_actions.specs.Walks.{greatest, last_below}
use Rattle.kernel_actions.proofs.walks.+last_in.Given as goal

abbrev pub decreases-last_in : goal.decreases-last_in
decreases-last_in l = l.depth

-- the greatest so far, and of those that are left
abbrev pub invariant-loop-inner : goal.invariant-loop-inner
invariant-loop-inner l = greatest (last_below (l.depth - 1) l.children) l.last (drop l.inner-index l.inner-items) ≡ last_below l.depth l.children l.id
