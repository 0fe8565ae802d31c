-- the lists are those that were there
use Rattle.std.proofs.Common.{◌≡◌, ◌+◌, ◌-◌, ℕ}
use Rattle.std.specs.Vec.{vec_len}
use Rattle.child_table.specs.Children.{list_at}
use Rattle.child_table.proofs.reach.Given as goal

abbrev pub invariant-loop-alloc : goal.invariant-loop-alloc
invariant-loop-alloc l = (p : ℕ) → list_at l.lists.items p ≡ list_at l.fn.lists.items p

abbrev pub decreases-loop-alloc : goal.decreases-loop-alloc
decreases-loop-alloc l = l.place + 1 - vec_len l.lists
