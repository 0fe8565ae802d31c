-- the slots say what they said
use Rattle.std.proofs.Common.{◌≡◌, ◌+◌, ◌-◌, ℕ, get_or}
use Rattle.std.specs.Vec.{vec_len}
use Rattle.id_lists.proofs.reach.Given as goal

abbrev pub invariant-loop-counts : goal.invariant-loop-counts
invariant-loop-counts l = (n : ℕ) → get_or l.counts.items n 0 ≡ get_or l.fn.counts.items n 0

abbrev pub decreases-loop-counts : goal.decreases-loop-counts
decreases-loop-counts l = l.id + 1 - vec_len l.counts
