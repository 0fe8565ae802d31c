use Rattle.std.proofs.Common.{◌≡◌, ◌+◌, drop}
use Rattle.checkpoints.specs.Stored.{number_up_to}
use Rattle.checkpoints.proofs.positions.count_up_to.Given as goal

-- those before, and those that are left, are all
abbrev pub invariant-loop-index : goal.invariant-loop-index
invariant-loop-index l = l.index + number_up_to l.event (drop l.index l.counts) ≡ number_up_to l.event l.counts
