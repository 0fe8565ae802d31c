-- the slots say what they said
use Rattle.std.proofs.Common.{◌≡◌, ◌+◌, ◌-◌}
use Rattle.std.specs.Vec.{vec_len}
use Rattle.event_set.specs.declared.places.TimerKey.{TimerKey}
use Rattle.event_set.specs.Keys.{first_at}
use Rattle.event_set.proofs.timers.reach.Given as goal

abbrev pub invariant-loop-firsts : goal.invariant-loop-firsts
invariant-loop-firsts l = (t : TimerKey) → first_at l.firsts.items t ≡ first_at l.fn.firsts.items t

abbrev pub decreases-loop-firsts : goal.decreases-loop-firsts
decreases-loop-firsts l = l.id + 1 - vec_len l.firsts
