use Rattle.std.proofs.Common.{◌≡◌}
use Rattle.ned_inheritance.specs.Order.{first_left, steps_left}
use Rattle.ned_inheritance.proofs.rounds.last_left.Given as goal

abbrev pub invariant-loop-step : goal.invariant-loop-step
invariant-loop-step l = l.number ≡ steps_left l.named l.order l.types l.step (first_left l.order l.types)
