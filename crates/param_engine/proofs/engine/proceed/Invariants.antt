use Rattle.std.proofs.Common.{◌+◌}
use Rattle.param_engine.specs.Tables.{known}
use Rattle.param_engine.specs.Turns.{came_to, asks}
use Rattle.param_engine.specs.Working.{GoesOn}
use Rattle.param_engine.proofs.engine.proceed.Given as goal

abbrev pub invariant-loop-turn : goal.invariant-loop-turn
invariant-loop-turn g l = GoesOn l.table.entries (known g.A.Key.PartialEq.eq l.table.entries)
    l.fn.frame.asked (came_to (g.A.Asker.resumed l.asker l.fn.frame.evaluation) l.fn.turn)
    l.frame.asked (came_to (g.A.Asker.resumed l.asker l.frame.evaluation) l.turn)

-- each value that it goes on with is one asked for less
abbrev pub decreases-loop-turn : goal.decreases-loop-turn
decreases-loop-turn g l = asks l.turn + g.A.Asker.left l.frame.evaluation
