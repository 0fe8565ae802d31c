use Rattle.param_engine.specs.Steps.{IsGoingBy, room}
use Rattle.param_engine.specs.Working.{ruled}
use Rattle.param_engine.proofs.engine.find.Given as goal

abbrev pub invariant-loop-going : goal.invariant-loop-going
invariant-loop-going g l = IsGoingBy (ruled g.A.Key.PartialEq.eq (g.A.Asker.asking l.asker) (g.A.Asker.circle l.asker)) (g.A.Asker.resumed l.asker)
    l.fn.table.entries l.fn.key l.table l.going l.turn

abbrev pub decreases-loop-going : goal.decreases-loop-going
decreases-loop-going g l = room l.table.entries l.going.keys.keys
