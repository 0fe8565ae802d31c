use Rattle.ini_trees.specs.Numbers.{IsWalk, steps_left}
use Rattle.ini_trees.proofs.order.order_behind.Given as goal

abbrev pub invariant-loop-top : goal.invariant-loop-top
invariant-loop-top l = IsWalk l.rows l.root l.walk.path l.walk.passed l.walk.done l.walk.order

abbrev pub decreases-loop-top : goal.decreases-loop-top
decreases-loop-top l = steps_left l.rows l.walk
