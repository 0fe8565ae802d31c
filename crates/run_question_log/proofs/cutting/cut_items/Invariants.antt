use Rattle.std.proofs.Common.{◌≡◌, take, length}
use Rattle.run_question_log.proofs.cutting.cut_items.Given as goal

-- the first ones are the same
abbrev pub invariant-loop-items : goal.invariant-loop-items
invariant-loop-items g l = take l.left l.items ≡ take l.left l.fn.items

abbrev pub decreases-loop-items : goal.decreases-loop-items
decreases-loop-items g l = length l.items
