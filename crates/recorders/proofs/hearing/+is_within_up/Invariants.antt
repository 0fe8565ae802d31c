use Rattle.recorders.proofs.hearing.+is_within_up.Given as goal

abbrev pub decreases-is_within_up : goal.decreases-is_within_up
decreases-is_within_up l = l.depth
