use Rattle.model_answers.proofs.placed.+line_up.Given as goal

abbrev pub decreases-line_up : goal.decreases-line_up
decreases-line_up l = l.depth
