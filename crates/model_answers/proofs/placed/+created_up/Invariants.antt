use Rattle.model_answers.proofs.placed.+created_up.Given as goal

abbrev pub decreases-created_up : goal.decreases-created_up
decreases-created_up l = l.depth
