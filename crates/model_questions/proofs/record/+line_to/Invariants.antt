use Rattle.model_questions.proofs.record.+line_to.Given as goal

abbrev pub decreases-line_to : goal.decreases-line_to
decreases-line_to l = l.depth
