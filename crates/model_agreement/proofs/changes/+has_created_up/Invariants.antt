use Rattle.model_agreement.proofs.changes.+has_created_up.Given as goal

abbrev pub decreases-has_created_up : goal.decreases-has_created_up
decreases-has_created_up l = l.depth
