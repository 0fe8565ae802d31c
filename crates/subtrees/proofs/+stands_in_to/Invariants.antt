use Rattle.subtrees.proofs.+stands_in_to.Given as goal

abbrev pub decreases-stands_in_to : goal.decreases-stands_in_to
decreases-stands_in_to l = l.depth
