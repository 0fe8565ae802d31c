use Rattle.result_lines.proofs.next_vector.+next_around_up.Given as goal

abbrev pub decreases-next_around_up : goal.decreases-next_around_up
decreases-next_around_up l = l.depth
