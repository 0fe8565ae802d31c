use Rattle.recorders.proofs.places.+add_hearers_up.Given as goal

abbrev pub decreases-add_hearers_up : goal.decreases-add_hearers_up
decreases-add_hearers_up l = l.depth
