use Rattle.kernel_call_views.proofs.+is_whole.Given as goal

abbrev pub decreases-is_whole : goal.decreases-is_whole
decreases-is_whole l = l.depth
