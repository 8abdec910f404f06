use Rattle.base_strides.proofs.stops.+halvings.Given as goal

abbrev pub decreases-halvings : goal.decreases-halvings
decreases-halvings l = l.w
