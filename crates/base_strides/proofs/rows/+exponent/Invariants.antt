use Rattle.base_strides.proofs.rows.+exponent.Given as goal

abbrev pub decreases-exponent : goal.decreases-exponent
decreases-exponent l = l.k
