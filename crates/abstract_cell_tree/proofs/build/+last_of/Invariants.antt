use Rattle.abstract_cell_tree.proofs.build.+last_of.Given as goal

abbrev pub decreases-last_of : goal.decreases-last_of
decreases-last_of g l = l.count
