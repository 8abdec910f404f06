use Rattle.fixpoint_case_leaves.proofs.leaves.transfer_once.Given as goal

abbrev pub ghosts-transfer_with : goal.ghosts-transfer_with
ghosts-transfer_with g a = record { name = a.blank.name; parts = a.blank.parts }
