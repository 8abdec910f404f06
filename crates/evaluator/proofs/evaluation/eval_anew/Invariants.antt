use Rattle.evaluator.proofs.evaluation.eval_anew.Given as goal

abbrev pub ghosts-evaluate_counted : goal.ghosts-evaluate_counted
ghosts-evaluate_counted g a = record { name = a.blank.name; parts = a.blank.parts }
