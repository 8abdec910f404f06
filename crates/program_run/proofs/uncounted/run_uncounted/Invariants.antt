use Rattle.program_run.proofs.uncounted.run_uncounted.Given as goal

abbrev pub ghosts-run_counted : goal.ghosts-run_counted
ghosts-run_counted g a = record { name = a.blank.name; parts = a.blank.parts }
