use Rattle.tsl_cli.proofs.main.Given as goal

abbrev pub ghosts-answer_words : goal.ghosts-answer_words
ghosts-answer_words a = record { name = a.blank.name; parts = a.blank.parts }
