use Rattle.test_worklist.proofs.answer.open_answer.Given as goal

abbrev pub ghosts-analysed_open : goal.ghosts-analysed_open
ghosts-analysed_open a = record { name = a.blank.name; parts = a.blank.parts }

abbrev pub ghosts-checked_open : goal.ghosts-checked_open
ghosts-checked_open a = record { name = a.blank.name; parts = a.blank.parts }
