use Rattle.test_worklist.proofs.answer.answer.Given as goal

abbrev pub ghosts-analysed : goal.ghosts-analysed
ghosts-analysed a = record { name = a.blank.name; parts = a.blank.parts }

abbrev pub ghosts-checked : goal.ghosts-checked
ghosts-checked a = record { name = a.blank.name; parts = a.blank.parts }
