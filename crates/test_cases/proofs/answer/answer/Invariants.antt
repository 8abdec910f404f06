use Rattle.test_cases.proofs.answer.answer.Given as goal

abbrev pub ghosts-analysed : goal.ghosts-analysed
ghosts-analysed a = record { name = a.blank.name; parts = a.blank.parts }
