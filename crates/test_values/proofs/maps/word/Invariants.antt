use Rattle.test_values.proofs.maps.word.Given as goal

abbrev pub invariant-loop-n : goal.invariant-loop-n
invariant-loop-n g l = g.B.Base.algebra.words.fits l.ctx 8 l.out
