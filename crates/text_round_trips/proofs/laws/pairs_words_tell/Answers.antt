use Rattle.text_round_trips.proofs.Words.{pairs_words_tell}
use Rattle.text_round_trips.proofs.laws.pairs_words_tell.Goals as goal

pub returns : goal.returns
returns g c = pairs_words_tell g.A.WrittenWords.write g.B.WrittenWords.write g.A.WrittenWords.reads g.B.WrittenWords.reads g.A.WrittenWords.Fits g.B.WrittenWords.Fits
