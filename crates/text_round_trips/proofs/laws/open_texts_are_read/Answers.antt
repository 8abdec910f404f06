use Rattle.text_round_trips.proofs.Tables.{open_texts_are_read}
use Rattle.text_round_trips.proofs.laws.open_texts_are_read.Goals as goal

pub returns : goal.returns
returns g c = open_texts_are_read g.T.PlainTexts.Reads g.T.PlainTexts.word_in g.T.PlainTexts.IsText g.T.PlainTexts.word_text g.T.PlainTexts.elements g.T.PlainTexts.IsPrintable g.T.PlainTexts.WordFits
