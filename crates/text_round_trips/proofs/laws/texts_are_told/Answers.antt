use Rattle.text_round_trips.proofs.Tables.{texts_are_told}
use Rattle.text_round_trips.proofs.laws.texts_are_told.Goals as goal

pub returns : goal.returns
returns g c = texts_are_told g.T.PlainTexts.Reads g.T.PlainTexts.word_in g.T.PlainTexts.IsText g.T.PlainTexts.word_text g.T.PlainTexts.elements g.T.PlainTexts.IsPrintable g.T.PlainTexts.WordFits
