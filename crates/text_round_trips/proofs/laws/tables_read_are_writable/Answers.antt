use Rattle.text_round_trips.proofs.Tables.{tables_read_are_writable}
use Rattle.text_round_trips.proofs.laws.tables_read_are_writable.Goals as goal

pub returns : goal.returns
returns g c = tables_read_are_writable g.T.PlainTexts.Reads g.T.PlainTexts.word_in g.T.PlainTexts.IsText g.T.PlainTexts.word_text g.T.PlainTexts.elements g.T.PlainTexts.IsPrintable g.T.PlainTexts.WordFits
