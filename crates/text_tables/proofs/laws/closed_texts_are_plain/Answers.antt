use Rattle.text_tables.proofs.Plain.{closed_texts_are_plain}
use Rattle.text_tables.proofs.laws.closed_texts_are_plain.Goals as goal

pub returns : goal.returns
returns g c = closed_texts_are_plain g.T.PlainTableTexts.word_text g.T.PlainTableTexts.IsElement
