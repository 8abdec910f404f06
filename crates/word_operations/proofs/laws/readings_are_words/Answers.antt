use Rattle.word_operations.proofs.ReadingLaws.{readings_are_words}
use Rattle.word_operations.proofs.laws.readings_are_words.Goals as goal

pub returns : goal.returns
returns c = readings_are_words
