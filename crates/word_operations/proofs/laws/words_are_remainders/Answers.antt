use Rattle.word_operations.proofs.ReadingLaws.{words_are_remainders}
use Rattle.word_operations.proofs.laws.words_are_remainders.Goals as goal

pub returns : goal.returns
returns c = words_are_remainders
