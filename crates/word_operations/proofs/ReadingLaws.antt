-- What holds of readings and words.
use Rattle.std.proofs.Common.{sym}
use Rattle.word_operations.specs.Op2.{high_part}
use Rattle.word_operations.specs.Laws.{ReadingsAreWords, WordsAreRemainders}
use Rattle.word_operations.proofs.Readings.{signed_reading, unsigned-signed, signed-unsigned, unsigned_fits, high_part-unsigned}

pub readings_are_words : ReadingsAreWords
readings_are_words w width = (
  λ x below. (signed_reading w x width.0 below, unsigned-signed w x below),
  λ z reading. (unsigned_fits w z, signed-unsigned w z width.0 reading),
)

pub words_are_remainders : WordsAreRemainders
words_are_remainders w z = (unsigned_fits w z, (high_part z w, sym (high_part-unsigned w z)))
