use Rattle.word_operations.proofs.CastLaws.{zero_extension}
use Rattle.word_operations.proofs.laws.zero_extension.Goals as goal

pub returns : goal.returns
returns c = zero_extension
