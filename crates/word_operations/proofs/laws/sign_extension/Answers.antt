use Rattle.word_operations.proofs.CastLaws.{sign_extension}
use Rattle.word_operations.proofs.laws.sign_extension.Goals as goal

pub returns : goal.returns
returns c = sign_extension
