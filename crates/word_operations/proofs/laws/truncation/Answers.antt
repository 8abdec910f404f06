use Rattle.word_operations.proofs.BitLaws.{truncation}
use Rattle.word_operations.proofs.laws.truncation.Goals as goal

pub returns : goal.returns
returns c = truncation
