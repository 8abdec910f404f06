use Rattle.word_operations.proofs.DivisionLaws.{unsigned_division}
use Rattle.word_operations.proofs.laws.unsigned_division.Goals as goal

pub returns : goal.returns
returns c = unsigned_division
