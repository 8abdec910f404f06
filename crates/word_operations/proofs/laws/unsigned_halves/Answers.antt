use Rattle.word_operations.proofs.ArithmeticLaws.{unsigned_halves}
use Rattle.word_operations.proofs.laws.unsigned_halves.Goals as goal

pub returns : goal.returns
returns c = unsigned_halves
