use Rattle.word_operations.proofs.ArithmeticLaws.{signed_halves}
use Rattle.word_operations.proofs.laws.signed_halves.Goals as goal

pub returns : goal.returns
returns c = signed_halves
