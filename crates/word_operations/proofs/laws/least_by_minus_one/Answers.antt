use Rattle.word_operations.proofs.DivisionLaws.{least_by_minus_one}
use Rattle.word_operations.proofs.laws.least_by_minus_one.Goals as goal

pub returns : goal.returns
returns c = least_by_minus_one
