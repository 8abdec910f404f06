use Rattle.word_operations.proofs.DivisionLaws.{division_by_zero}
use Rattle.word_operations.proofs.laws.division_by_zero.Goals as goal

pub returns : goal.returns
returns c = division_by_zero
