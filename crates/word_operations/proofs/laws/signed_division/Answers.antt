use Rattle.word_operations.proofs.DivisionLaws.{signed_division}
use Rattle.word_operations.proofs.laws.signed_division.Goals as goal

pub returns : goal.returns
returns c = signed_division
